-- What holds of each gathering that calls can reach.
use Rattle.std.proofs.Common.{◌≡◌, ◌∙◌, sym, refl, ap, subst, ℕ, ◌+◌, ◌-◌, ◌<◌, ◌≤◌, ◌⊎◌, inl, inr, zero, suc, min, Bool, true, false, ◌&&◌, cond, List, [], ◌∷◌, replicate, arith}
use Rattle.std.specs.Prelude.{if◌then◌else◌, nat_lt}
use Rattle.std.specs.List.{count_by}
use Rattle.dl_gather.specs.Gathering.{Gathering, IsSettled, arrive_from, batch_ended, change, each, ended_from, enter_from, gathering, is_held, is_rounds, leave, most_out, sent_from, settled, stop, wait_from, waiting, waits_as, with_out, woken}
use Rattle.dl_gather.specs.Runs.{Move, NothingStalls, after, after_move}
use Rattle.dl_gather.specs.Runs.Move.{Enter, Arrive, Sent, WaitFor, Ended, BatchEnded, Leave, Stop}
use Rattle.dl_gather.specs.Tasks.{is_arrived, is_ready, is_running, is_sending, is_waiting, task_at}
use Rattle.dl_gather.specs.declared.task.Policy.{Policy}
use Rattle.dl_gather.specs.declared.task.Task.{Task}
use Rattle.dl_gather.specs.declared.task.Task.TheVariants.{Outside, Runs, Arrived, Sends, Waits, Ready}
use Rattle.dl_gather.specs.declared.task.Turn.TheVariants as turn
use Rattle.dl_gather.proofs.Counts.{count-cons}
use Rattle.dl_gather.proofs.Settling.{some, none}
use Rattle.dl_gather.proofs.Kept.{MaySettle, change_settles, may_settle, may_settle_out, none_or_some, one, settles, stop_settles, waits_settle, woken_settles}

module _ (number : ℕ) (g : Gathering) (kept : IsSettled g) where
  changes : (to : Task) → is_running to ≡ false → is_sending to ≡ false → is_waiting to ≡ false → IsSettled (change number to g)
  changes to runs sends waits = change_settles number to g runs sends (inl waits) (may_settle g kept)

  enter_settles : (task : Task) → IsSettled (enter_from task number g)
  enter_settles Outside = changes Ready refl refl refl
  enter_settles Runs = kept
  enter_settles Arrived = kept
  enter_settles Sends = kept
  enter_settles Waits = kept
  enter_settles Ready = kept

  arrive_settles : (task : Task) → IsSettled (arrive_from task number g)
  arrive_settles Outside = kept
  arrive_settles Sends = kept
  arrive_settles Runs = changes Arrived refl refl refl
  arrive_settles Arrived = changes Arrived refl refl refl
  arrive_settles Waits = changes Arrived refl refl refl
  arrive_settles Ready = changes Arrived refl refl refl

  waits : IsSettled (change number (waits_as g) g)
  waits = waits_settle number g (may_settle g kept)

  wait_settles : (task : Task) → IsSettled (wait_from task number g)
  wait_settles Outside = kept
  wait_settles Runs = waits
  wait_settles Arrived = waits
  wait_settles Sends = waits
  wait_settles Waits = waits
  wait_settles Ready = waits

  ended_settles : (task : Task) → IsSettled (ended_from task number g)
  ended_settles Outside = kept
  ended_settles Runs = kept
  ended_settles Arrived = kept
  ended_settles Sends = kept
  ended_settles Waits = changes Ready refl refl refl
  ended_settles Ready = kept

-- once no batch is out, or batches are
woken_settles_if : (g : Gathering) → IsSettled g → (out : ℕ) → IsSettled (settled (woken (with_out out g)))
woken_settles_if g kept out = elim (none_or_some out) [
  | inl gone ↦ let P : Bool → Type 0 = λ b. IsSettled (settled (if b then with_out out g else each turn.Wake (with_out out g))) in
      subst P (sym (none out gone)) (woken_settles (with_out out g) kept.nobody_is_early)
  | inr there ↦ let P : Bool → Type 0 = λ b. IsSettled (settled (if b then with_out out g else each turn.Wake (with_out out g))) in
      subst P (sym (some out there)) (settles (with_out out g) (record { nobody_is_early = kept.nobody_is_early; waiting_sleep = λ _. there }))
]

-- with other batches out, but some if there were some
held_more : (policy : Bool) (old new : ℕ) → (0 < old → 0 < new) → (policy && nat_lt 0 old) ≡ true → (policy && nat_lt 0 new) ≡ true
held_more true old new more held = some new (more (grind (arith, held)))
held_more false old new more held = cc

out_settled : (g : Gathering) (out : ℕ) → (0 < g.out → 0 < out) → IsSettled g → IsSettled (with_out out g)
out_settled g out more kept = record {
  nobody_is_early = kept.nobody_is_early;
  ready_sleep = kept.ready_sleep;
  arrived_sleep = λ h. elim (kept.arrived_sleep h) [ inl goes ↦ inl goes | inr held ↦ inr (held_more (is_rounds g.policy) g.out out more held) ];
  waiting_sleep = λ h. more (kept.waiting_sleep h);
}

sent_settles : (number : ℕ) (g : Gathering) → IsSettled g → (task : Task) → IsSettled (sent_from task number g)
sent_settles number g kept Outside = kept
sent_settles number g kept Runs = kept
sent_settles number g kept Arrived = kept
sent_settles number g kept Sends = changes number g kept Ready refl refl refl
sent_settles number g kept Waits = kept
sent_settles number g kept Ready = kept

pub move_settles : (move : Move) (g : Gathering) → IsSettled g → IsSettled (after_move move g)
move_settles (Enter number) g kept = enter_settles number g kept (task_at g.tasks number)
move_settles (Arrive number) g kept = arrive_settles number g kept (task_at g.tasks number)
move_settles (Sent number batches) g kept =
    let out = min (g.out + batches) most_out in
    sent_settles number (with_out out g) (out_settled g out (λ h. omega arith) kept) (task_at g.tasks number)
move_settles (WaitFor number) g kept = wait_settles number g kept (task_at g.tasks number)
move_settles (Ended number) g kept = ended_settles number g kept (task_at g.tasks number)
move_settles BatchEnded g kept = woken_settles_if g kept (g.out - 1)
move_settles (Leave number) g kept = changes number g kept Outside refl refl refl
move_settles Stop g kept = stop_settles g

count-all_outside : (p : Task → Bool) (n : ℕ) → p Outside ≡ false → count_by p (replicate n Outside) ≡ 0
count-all_outside p zero h = refl
count-all_outside p (suc n) h =
    let e : cond (p Outside) 1 0 ≡ 0 = ap one h in
    let rest = count-all_outside p n h in
    omega (arith, e, count-cons p Outside (replicate n Outside))

pub nothing_stalls : NothingStalls
nothing_stalls policy n [] =
    let d = count-all_outside is_ready n refl in
    let a = count-all_outside is_arrived n refl in
    let w = count-all_outside is_waiting n refl in
    record {
      nobody_is_early = λ _. count-all_outside is_running n refl;
      ready_sleep = λ h. absurd (omega arith);
      arrived_sleep = λ h. absurd (omega arith);
      waiting_sleep = λ h. absurd (omega arith);
    }
nothing_stalls policy n (move ∷ before) = move_settles move (after policy n before) (nothing_stalls policy n before)
