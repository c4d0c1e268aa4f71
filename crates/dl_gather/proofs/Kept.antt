-- Nobody is early or left asleep, whatever is called.
use Rattle.std.proofs.Common.{◌≡◌, ◌∙◌, sym, refl, ap, subst, ℕ, ◌+◌, ◌<◌, ◌≤◌, ◌⊎◌, inl, inr, zero, suc, Bool, true, false, cond, List, [], ◌∷◌, map, length, set, arith}
use Rattle.std.specs.Prelude.{if◌then◌else◌, nat_lt, slice_set}
use Rattle.std.specs.List.{count_by}
use Rattle.dl_gather.specs.Gathering.{Gathering, IsSettled, arrived, change, each, gathering, is_held, put, ready, running, sending, settled, stop, waiting, waits_as, with_out}
use Rattle.dl_gather.specs.Tasks.{is_arrived, is_ready, is_running, is_sending, is_waiting, numbers_of, numbers_turned, turned}
use Rattle.dl_gather.specs.declared.numbers.Numbers.{Numbers}
use Rattle.dl_gather.specs.declared.task.Task.{Task}
use Rattle.dl_gather.specs.declared.task.Task.TheVariants.{Outside, Runs, Arrived, Sends, Waits, Ready}
use Rattle.dl_gather.specs.declared.task.Turn.{Turn}
use Rattle.dl_gather.specs.declared.task.Turn.TheVariants as turn
use Rattle.dl_gather.proofs.Counts.{count-cons, numbers_of-turned}
use Rattle.dl_gather.proofs.Settling.{settled_sends, settled_ready, settled_runs, settled_held, settled_send}

-- none or some
pub none_or_some : (n : ℕ) → (n ≡ 0) ⊎ (0 < n)
none_or_some zero = inl refl
none_or_some (suc n) = inr (omega arith)

pub true_or_false : (b : Bool) → (b ≡ true) ⊎ (b ≡ false)
true_or_false true = inl refl
true_or_false false = inr refl

-- how much a task counts that passes a test, or doesn't
abbrev pub one : Bool → ℕ
one b = cond b 1 0

-- a task that does something else doesn't count
pub count-set : (p : Task → Bool) (tasks : List Task) (number : ℕ) (to : Task) → p to ≡ false → count_by p (set tasks number to) ≤ count_by p tasks
count-set p [] number to h = omega arith
count-set p (task ∷ tasks) zero to h =
    let e : cond (p to) 1 0 ≡ 0 = ap one h in
    omega (arith, e, count-cons p to tasks, count-cons p task tasks)
count-set p (task ∷ tasks) (suc number) to h =
    let rest = count-set p tasks number to h in
    omega (arith, count-cons p task (set tasks number to), count-cons p task tasks)

-- the numbers after a turn of all
module _ (some : Turn) (g : Gathering) where
  turned_numbers : numbers_of (map (turned some) g.tasks) ≡ numbers_turned some (numbers_of g.tasks)
  turned_numbers = numbers_of-turned some g.tasks

  pub running_each : running (each some g) ≡ (numbers_turned some (numbers_of g.tasks)).runs
  running_each = ap (λ (n : Numbers). n.runs) turned_numbers

  pub ready_each : ready (each some g) ≡ (numbers_turned some (numbers_of g.tasks)).ready
  ready_each = ap (λ (n : Numbers). n.ready) turned_numbers

  pub arrived_each : arrived (each some g) ≡ (numbers_turned some (numbers_of g.tasks)).arrived
  arrived_each = ap (λ (n : Numbers). n.arrived) turned_numbers

  pub sending_each : sending (each some g) ≡ (numbers_turned some (numbers_of g.tasks)).sends
  sending_each = ap (λ (n : Numbers). n.sends) turned_numbers

  pub waiting_each : waiting (each some g) ≡ (numbers_turned some (numbers_of g.tasks)).waits
  waiting_each = ap (λ (n : Numbers). n.waits) turned_numbers

-- nobody is early, and whoever waits has a batch to wait for
pub record MaySettle (g : Gathering) : Type 0 where
  pub nobody_is_early : 0 < sending g → running g ≡ 0
  pub waiting_sleep : 0 < waiting g → 0 < g.out

module _ (g : Gathering) (may : MaySettle g) where
  settles_sends : 0 < sending g → IsSettled (settled g)
  settles_sends s = subst IsSettled (sym (settled_sends g s)) (record {
    nobody_is_early = may.nobody_is_early;
    ready_sleep = λ _. s;
    arrived_sleep = λ _. inl (omega arith);
    waiting_sleep = may.waiting_sleep;
  })

  module _ (s : sending g ≡ 0) where
    settles_ready : 0 < ready g → IsSettled (settled g)
    settles_ready r =
        let run = running_each turn.Run g in
        let rdy = ready_each turn.Run g in
        let snd = sending_each turn.Run g in
        let wts = waiting_each turn.Run g in
        subst IsSettled (sym (settled_ready g s r)) (record {
          nobody_is_early = λ h. absurd (omega arith);
          ready_sleep = λ h. absurd (omega arith);
          arrived_sleep = λ _. inl (omega arith);
          waiting_sleep = λ h. may.waiting_sleep (omega arith);
        })

    module _ (r : ready g ≡ 0) where
      settles_runs : 0 < running g → IsSettled (settled g)
      settles_runs n = subst IsSettled (sym (settled_runs g s r n)) (record {
        nobody_is_early = λ h. absurd (omega arith);
        ready_sleep = λ h. absurd (omega arith);
        arrived_sleep = λ _. inl (omega arith);
        waiting_sleep = may.waiting_sleep;
      })

      module _ (n : running g ≡ 0) where
        settles_held : is_held g ≡ true → IsSettled (settled g)
        settles_held h = subst IsSettled (sym (settled_held g s r n h)) (record {
          nobody_is_early = λ _. n;
          ready_sleep = λ k. absurd (omega arith);
          arrived_sleep = λ _. inr h;
          waiting_sleep = may.waiting_sleep;
        })

        settles_send : is_held g ≡ false → IsSettled (settled g)
        settles_send h =
            let run = running_each turn.Send g in
            let rdy = ready_each turn.Send g in
            let arr = arrived_each turn.Send g in
            let wts = waiting_each turn.Send g in
            subst IsSettled (sym (settled_send g s r n h)) (record {
              nobody_is_early = λ _. omega arith;
              ready_sleep = λ k. absurd (omega arith);
              arrived_sleep = λ k. absurd (omega arith);
              waiting_sleep = λ k. may.waiting_sleep (omega arith);
            })

  pub settles : IsSettled (settled g)
  settles = elim (none_or_some (sending g)) [
    | inr s ↦ settles_sends s
    | inl s ↦ elim (none_or_some (ready g)) [
      | inr r ↦ settles_ready s r
      | inl r ↦ elim (none_or_some (running g)) [
        | inr n ↦ settles_runs s r n
        | inl n ↦ elim (true_or_false (is_held g)) [ inl h ↦ settles_held s r n h | inr h ↦ settles_send s r n h ]
      ]
    ]
  ]

pub may_settle : (g : Gathering) → IsSettled g → MaySettle g
may_settle g kept = record { nobody_is_early = kept.nobody_is_early; waiting_sleep = kept.waiting_sleep }

-- with other batches out, but some if there were some
pub may_settle_out : (g : Gathering) (out : ℕ) → (0 < g.out → 0 < out) → MaySettle g → MaySettle (with_out out g)
may_settle_out g out more may = record { nobody_is_early = may.nobody_is_early; waiting_sleep = λ h. more (may.waiting_sleep h) }

-- whatever a task does that neither runs nor sends
pub change_settles : (number : ℕ) (to : Task) (g : Gathering) → is_running to ≡ false → is_sending to ≡ false → (is_waiting to ≡ false) ⊎ (0 < g.out)
    → MaySettle g → IsSettled (change number to g)
change_settles number to g runs sends waits may =
    let r = count-set is_running g.tasks number to runs in
    let s = count-set is_sending g.tasks number to sends in
    let w : 0 < waiting (put number to g) → 0 < g.out =
    elim waits [ inl none ↦ λ h. let c = count-set is_waiting g.tasks number to none in may.waiting_sleep (omega arith) | inr out ↦ λ h. out ] in
    settles (put number to g) (record {
      nobody_is_early = λ h. let e = may.nobody_is_early (omega arith) in omega arith;
      waiting_sleep = w;
    })

waits_settle_if : (number : ℕ) (g : Gathering) → MaySettle g → (out : Bool) → nat_lt 0 g.out ≡ out
    → IsSettled (change number (if out then Waits else Outside) g)
waits_settle_if number g may true h = change_settles number Waits g refl refl (inr (grind (arith, h))) may
waits_settle_if number g may false h = change_settles number Outside g refl refl (inl refl) may

-- a task that waits
pub waits_settle : (number : ℕ) (g : Gathering) → MaySettle g → IsSettled (change number (waits_as g) g)
waits_settle number g may = waits_settle_if number g may (nat_lt 0 g.out) refl

-- once whoever waits is ready
pub woken_settles : (g : Gathering) → (0 < sending g → running g ≡ 0) → IsSettled (settled (each turn.Wake g))
woken_settles g early =
    let run = running_each turn.Wake g in
    let snd = sending_each turn.Wake g in
    let wts = waiting_each turn.Wake g in
    settles (each turn.Wake g) (record {
      nobody_is_early = λ h. let e = early (omega arith) in omega arith;
      waiting_sleep = λ h. absurd (omega arith);
    })

-- once all are outside
pub stop_settles : (g : Gathering) → IsSettled (stop g)
stop_settles g =
    let run = running_each turn.Leave g in
    let rdy = ready_each turn.Leave g in
    let arr = arrived_each turn.Leave g in
    let wts = waiting_each turn.Leave g in
    record {
      nobody_is_early = λ _. run;
      ready_sleep = λ h. absurd (omega arith);
      arrived_sleep = λ h. absurd (omega arith);
      waiting_sleep = λ h. absurd (omega arith);
    }
