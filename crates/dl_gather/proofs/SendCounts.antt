-- Requests that run side by side send no more often than one of them does alone.
use Rattle.std.proofs.Common.{◌≡◌, ◌∙◌, sym, refl, ap, subst, ℕ, ◌+◌, ◌-◌, ◌<◌, ◌≤◌, ◌⊎◌, inl, inr, zero, suc, min, Bool, true, false, ◌&&◌, cond, List, [], ◌∷◌, map, replicate, set, arith}
use Rattle.std.specs.Prelude.{if◌then◌else◌, nat_eq, nat_lt}
use Rattle.std.specs.List.{count_by}
use Rattle.dl_gather.specs.Gathering.{Gathering, IsSettled, arrive_from, batch_ended, change, each, ended_from, enter_from, gathering, is_held, is_rounds, leave, most_out, put, ready, running, sending, sent_from, settled, stop, wait_from, waiting, with_out, woken}
use Rattle.dl_gather.specs.Runs.{EnterFirst, Move, SendsAreRounds, WakeTogether, after, after_move, arrivals, arrives, lets_send, sends}
use Rattle.dl_gather.specs.Runs.Move.{Enter, Arrive, Sent, WaitFor, Ended, BatchEnded, Leave, Stop}
use Rattle.dl_gather.specs.Tasks.{is_arrived, is_inside, is_ready, is_running, is_sending, is_waiting, task_at, turned}
use Rattle.dl_gather.specs.declared.task.Policy.{Policy}
use Rattle.dl_gather.specs.declared.task.Policy.TheVariants.{Eager, Rounds}
use Rattle.dl_gather.specs.declared.task.Task.{Task}
use Rattle.dl_gather.specs.declared.task.Task.TheVariants.{Outside, Runs, Arrived, Sends, Waits, Ready}
use Rattle.dl_gather.specs.declared.task.Turn.{Turn}
use Rattle.dl_gather.specs.declared.task.Turn.TheVariants as turn
use Rattle.dl_gather.proofs.Counts.{count-cons}
use Rattle.dl_gather.proofs.Settling.{settled_sends, settled_ready, settled_runs, settled_held, settled_send}
use Rattle.dl_gather.proofs.Kept.{count-set, none_or_some, one, sending_each, true_or_false, waiting_each}
use Rattle.dl_gather.proofs.Reached.{nothing_stalls}

-- ---- what one task does

task_at-turned : (some : Turn) (tasks : List Task) (t : ℕ) → task_at (map (turned some) tasks) t ≡ turned some (task_at tasks t)
task_at-turned turn.Run [] t = refl
task_at-turned turn.Send [] t = refl
task_at-turned turn.Wake [] t = refl
task_at-turned turn.Leave [] t = refl
task_at-turned some (task ∷ tasks) zero = refl
task_at-turned some (task ∷ tasks) (suc t) = task_at-turned some tasks t

-- what a task does after one of them does something else
put_at : (tasks : List Task) (number : ℕ) (to : Task) (t : ℕ) → ((t ≡ number) × (task_at (set tasks number to) t ≡ to)) ⊎ (task_at (set tasks number to) t ≡ task_at tasks t)
put_at [] number to t = inr refl
put_at (task ∷ tasks) zero to zero = inl (refl, refl)
put_at (task ∷ tasks) zero to (suc t) = inr refl
put_at (task ∷ tasks) (suc number) to zero = inr refl
put_at (task ∷ tasks) (suc number) to (suc t) = elim (put_at tasks number to t) [ inl same ↦ inl (ap suc same.0, same.1) | inr other ↦ inr other ]

-- if none of the tasks passes, this one doesn't
task_fails : (p : Task → Bool) → p Outside ≡ false → (tasks : List Task) (t : ℕ) → count_by p tasks ≡ 0 → p (task_at tasks t) ≡ false
task_fails p h [] t none = h
task_fails p h (task ∷ tasks) zero none = elim (true_or_false (p task)) [
  | inl passes ↦ let e : cond (p task) 1 0 ≡ 1 = ap one passes in absurd (omega (arith, e, count-cons p task tasks))
  | inr fails ↦ fails
]
task_fails p h (task ∷ tasks) (suc t) none = task_fails p h tasks t (omega (arith, count-cons p task tasks))

-- if some of the tasks pass, here is one
task_passes : (p : Task → Bool) (tasks : List Task) → 0 < count_by p tasks → (t : ℕ) × (p (task_at tasks t) ≡ true)
task_passes p [] h = absurd (omega arith)
task_passes p (task ∷ tasks) h = elim (true_or_false (p task)) [
  | inl passes ↦ (0, passes)
  | inr fails ↦
      let e : cond (p task) 1 0 ≡ 0 = ap one fails in
      let rest = task_passes p tasks (omega (arith, e, count-cons p task tasks)) in
      (suc rest.0, rest.1)
]

-- ---- tasks that have arrived as often as was sent, and once more if they have arrived again

abbrev Bounds : (ℕ → ℕ) → ℕ → ℕ → Task → Type 0
Bounds a s t task = is_inside task ≡ true → s + one (is_arrived task) ≤ a t

abbrev Bounded : Gathering → ℕ → (ℕ → ℕ) → Type 0
Bounded g s a = (t : ℕ) → Bounds a s t (task_at g.tasks t)

module _ (a : ℕ → ℕ) (s t : ℕ) where
  bounds_turned : (some : Turn) (task : Task) → Bounds a s t task → Bounds a s t (turned some task)
  bounds_turned turn.Run Ready b = λ _. b refl
  bounds_turned turn.Send Arrived b = λ _. let e = b refl in omega arith
  bounds_turned turn.Wake Waits b = λ _. b refl
  bounds_turned turn.Leave task b = λ h. cc
  bounds_turned some task b = b

  -- if nobody else is inside, those who have arrived are let send
  only_arrived : (task : Task) → is_running task ≡ false → is_ready task ≡ false → is_sending task ≡ false → is_waiting task ≡ false
      → Bounds a s t task → Bounds a (s + 1) t (turned turn.Send task)
  only_arrived Outside r d n w b = λ h. cc
  only_arrived Runs r d n w b = cc
  only_arrived Arrived r d n w b = λ _. let e = b refl in omega arith
  only_arrived Sends r d n w b = cc
  only_arrived Waits r d n w b = cc
  only_arrived Ready r d n w b = cc

module _ (a : ℕ → ℕ) (s : ℕ) where
  bounded_each : (some : Turn) (g : Gathering) → Bounded g s a → Bounded (each some g) s a
  bounded_each some g b t = subst (Bounds a s t) (sym (task_at-turned some g.tasks t)) (bounds_turned a s t some (task_at g.tasks t) (b t))

  bounded_put : (number : ℕ) (to : Task) (g : Gathering) → Bounded g s a → Bounds a s number to → Bounded (put number to g) s a
  bounded_put number to g b own t = elim (put_at g.tasks number to t) [
    | inl same ↦ let P : ℕ → Type 0 = λ n. Bounds a s n to in subst (Bounds a s t) (sym same.1) (subst P (sym same.0) own)
    | inr other ↦ subst (Bounds a s t) (sym other) (b t)
  ]

  module _ (h : Gathering) (b : Bounded h s a) where
    abbrev Same : Gathering → Type 0
    Same g = Bounded g s a

    bounded_settled : Bounded (settled h) s a
    bounded_settled = elim (none_or_some (sending h)) [
      | inr n ↦ subst Same (sym (settled_sends h n)) b
      | inl n ↦ elim (none_or_some (ready h)) [
        | inr d ↦ subst Same (sym (settled_ready h n d)) (bounded_each turn.Run h b)
        | inl d ↦ elim (none_or_some (running h)) [
          | inr r ↦ subst Same (sym (settled_runs h n d r)) b
          | inl r ↦ elim (true_or_false (is_held h)) [
            | inl held ↦ subst Same (sym (settled_held h n d r held)) b
            | inr free ↦ subst Same (sym (settled_send h n d r free)) (bounded_each turn.Send h b)
          ]
        ]
      ]
    ]

    -- a send lets all go on that are inside, so each has arrived once more
    abbrev More : Gathering → Type 0
    More g = 0 < sending g → (is_held g ≡ false → waiting g ≡ 0) → Bounded g (s + 1) a

    module _ (n : sending h ≡ 0) where
      not_yet : More h
      not_yet some waits = absurd (omega arith)

      not_ready : More (each turn.Run h)
      not_ready some waits = let e = sending_each turn.Run h in absurd (omega arith)

      all_sent : ready h ≡ 0 → running h ≡ 0 → is_held h ≡ false → More (each turn.Send h)
      all_sent d r free some waits t =
          let w : waiting h ≡ 0 = sym (waiting_each turn.Send h) ∙ waits free in
          subst (Bounds a (s + 1) t) (sym (task_at-turned turn.Send h.tasks t))
          (only_arrived a s t (task_at h.tasks t) (task_fails is_running refl h.tasks t r) (task_fails is_ready refl h.tasks t d)
          (task_fails is_sending refl h.tasks t n) (task_fails is_waiting refl h.tasks t w) (b t))

      more_settled : More (settled h)
      more_settled = elim (none_or_some (ready h)) [
        | inr d ↦ subst More (sym (settled_ready h n d)) not_ready
        | inl d ↦ elim (none_or_some (running h)) [
          | inr r ↦ subst More (sym (settled_runs h n d r)) not_yet
          | inl r ↦ elim (true_or_false (is_held h)) [
            | inl held ↦ subst More (sym (settled_held h n d r held)) not_yet
            | inr free ↦ subst More (sym (settled_send h n d r free)) (all_sent d r free)
          ]
        ]
      ]

policy_settled : (h : Gathering) → (settled h).policy ≡ h.policy
policy_settled h = elim (none_or_some (sending h)) [
  | inr n ↦ ap (λ (g : Gathering). g.policy) (settled_sends h n)
  | inl n ↦ elim (none_or_some (ready h)) [
    | inr d ↦ ap (λ (g : Gathering). g.policy) (settled_ready h n d)
    | inl d ↦ elim (none_or_some (running h)) [
      | inr r ↦ ap (λ (g : Gathering). g.policy) (settled_runs h n d r)
      | inl r ↦ elim (true_or_false (is_held h)) [
        | inl held ↦ ap (λ (g : Gathering). g.policy) (settled_held h n d r held)
        | inr free ↦ ap (λ (g : Gathering). g.policy) (settled_send h n d r free)
      ]
    ]
  ]
]

-- ---- one call

-- what a call leaves: what was there, but for the turns that come; nobody begins to send but by a turn
record Before (policy : Policy) (senders : ℕ) (h : Gathering) (s : ℕ) (a : ℕ → ℕ) : Type 0 where
  pub policy_is : h.policy ≡ policy
  pub bounded : Bounded h s a
  pub no_more : sending h ≤ senders

abbrev Steps : Gathering → Gathering → ℕ → (ℕ → ℕ) → Type 0
Steps g new s a = Before g.policy (sending g) new s a ⊎ ((h : Gathering) × (new ≡ settled h) × Before g.policy (sending g) h s a)

module _ (g : Gathering) (s : ℕ) (a : ℕ → ℕ) (b : Bounded g s a) (number : ℕ) where
  same : Steps g g s a
  same = inl (record { policy_is = refl; bounded = b; no_more = omega arith })

  puts : (to : Task) → is_sending to ≡ false → Bounds a s number to → Steps g (change number to g) s a
  puts to n own = inr (put number to g, refl, record { policy_is = refl; bounded = bounded_put a s number to g b own; no_more = count-set is_sending g.tasks number to n })

  enters : s ≡ 0 → (task : Task) → Steps g (enter_from task number g) s a
  enters first Outside = puts Ready refl (λ _. omega arith)
  enters first Runs = same
  enters first Arrived = same
  enters first Sends = same
  enters first Waits = same
  enters first Ready = same

  arrives_steps : s + 1 ≤ a number → (task : Task) → Steps g (arrive_from task number g) s a
  arrives_steps more Outside = same
  arrives_steps more Sends = same
  arrives_steps more Runs = puts Arrived refl (λ _. more)
  arrives_steps more Arrived = puts Arrived refl (λ _. more)
  arrives_steps more Waits = puts Arrived refl (λ _. more)
  arrives_steps more Ready = puts Arrived refl (λ _. more)

  waits_if : s ≤ a number → (out : Bool) → Steps g (change number (if out then Waits else Outside) g) s a
  waits_if own true = puts Waits refl (λ _. omega arith)
  waits_if own false = puts Outside refl (λ h. cc)

  waits_steps : (task : Task) → Bounds a s number task → Steps g (wait_from task number g) s a
  waits_steps Outside own = same
  waits_steps Runs own = let e = own refl in waits_if (omega arith) (nat_lt 0 g.out)
  waits_steps Arrived own = let e = own refl in waits_if (omega arith) (nat_lt 0 g.out)
  waits_steps Sends own = let e = own refl in waits_if (omega arith) (nat_lt 0 g.out)
  waits_steps Waits own = let e = own refl in waits_if (omega arith) (nat_lt 0 g.out)
  waits_steps Ready own = let e = own refl in waits_if (omega arith) (nat_lt 0 g.out)

  ends_steps : (task : Task) → Bounds a s number task → Steps g (ended_from task number g) s a
  ends_steps Outside own = same
  ends_steps Runs own = same
  ends_steps Arrived own = same
  ends_steps Sends own = same
  ends_steps Waits own = puts Ready refl own
  ends_steps Ready own = same

  sent_steps : (task : Task) → Bounds a s number task → Steps g (sent_from task number g) s a
  sent_steps Outside own = same
  sent_steps Runs own = same
  sent_steps Arrived own = same
  sent_steps Sends own = puts Ready refl own
  sent_steps Waits own = same
  sent_steps Ready own = same

batch_steps : (g : Gathering) (s : ℕ) (a : ℕ → ℕ) → Bounded g s a → (none : Bool) → Before g.policy (sending g) (if none then g else each turn.Wake g) s a
batch_steps g s a b true = record { policy_is = refl; bounded = b; no_more = omega arith }
batch_steps g s a b false = let e = sending_each turn.Wake g in record { policy_is = refl; bounded = bounded_each a s turn.Wake g b; no_more = omega arith }

same_number : (n : ℕ) → nat_eq n n ≡ true
same_number n = grind arith

-- an arrival counts
once_more : (a : ℕ → ℕ) (s number : ℕ) → s ≤ a number → s + 1 ≤ a number + cond (arrives number (Arrive number)) 1 0
once_more a s number h = let e : cond (nat_eq number number) 1 0 ≡ 1 = ap one (same_number number) in omega (arith, e)

-- whoever enters does so before the first send
abbrev FirstOf : Move → ℕ → Type 0
FirstOf (Enter number) s = s ≡ 0
FirstOf move s = Unit {0}

module _ (g : Gathering) (s : ℕ) (a : ℕ → ℕ) (b : Bounded g s a) where
  abbrev with_move : Move → ℕ → ℕ
  with_move move t = a t + cond (arrives t move) 1 0

  raised : (move : Move) → Bounded g s (with_move move)
  raised move t inside = let e = b t inside in omega arith

  arrived_more : (number : ℕ) → (task : Task) → Bounds a s number task → Steps g (arrive_from task number g) s (with_move (Arrive number))
  arrived_more number Outside own = same g s (with_move (Arrive number)) (raised (Arrive number)) number
  arrived_more number Sends own = same g s (with_move (Arrive number)) (raised (Arrive number)) number
  arrived_more number Runs own = arrives_steps g s (with_move (Arrive number)) (raised (Arrive number)) number (once_more a s number (let e = own refl in omega arith)) Runs
  arrived_more number Arrived own = arrives_steps g s (with_move (Arrive number)) (raised (Arrive number)) number (once_more a s number (let e = own refl in omega arith)) Arrived
  arrived_more number Waits own = arrives_steps g s (with_move (Arrive number)) (raised (Arrive number)) number (once_more a s number (let e = own refl in omega arith)) Waits
  arrived_more number Ready own = arrives_steps g s (with_move (Arrive number)) (raised (Arrive number)) number (once_more a s number (let e = own refl in omega arith)) Ready

  move_steps : (move : Move) → FirstOf move s → Steps g (after_move move g) s (with_move move)
  move_steps (Enter number) first = enters g s (with_move (Enter number)) (raised (Enter number)) number first (task_at g.tasks number)
  move_steps (Arrive number) first = arrived_more number (task_at g.tasks number) (b number)
  move_steps (Sent number batches) first =
      (sent_steps (with_out (min (g.out + batches) most_out) g) s (with_move (Sent number batches)) (raised (Sent number batches)) number
      (task_at g.tasks number) (raised (Sent number batches) number))
  move_steps (WaitFor number) first = waits_steps g s (with_move (WaitFor number)) (raised (WaitFor number)) number (task_at g.tasks number) (raised (WaitFor number) number)
  move_steps (Ended number) first = ends_steps g s (with_move (Ended number)) (raised (Ended number)) number (task_at g.tasks number) (raised (Ended number) number)
  move_steps BatchEnded first =
      inr (woken (with_out (g.out - 1) g), refl, batch_steps (with_out (g.out - 1) g) s (with_move BatchEnded) (raised BatchEnded) (nat_lt 0 (g.out - 1)))
  move_steps (Leave number) first = puts g s (with_move (Leave number)) (raised (Leave number)) number Outside refl (λ h. cc)
  move_steps Stop first = let e = sending_each turn.Leave g in
      inl (record { policy_is = refl; bounded = bounded_each (with_move Stop) s turn.Leave g (raised Stop); no_more = omega arith })

both_true : (b c : Bool) → (b && c) ≡ true → (b ≡ true) × (c ≡ true)
both_true true c h = (refl, h)
both_true false c h = cc

zero_if : (n : ℕ) → nat_eq n 0 ≡ true → n ≡ 0
zero_if n h = grind (arith, h)

some_if : (n : ℕ) → nat_lt 0 n ≡ true → 0 < n
some_if n h = grind (arith, h)

-- if a call lets those who have arrived send, nobody sent before it, and somebody does after it
sends_now : (g new : Gathering) → lets_send g new ≡ true → (sending g ≡ 0) × (0 < sending new)
sends_now g new h = let e = both_true (nat_eq (sending g) 0) (nat_lt 0 (sending new)) h in (zero_if (sending g) e.0, some_if (sending new) e.1)

-- how often keys were sent, and then perhaps once more
module _ (g new : Gathering) (s : ℕ) (a : ℕ → ℕ) (steps : Steps g new s a) where
  -- not more often
  kept_bounds : Bounded new s a
  kept_bounds = elim steps [
    | inl left ↦ left.bounded
    | inr turns ↦ subst (λ (w : Gathering). Bounded w s a) (sym turns.1) (bounded_settled a s turns.0 turns.2.bounded)
  ]

  -- once more
  more_bounds : lets_send g new ≡ true → (is_held new ≡ false → waiting new ≡ 0) → Bounded new (s + 1) a
  more_bounds yet waits =
      let now = sends_now g new yet in
      elim steps [
        | inl left ↦ let e = left.no_more in absurd (omega (arith, e, now.0, now.1))
        | inr turns ↦
            let e = turns.2.no_more in
            let P : Gathering → Type 0 = λ w. 0 < sending w → (is_held w ≡ false → waiting w ≡ 0) → Bounded w (s + 1) a in
            subst P (sym turns.1) (more_settled a s turns.0 turns.2.bounded (omega (arith, e, now.0))) now.1 waits
      ]

  counted : (lets_send g new ≡ true → is_held new ≡ false → waiting new ≡ 0) → Bounded new (s + cond (lets_send g new) 1 0) a
  counted waits =
      let P : Bool → Type 0 = λ c. Bounded new (s + cond c 1 0) a in
      elim (true_or_false (lets_send g new)) [
        | inl yet ↦ subst P (sym yet) (more_bounds yet (waits yet))
        | inr none ↦ subst P (sym none) (λ t inside. let e = kept_bounds t inside in omega arith)
      ]

  kept_policy : new.policy ≡ g.policy
  kept_policy = elim steps [
    | inl left ↦ left.policy_is
    | inr turns ↦ ap (λ (w : Gathering). w.policy) turns.1 ∙ (policy_settled turns.0 ∙ turns.2.policy_is)
  ]

-- ---- all calls

outside_at : (n t : ℕ) → task_at (replicate n Outside) t ≡ Outside
outside_at zero t = refl
outside_at (suc n) zero = refl
outside_at (suc n) (suc t) = outside_at n t

sender_inside : (task : Task) → is_sending task ≡ true → is_inside task ≡ true
sender_inside Outside h = h
sender_inside Runs h = refl
sender_inside Arrived h = refl
sender_inside Sends h = refl
sender_inside Waits h = refl
sender_inside Ready h = refl

-- by rounds, nobody waits once nothing holds those who have arrived
rounds_wait : (g : Gathering) → IsSettled g → g.policy ≡ Rounds → is_held g ≡ false → waiting g ≡ 0
rounds_wait g kept rounds free =
    let e : nat_lt 0 g.out ≡ false = subst (λ (p : Policy). (is_rounds p && nat_lt 0 g.out) ≡ false) rounds free in
    elim (none_or_some (waiting g)) [ inl none ↦ none | inr some ↦ let out = kept.waiting_sleep some in absurd (grind (arith, e, out)) ]

module _ (policy : Policy) (n : ℕ) where
  abbrev Premise : List Move → Type 0
  Premise moves = (policy ≡ Rounds) ⊎ WakeTogether policy n moves

  abbrev sent_often : List Move → ℕ
  sent_often moves = sends policy n moves

  first_of : (move : Move) (before : List Move) → EnterFirst policy n (move ∷ before) → FirstOf move (sent_often before) × EnterFirst policy n before
  first_of (Enter number) before first = first
  first_of (Arrive number) before first = (tt, first)
  first_of (Sent number batches) before first = (tt, first)
  first_of (WaitFor number) before first = (tt, first)
  first_of (Ended number) before first = (tt, first)
  first_of BatchEnded before first = (tt, first)
  first_of (Leave number) before first = (tt, first)
  first_of Stop before first = (tt, first)

  earlier : (move : Move) (before : List Move) → Premise (move ∷ before) → Premise before
  earlier move before premise = elim premise [ inl rounds ↦ inl rounds | inr together ↦ inr together.1 ]

  record Reached (moves : List Move) : Type 0 where
    pub policy_is : (after policy n moves).policy ≡ policy
    pub bounded : Bounded (after policy n moves) (sent_often moves) (λ t. arrivals t moves)

  reached : (moves : List Move) → EnterFirst policy n moves → Premise moves → Reached moves
  reached [] first premise = record {
    policy_is = refl;
    bounded = λ t. subst (Bounds (λ (_ : ℕ). 0) 0 t) (sym (outside_at n t)) (λ h. cc);
  }
  reached (move ∷ before) first premise =
      let both = first_of move before first in
      let past = reached before both.1 (earlier move before premise) in
      let old = after policy n before in
      let new = after policy n (move ∷ before) in
      let steps = move_steps old (sent_often before) (λ t. arrivals t before) past.bounded move both.0 in
      let policy_is : new.policy ≡ policy = kept_policy old new (sent_often before) (λ t. arrivals t (move ∷ before)) steps ∙ past.policy_is in
      let waits : lets_send old new ≡ true → is_held new ≡ false → waiting new ≡ 0 = λ yet free. elim premise [
        | inl rounds ↦ rounds_wait new (nothing_stalls policy n (move ∷ before)) (policy_is ∙ rounds) free
        | inr together ↦ together.0 yet
      ] in
      record {
        policy_is = policy_is;
        bounded = counted old new (sent_often before) (λ t. arrivals t (move ∷ before)) steps waits;
      }

  pub bound : (most : ℕ) (moves : List Move) → EnterFirst policy n moves → ((t : ℕ) → arrivals t moves ≤ most) → Premise moves → sent_often moves ≤ most
  bound most [] first few premise = omega arith
  bound most (move ∷ before) first few premise =
      let old = after policy n before in
      let new = after policy n (move ∷ before) in
      elim (true_or_false (lets_send old new)) [
        | inl yet ↦
            let now = sends_now old new yet in
            let sender = task_passes is_sending new.tasks now.1 in
            let own = (reached (move ∷ before) first premise).bounded sender.0 (sender_inside (task_at new.tasks sender.0) sender.1) in
            let often = few sender.0 in
            omega (arith, own, often)
        | inr none ↦
            let e : cond (lets_send old new) 1 0 ≡ 0 = ap one none in
            let rest = bound most before (first_of move before first).1 (λ t. let more = few t in omega (arith, more)) (earlier move before premise) in
            omega (arith, e, rest)
      ]

pub sends_are_rounds : SendsAreRounds
sends_are_rounds policy n most moves first few premise = bound policy n most moves first few premise
