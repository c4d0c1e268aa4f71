-- Whose turn it is, case by case.
use Rattle.std.proofs.Common.{◌≡◌, ◌∙◌, sym, refl, ap, ℕ, ◌+◌, ◌<◌, zero, suc, Bool, true, false, cond, List, [], ◌∷◌, map, arith}
use Rattle.std.specs.Prelude.{if◌then◌else◌, nat_lt}
use Rattle.std.specs.List.{count_by}
use Rattle.dl_gather.specs.Gathering.{Gathering, arrived, each, gathering, is_held, ready, running, sending, settled, waiting}
use Rattle.dl_gather.specs.Tasks.{is_arrived, is_waiting, numbers_of, turned}
use Rattle.dl_gather.specs.declared.task.Task.{Task}
use Rattle.dl_gather.specs.declared.task.Task.TheVariants.{Outside, Runs, Arrived, Sends, Waits, Ready}
use Rattle.dl_gather.specs.declared.task.Turn.{Turn}
use Rattle.dl_gather.specs.declared.task.Turn.TheVariants as turn
use Rattle.dl_gather.proofs.Counts.{count-cons}

pub some : (n : ℕ) → 0 < n → nat_lt 0 n ≡ true
some n h = grind arith

pub none : (n : ℕ) → n ≡ 0 → nat_lt 0 n ≡ false
none n h = grind arith

-- if nobody has arrived, a send changes nothing
nobody_sends : (tasks : List Task) → count_by is_arrived tasks ≡ 0 → map (turned turn.Send) tasks ≡ tasks
nobody_sends [] h = refl
nobody_sends (Arrived ∷ tasks) h = let e = count-cons is_arrived Arrived tasks in absurd (omega arith)
nobody_sends (Outside ∷ tasks) h = ap (λ (ts : List Task). Outside ∷ ts) (nobody_sends tasks (omega (arith, count-cons is_arrived Outside tasks)))
nobody_sends (Runs ∷ tasks) h = ap (λ (ts : List Task). Runs ∷ ts) (nobody_sends tasks (omega (arith, count-cons is_arrived Runs tasks)))
nobody_sends (Sends ∷ tasks) h = ap (λ (ts : List Task). Sends ∷ ts) (nobody_sends tasks (omega (arith, count-cons is_arrived Sends tasks)))
nobody_sends (Waits ∷ tasks) h = ap (λ (ts : List Task). Waits ∷ ts) (nobody_sends tasks (omega (arith, count-cons is_arrived Waits tasks)))
nobody_sends (Ready ∷ tasks) h = ap (λ (ts : List Task). Ready ∷ ts) (nobody_sends tasks (omega (arith, count-cons is_arrived Ready tasks)))

-- if nobody waits, a wake changes nothing
pub nobody_wakes : (tasks : List Task) → count_by is_waiting tasks ≡ 0 → map (turned turn.Wake) tasks ≡ tasks
nobody_wakes [] h = refl
nobody_wakes (Waits ∷ tasks) h = let e = count-cons is_waiting Waits tasks in absurd (omega arith)
nobody_wakes (Outside ∷ tasks) h = ap (λ (ts : List Task). Outside ∷ ts) (nobody_wakes tasks (omega (arith, count-cons is_waiting Outside tasks)))
nobody_wakes (Runs ∷ tasks) h = ap (λ (ts : List Task). Runs ∷ ts) (nobody_wakes tasks (omega (arith, count-cons is_waiting Runs tasks)))
nobody_wakes (Arrived ∷ tasks) h = ap (λ (ts : List Task). Arrived ∷ ts) (nobody_wakes tasks (omega (arith, count-cons is_waiting Arrived tasks)))
nobody_wakes (Sends ∷ tasks) h = ap (λ (ts : List Task). Sends ∷ ts) (nobody_wakes tasks (omega (arith, count-cons is_waiting Sends tasks)))
nobody_wakes (Ready ∷ tasks) h = ap (λ (ts : List Task). Ready ∷ ts) (nobody_wakes tasks (omega (arith, count-cons is_waiting Ready tasks)))

module _ (g : Gathering) where
  pub settled_sends : 0 < sending g → settled g ≡ g
  settled_sends h = rw (some (sending g) h) refl

  module _ (no_sends : sending g ≡ 0) where
    pub settled_ready : 0 < ready g → settled g ≡ each turn.Run g
    settled_ready h = rw (none (sending g) no_sends, some (ready g) h) refl

    module _ (no_ready : ready g ≡ 0) where
      pub settled_runs : 0 < running g → settled g ≡ g
      settled_runs h = rw (none (sending g) no_sends, none (ready g) no_ready, some (running g) h) refl

      module _ (no_runs : running g ≡ 0) where
        pub settled_held : is_held g ≡ true → settled g ≡ g
        settled_held h = rw (none (sending g) no_sends, none (ready g) no_ready, none (running g) no_runs, h) refl

        pub settled_send : is_held g ≡ false → settled g ≡ each turn.Send g
        settled_send h = rw (none (sending g) no_sends, none (ready g) no_ready, none (running g) no_runs, h) refl

        pub settled_none : is_held g ≡ false → arrived g ≡ 0 → settled g ≡ g
        settled_none h nobody = settled_send h ∙ ap (λ (ts : List Task). gathering g.policy ts g.out) (nobody_sends g.tasks nobody)
