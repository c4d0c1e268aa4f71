-- How many tasks do what, after a change.
use Rattle.std.proofs.Common.{◌≡◌, ◌∙◌, sym, refl, ap, ℕ, ◌+◌, ◌<◌, zero, suc, Bool, true, false, cond, List, [], ◌∷◌, map, length, arith, add_assoc}
use Rattle.std.specs.List.{count_by, sum_by}
use Rattle.std.proofs.Common.{◌++◌, take, drop}
use Rattle.std.proofs.lemmas.Grind.{common_steps}
use Rattle.std.proofs.lemmas.List.Sums.{sum_by-cons}
use Rattle.dl_gather.specs.Tasks.{is_arrived, is_ready, is_running, is_sending, is_waiting, numbers_of, numbers_turned, turned, with}
use Rattle.dl_gather.specs.declared.numbers.Numbers.{Numbers}
use Rattle.dl_gather.specs.declared.task.Task.{Task}
use Rattle.dl_gather.specs.declared.task.Task.TheVariants.{Outside, Runs, Arrived, Sends, Waits, Ready}
use Rattle.dl_gather.specs.declared.task.Turn.{Turn}
use Rattle.dl_gather.specs.declared.task.Turn.TheVariants as turn

abbrev numbers : ℕ → ℕ → ℕ → ℕ → ℕ → Numbers
numbers a b c d e = record { runs = a; ready = b; arrived = c; sends = d; waits = e }

-- numbers that are the same one by one are the same
pub same_numbers : (n m : Numbers) → n.runs ≡ m.runs → n.ready ≡ m.ready → n.arrived ≡ m.arrived → n.sends ≡ m.sends → n.waits ≡ m.waits → n ≡ m
same_numbers n m a b c d e =
    ap (λ k. numbers k n.ready n.arrived n.sends n.waits) a
    ∙ ap (λ k. numbers m.runs k n.arrived n.sends n.waits) b
    ∙ ap (λ k. numbers m.runs m.ready k n.sends n.waits) c
    ∙ ap (λ k. numbers m.runs m.ready m.arrived k n.waits) d
    ∙ ap (λ k. numbers m.runs m.ready m.arrived m.sends k) e

-- one task more
pub count-cons : (p : Task → Bool) (task : Task) (tasks : List Task) → count_by p (task ∷ tasks) ≡ count_by p tasks + cond (p task) 1 0
count-cons p task tasks = omega (arith, sum_by-cons (λ (t : Task). cond (p t) 1 0) task tasks)

pub numbers_of-cons : (task : Task) (tasks : List Task) → numbers_of (task ∷ tasks) ≡ with (numbers_of tasks) task
numbers_of-cons task tasks = same_numbers _ _ (count-cons is_running task tasks) (count-cons is_ready task tasks)
    (count-cons is_arrived task tasks) (count-cons is_sending task tasks) (count-cons is_waiting task tasks)

-- a turn of one task more
turned-with : (some : Turn) (task : Task) (n : Numbers) → with (numbers_turned some n) (turned some task) ≡ numbers_turned some (with n task)
turned-with turn.Run Outside n = same_numbers _ _ (omega arith) refl refl refl refl
turned-with turn.Run Runs n = same_numbers _ _ (omega arith) refl refl refl refl
turned-with turn.Run Arrived n = same_numbers _ _ (omega arith) refl refl refl refl
turned-with turn.Run Sends n = same_numbers _ _ (omega arith) refl refl refl refl
turned-with turn.Run Waits n = same_numbers _ _ (omega arith) refl refl refl refl
turned-with turn.Run Ready n = same_numbers _ _ (omega arith) refl refl refl refl
turned-with turn.Send Outside n = same_numbers _ _ refl refl refl (omega arith) refl
turned-with turn.Send Runs n = same_numbers _ _ refl refl refl (omega arith) refl
turned-with turn.Send Arrived n = same_numbers _ _ refl refl refl (omega arith) refl
turned-with turn.Send Sends n = same_numbers _ _ refl refl refl (omega arith) refl
turned-with turn.Send Waits n = same_numbers _ _ refl refl refl (omega arith) refl
turned-with turn.Send Ready n = same_numbers _ _ refl refl refl (omega arith) refl
turned-with turn.Wake Outside n = same_numbers _ _ refl (omega arith) refl refl refl
turned-with turn.Wake Runs n = same_numbers _ _ refl (omega arith) refl refl refl
turned-with turn.Wake Arrived n = same_numbers _ _ refl (omega arith) refl refl refl
turned-with turn.Wake Sends n = same_numbers _ _ refl (omega arith) refl refl refl
turned-with turn.Wake Waits n = same_numbers _ _ refl (omega arith) refl refl refl
turned-with turn.Wake Ready n = same_numbers _ _ refl (omega arith) refl refl refl
turned-with turn.Leave Outside n = same_numbers _ _ (omega arith) (omega arith) (omega arith) (omega arith) (omega arith)
turned-with turn.Leave Runs n = same_numbers _ _ (omega arith) (omega arith) (omega arith) (omega arith) (omega arith)
turned-with turn.Leave Arrived n = same_numbers _ _ (omega arith) (omega arith) (omega arith) (omega arith) (omega arith)
turned-with turn.Leave Sends n = same_numbers _ _ (omega arith) (omega arith) (omega arith) (omega arith) (omega arith)
turned-with turn.Leave Waits n = same_numbers _ _ (omega arith) (omega arith) (omega arith) (omega arith) (omega arith)
turned-with turn.Leave Ready n = same_numbers _ _ (omega arith) (omega arith) (omega arith) (omega arith) (omega arith)

turned-none : (some : Turn) → numbers_of (map (turned some) []) ≡ numbers_turned some (numbers_of [])
turned-none turn.Run = refl
turned-none turn.Send = refl
turned-none turn.Wake = refl
turned-none turn.Leave = refl

-- a turn of all tasks
pub numbers_of-turned : (some : Turn) (tasks : List Task) → numbers_of (map (turned some) tasks) ≡ numbers_turned some (numbers_of tasks)
numbers_of-turned some [] = turned-none some
numbers_of-turned some (task ∷ tasks) =
    numbers_of-cons (turned some task) (map (turned some) tasks)
    ∙ ap (λ n. with n (turned some task)) (numbers_of-turned some tasks)
    ∙ turned-with some task (numbers_of tasks)
    ∙ ap (numbers_turned some) (sym (numbers_of-cons task tasks))

-- what a list is after all of it was written
pub written_back : (tasks after : List Task) (f : Task → Task) (n : ℕ) → n ≡ length tasks → after ≡ map f tasks
    → take n (after ++ drop (length after) tasks) ≡ map f tasks
written_back tasks after f n e h = rw (h, e) (grind (arith, common_steps))
