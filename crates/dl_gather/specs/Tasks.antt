-- What a task does, and how many tasks do what.
use Rattle.std.specs.Prelude.{ℕ, ◌+◌, ◌-◌, Bool, true, false, List, cond, slice_set, slice_index_or}
use Rattle.std.specs.List.{count_by}
use Rattle.dl_gather.specs.declared.numbers.Numbers.{Numbers}
use Rattle.dl_gather.specs.declared.task.Task.{Task}
use Rattle.dl_gather.specs.declared.task.Task.TheVariants.{Outside, Runs, Arrived, Sends, Waits, Ready}
use Rattle.dl_gather.specs.declared.task.Next.{Next}
use Rattle.dl_gather.specs.declared.task.Next.TheVariants as next
use Rattle.dl_gather.specs.declared.task.Turn.{Turn}
use Rattle.dl_gather.specs.declared.task.Turn.TheVariants as turn

-- what a task does next
abbrev pub next_of : Task → Next
next_of Outside = next.GoOn
next_of Runs = next.GoOn
next_of Arrived = next.Sleep
next_of Sends = next.Send
next_of Waits = next.Sleep
next_of Ready = next.Sleep

-- what a task does after a turn: whoever is ready runs, whoever has arrived sends, whoever waits is ready, or all are
-- outside
abbrev pub turned : Turn → Task → Task
turned turn.Run Ready = Runs
turned turn.Send Arrived = Sends
turned turn.Wake Waits = Ready
turned turn.Leave task = Outside
turned some task = task

-- what the task of a number does; a number that no task has is outside
abbrev pub task_at : List Task → ℕ → Task
task_at tasks number = slice_index_or tasks number Outside

-- whether a task takes part
abbrev pub is_inside : Task → Bool
is_inside Outside = false
is_inside task = true

-- ---- how many tasks do what

abbrev pub is_running : Task → Bool
is_running Runs = true
is_running task = false

abbrev pub is_ready : Task → Bool
is_ready Ready = true
is_ready task = false

abbrev pub is_arrived : Task → Bool
is_arrived Arrived = true
is_arrived task = false

abbrev pub is_sending : Task → Bool
is_sending Sends = true
is_sending task = false

abbrev pub is_waiting : Task → Bool
is_waiting Waits = true
is_waiting task = false

-- how many tasks run, are ready, have arrived, send, and wait
abbrev pub numbers_of : List Task → Numbers
numbers_of tasks = record {
  runs = count_by is_running tasks;
  ready = count_by is_ready tasks;
  arrived = count_by is_arrived tasks;
  sends = count_by is_sending tasks;
  waits = count_by is_waiting tasks;
}

-- the numbers with one task more
abbrev pub with : Numbers → Task → Numbers
with n task = record {
  runs = n.runs + cond (is_running task) 1 0;
  ready = n.ready + cond (is_ready task) 1 0;
  arrived = n.arrived + cond (is_arrived task) 1 0;
  sends = n.sends + cond (is_sending task) 1 0;
  waits = n.waits + cond (is_waiting task) 1 0;
}

-- the numbers without one of the tasks
abbrev pub without : Numbers → Task → Numbers
without n task = record {
  runs = n.runs - cond (is_running task) 1 0;
  ready = n.ready - cond (is_ready task) 1 0;
  arrived = n.arrived - cond (is_arrived task) 1 0;
  sends = n.sends - cond (is_sending task) 1 0;
  waits = n.waits - cond (is_waiting task) 1 0;
}

abbrev pub no_tasks : Numbers
no_tasks = record { runs = 0; ready = 0; arrived = 0; sends = 0; waits = 0 }

-- the numbers after a turn
abbrev pub numbers_turned : Turn → Numbers → Numbers
numbers_turned turn.Run n = record { runs = n.runs + n.ready; ready = 0; arrived = n.arrived; sends = n.sends; waits = n.waits }
numbers_turned turn.Send n = record { runs = n.runs; ready = n.ready; arrived = 0; sends = n.sends + n.arrived; waits = n.waits }
numbers_turned turn.Wake n = record { runs = n.runs; ready = n.ready + n.waits; arrived = n.arrived; sends = n.sends; waits = 0 }
numbers_turned turn.Leave n = no_tasks
