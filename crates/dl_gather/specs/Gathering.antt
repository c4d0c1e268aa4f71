-- The rule by which tasks that run at once send the keys that they collected: nobody's keys are sent while somebody runs.
use Rattle.std.specs.Prelude.{◌≡◌, ◌≢◌, ◌⊎◌, ℕ, ◌+◌, ◌-◌, ◌^◌, ◌<◌, min, Bool, true, false, ◌&&◌, List, map, if◌then◌else◌, nat_lt, slice_set}
use Rattle.dl_gather.specs.Tasks.{numbers_of, task_at, turned}
use Rattle.dl_gather.specs.declared.task.Task.{Task}
use Rattle.dl_gather.specs.declared.task.Task.TheVariants.{Outside, Runs, Arrived, Sends, Waits, Ready}
use Rattle.dl_gather.specs.declared.task.Policy.{Policy}
use Rattle.dl_gather.specs.declared.task.Policy.TheVariants.{Eager, Rounds}
use Rattle.dl_gather.specs.declared.task.Turn.{Turn}
use Rattle.dl_gather.specs.declared.task.Turn.TheVariants as turn

-- what each task does, and how many batches went out and have not ended
pub record Gathering : Type 0 where
  pub policy : Policy
  pub tasks : List Task
  pub out : ℕ

abbrev pub gathering : Policy → List Task → ℕ → Gathering
gathering policy tasks out = record { policy = policy; tasks = tasks; out = out }

-- ---- how many tasks do what

abbrev pub running : Gathering → ℕ
running g = (numbers_of g.tasks).runs

abbrev pub ready : Gathering → ℕ
ready g = (numbers_of g.tasks).ready

abbrev pub arrived : Gathering → ℕ
arrived g = (numbers_of g.tasks).arrived

abbrev pub sending : Gathering → ℕ
sending g = (numbers_of g.tasks).sends

abbrev pub waiting : Gathering → ℕ
waiting g = (numbers_of g.tasks).waits

-- ---- whose turn it is

abbrev pub is_rounds : Policy → Bool
is_rounds Eager = false
is_rounds Rounds = true

-- whether those that have arrived must wait for batches that are out
abbrev pub is_held : Gathering → Bool
is_held g = is_rounds g.policy && nat_lt 0 g.out

-- all tasks that the turn is for go on
abbrev pub each : Turn → Gathering → Gathering
each some g = gathering g.policy (map (turned some) g.tasks) g.out

-- Whoever's turn it is goes on. While somebody sends, nobody else does anything. Otherwise those that are ready run. Once
-- nobody runs, those that have arrived send, unless they must wait for batches that are out.
abbrev pub settled : Gathering → Gathering
settled g =
    if nat_lt 0 (sending g) then g
    else (if nat_lt 0 (ready g) then each turn.Run g
    else (if nat_lt 0 (running g) then g
    else (if is_held g then g
    else each turn.Send g)))

-- ---- what each call changes

-- a task does this from now on
abbrev pub put : ℕ → Task → Gathering → Gathering
put number to g = gathering g.policy (slice_set g.tasks number to) g.out

-- a task does this from now on, and then whoever's turn it is goes on
abbrev pub change : ℕ → Task → Gathering → Gathering
change number to g = settled (put number to g)

-- this many batches are out
abbrev pub with_out : ℕ → Gathering → Gathering
with_out out g = gathering g.policy g.tasks out

abbrev pub enter_from : Task → ℕ → Gathering → Gathering
enter_from Outside number g = change number Ready g
enter_from task number g = g

-- a task that is outside takes part: it is ready
abbrev pub enter : ℕ → Gathering → Gathering
enter number g = enter_from (task_at g.tasks number) number g

abbrev pub arrive_from : Task → ℕ → Gathering → Gathering
arrive_from Outside number g = g
arrive_from Sends number g = g
arrive_from task number g = change number Arrived g

-- a task that takes part, and doesn't send, has made its loads
abbrev pub arrive : ℕ → Gathering → Gathering
arrive number g = arrive_from (task_at g.tasks number) number g

abbrev pub sent_from : Task → ℕ → Gathering → Gathering
sent_from Sends number g = change number Ready g
sent_from task number g = g

-- the most batches that count as out
abbrev pub most_out : ℕ
most_out = 2 ^ 64 - 1

-- this many batches more are out, and a task that sends has done so
abbrev pub sent : ℕ → ℕ → Gathering → Gathering
sent number batches g = sent_from (task_at g.tasks number) number (with_out (min (g.out + batches) most_out) g)

-- what a task does that waits: if no batch is out, nobody has sent its key, and it is outside
abbrev pub waits_as : Gathering → Task
waits_as g = if nat_lt 0 g.out then Waits else Outside

abbrev pub wait_from : Task → ℕ → Gathering → Gathering
wait_from Outside number g = g
wait_from task number g = change number (waits_as g) g

-- a task that takes part waits
abbrev pub wait_for : ℕ → Gathering → Gathering
wait_for number g = wait_from (task_at g.tasks number) number g

abbrev pub ended_from : Task → ℕ → Gathering → Gathering
ended_from Waits number g = change number Ready g
ended_from task number g = g

-- a task that waits is ready
abbrev pub ended : ℕ → Gathering → Gathering
ended number g = ended_from (task_at g.tasks number) number g

-- those that wait are ready, if no batch is out
abbrev pub woken : Gathering → Gathering
woken g = if nat_lt 0 g.out then g else each turn.Wake g

-- one batch fewer is out
abbrev pub batch_ended : Gathering → Gathering
batch_ended g = settled (woken (with_out (g.out - 1) g))

-- a task is outside
abbrev pub leave : ℕ → Gathering → Gathering
leave number g = change number Outside g

-- all tasks are outside
abbrev pub stop : Gathering → Gathering
stop g = each turn.Leave g

-- ---- what holds of every gathering

-- somebody runs or sends, or a batch that went out has not ended
abbrev pub GoesOn : Gathering → Type 0
GoesOn g = (0 < running g) ⊎ (0 < sending g) ⊎ (0 < g.out)

-- Nobody is early: while somebody sends, nobody runs. Nobody is left asleep whose turn it is: whoever is ready sleeps only
-- while somebody sends, whoever has arrived only while somebody runs or sends or, by rounds, while a batch is out, and
-- whoever waits only while a batch is out.
pub record IsSettled (g : Gathering) : Type 0 where
  pub nobody_is_early : 0 < sending g → running g ≡ 0
  pub ready_sleep : 0 < ready g → 0 < sending g
  pub arrived_sleep : 0 < arrived g → (0 < running g + sending g) ⊎ (is_held g ≡ true)
  pub waiting_sleep : 0 < waiting g → 0 < g.out

-- no task but this one does anything else than before
abbrev pub OnlyThis : ℕ → Gathering → Gathering → Type 0
OnlyThis number old new = (other : ℕ) → other ≢ number → task_at new.tasks other ≡ task_at old.tasks other

-- no task does anything else than before
abbrev pub SameTasks : Gathering → Gathering → Type 0
SameTasks old new = new.tasks ≡ old.tasks
