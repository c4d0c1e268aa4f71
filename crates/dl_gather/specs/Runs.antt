-- What tasks do, call by call, from a gathering in which all are outside, and how often keys are sent meanwhile.
use Rattle.std.specs.Prelude.{◌≡◌, ◌⊎◌, ℕ, ◌+◌, ◌<◌, ◌≤◌, Bool, true, false, ◌&&◌, cond, List, [], ◌∷◌, replicate, nat_eq, nat_lt}
use Rattle.dl_gather.specs.Gathering.{Gathering, IsSettled, arrive, batch_ended, ended, enter, gathering, leave, sending, sent, stop, wait_for, waiting}
use Rattle.dl_gather.specs.declared.task.Task.TheVariants.{Outside}
use Rattle.dl_gather.specs.declared.task.Policy.{Policy}
use Rattle.dl_gather.specs.declared.task.Policy.TheVariants.{Rounds}

-- a call, with the task that it is about
pub data Move : Type 0 where
  Enter : ℕ → Move
  Arrive : ℕ → Move
  Sent : ℕ → ℕ → Move
  WaitFor : ℕ → Move
  Ended : ℕ → Move
  BatchEnded : Move
  Leave : ℕ → Move
  Stop : Move

-- the gathering after a call
abbrev pub after_move : Move → Gathering → Gathering
after_move (Enter task) g = enter task g
after_move (Arrive task) g = arrive task g
after_move (Sent task batches) g = sent task batches g
after_move (WaitFor task) g = wait_for task g
after_move (Ended task) g = ended task g
after_move BatchEnded g = batch_ended g
after_move (Leave task) g = leave task g
after_move Stop g = stop g

-- whether a call lets those who have arrived send: nobody sent before it, and somebody does after it
abbrev pub lets_send : Gathering → Gathering → Bool
lets_send old new = nat_eq (sending old) 0 && nat_lt 0 (sending new)

-- The calls that were made, the newest first, of this many tasks by this policy.

module _ (policy : Policy) (tasks : ℕ) where
  -- the gathering after calls
  abbrev pub after : List Move → Gathering
  after [] = gathering policy (replicate tasks Outside) 0
  after (move ∷ before) = after_move move (after before)

  -- how often those who had arrived were let send, together each time
  abbrev pub sends : List Move → ℕ
  sends [] = 0
  sends (move ∷ before) = sends before + cond (lets_send (after before) (after (move ∷ before))) 1 0

  -- whoever enters does so before the first send
  abbrev pub EnterFirst : List Move → Type 0
  EnterFirst [] = Unit {0}
  EnterFirst (Enter task ∷ before) = (sends before ≡ 0) × EnterFirst before
  EnterFirst (move ∷ before) = EnterFirst before

  -- nobody waits when others are let send, since the tasks of the last send woke together
  abbrev pub WakeTogether : List Move → Type 0
  WakeTogether [] = Unit {0}
  WakeTogether (move ∷ before) =
      (lets_send (after before) (after (move ∷ before)) ≡ true → waiting (after (move ∷ before)) ≡ 0) × WakeTogether before

-- whether a call is an arrival of the task
abbrev pub arrives : ℕ → Move → Bool
arrives task (Arrive other) = nat_eq task other
arrives task move = false

-- how often a task arrived
abbrev pub arrivals : ℕ → List Move → ℕ
arrivals task [] = 0
arrivals task (move ∷ before) = arrivals task before + cond (arrives task move) 1 0

-- ---- the laws

-- Whatever tasks do, nobody is early, and nobody is left asleep whose turn it is.
abbrev pub NothingStalls : Type 0
NothingStalls = (policy : Policy) (tasks : ℕ) (moves : List Move) → IsSettled (after policy tasks moves)

-- Tasks that enter before the first send, and arrive at most so often each, send at most so often together: by rounds,
-- and else if the tasks of each send wake together (Haxl: a computation takes as many rounds as it is deep).
abbrev pub SendsAreRounds : Type 0
SendsAreRounds = (policy : Policy) (tasks most : ℕ) (moves : List Move) → EnterFirst policy tasks moves
    → ((task : ℕ) → arrivals task moves ≤ most) → (policy ≡ Rounds) ⊎ WakeTogether policy tasks moves → sends policy tasks moves ≤ most
