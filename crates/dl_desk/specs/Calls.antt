-- The calls of a desk: what it replies to a call, when it refuses one, and the history that a call leaves.
use Rattle.std.specs.Prelude.{◌≡◌, ℕ, ◌+◌, ◌⊎◌, List, [], ◌∷◌, ◌||◌, Option, Some, None, is_some, nat_lt, nat_le, if◌then◌else◌, Result, Ok, Err}
use Rattle.std.specs.List.{list_any}
use Rattle.dl_values.specs.Key.{Key, key_eq}
use Rattle.dl_values.specs.Limits.{Rules}
use Rattle.dl_desk.specs.History.{Atom, begun, sent, cells, held, end_of, load_reply, prime_reply, jobs, loaded, load_replies}
use Rattle.dl_desk.specs.History as atom
use Rattle.dl_desk.specs.declared.call.DeskCall.{DeskCall}
use Rattle.dl_desk.specs.declared.call.DeskCall.TheVariants.{Load, LoadMany, Prime, Clear, ClearAll, Dispatch, Settle, Fail}
use Rattle.dl_desk.specs.declared.event.Reply.{Reply}
use Rattle.dl_desk.specs.declared.event.Reply.TheVariants.{Loaded, Many, Primed, Kept, Done, Sent}
use Rattle.dl_desk.specs.declared.fault.DeskFault.{DeskFault}
use Rattle.dl_desk.specs.declared.fault.DeskFault.TheVariants.{NoBatch, NotSent, SettledBefore, CellsFull, OutOfMemory}
use Rattle.dl_desk.specs.declared.reply.DeskPrime.{DeskPrime}
use Rattle.dl_desk.specs.declared.reply.DeskPrime.TheVariants as prime
use Rattle.dl_desk.specs.declared.reply.End.{End}
use Rattle.dl_desk.specs.declared.reply.End.TheVariants.{Settled, Failed}

-- ---- replies

abbrev pub primed : DeskPrime → Reply
primed (prime.Primed c) = Primed c
primed prime.Kept = Kept

-- the reply to a call after a history
abbrev pub reply_to : Rules → List Atom → DeskCall → Reply
reply_to rules history (Load k) = Loaded (load_reply rules history k)
reply_to rules history (LoadMany ks) = Many (load_replies rules history ks)
reply_to rules history (Prime k) = primed (prime_reply history k)
reply_to rules history Dispatch = Sent (jobs history)
reply_to rules history call = Done

-- ---- refusals

-- how many keys of the list the memo doesn't hold, each counted at its last place: their loads begin as many cells
abbrev pub new_count : List Atom → List Key → ℕ
new_count history [] = 0
new_count history (k ∷ ks) = (if is_some (held history k) || list_any (key_eq k) ks then 0 else 1) + new_count history ks

-- the refusal if the cells that loads of the keys, or a prime, begin would bring the number of cells above its limit
abbrev pub full : Rules → List Atom → List Key → Option DeskFault
full rules history ks = if nat_lt rules.limits.max_cells (cells history + new_count history ks) then Some (CellsFull rules.limits.max_cells) else None

-- the refusal of an end of the batch: there is no such batch, it isn't sent, or it has ended
abbrev pub unfit : List Atom → ℕ → Option DeskFault
unfit history b = if nat_le (begun history) b then Some NoBatch else if nat_le (sent history) b then Some NotSent else if is_some (end_of history b) then Some
    SettledBefore else None

-- the refusal of a call at a history, unless memory runs out
abbrev pub refusal : Rules → List Atom → DeskCall → Option DeskFault
refusal rules history (Load k) = full rules history (k ∷ [])
refusal rules history (LoadMany ks) = full rules history ks
refusal rules history (Prime k) = full rules history (k ∷ [])
refusal rules history (Settle b) = unfit history b
refusal rules history (Fail b) = unfit history b
refusal rules history call = None

-- the fault of a refused call: its cause, or that memory ran out
abbrev pub IsRefusal : Rules → List Atom → DeskCall → DeskFault → Type 0
IsRefusal rules history call fault = (fault ≡ OutOfMemory) ⊎ (refusal rules history call ≡ Some fault)

-- ---- histories

-- the history that an accepted call leaves
abbrev pub after : Rules → List Atom → DeskCall → List Atom
after rules history (Load k) = loaded rules history (k ∷ [])
after rules history (LoadMany ks) = loaded rules history ks
after rules history (Prime k) = atom.Prime k (prime_reply history k) ∷ history
after rules history (Clear k) = atom.Clear k ∷ history
after rules history ClearAll = atom.ClearAll ∷ history
after rules history Dispatch = atom.Dispatch (jobs history) ∷ history
after rules history (Settle b) = atom.Settle b ∷ history
after rules history (Fail b) = atom.Fail b ∷ history

-- the atom of a batch's end
abbrev pub ended_so : End → ℕ → Atom
ended_so Settled b = atom.Settle b
ended_so Failed b = atom.Fail b

-- ---- calls one after another

abbrev pub answer_by : Option DeskFault → Reply → Result Reply DeskFault
answer_by None reply = Ok reply
answer_by (Some fault) reply = Err fault

-- the answer to a call after a history: its refusal, or else its reply
abbrev pub answer : Rules → List Atom → DeskCall → Result Reply DeskFault
answer rules history call = answer_by (refusal rules history call) (reply_to rules history call)

abbrev pub next_by : Option DeskFault → List Atom → List Atom → List Atom
next_by None history longer = longer
next_by (Some fault) history longer = history

-- the history after a call: a refused one adds nothing
abbrev pub next : Rules → List Atom → DeskCall → List Atom
next rules history call = next_by (refusal rules history call) history (after rules history call)

-- the answers to calls, one after another from a history on
abbrev pub answers : Rules → List Atom → List DeskCall → List (Result Reply DeskFault)
answers rules history [] = []
answers rules history (call ∷ calls) = answer rules history call ∷ answers rules (next rules history call) calls

-- the history after them
abbrev pub after_all : Rules → List Atom → List DeskCall → List Atom
after_all rules history [] = history
after_all rules history (call ∷ calls) = after_all rules (next rules history call) calls
