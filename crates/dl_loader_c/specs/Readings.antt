-- What C reads of the history of a closed loader.
use Rattle.std.specs.Prelude.{◌≡◌, ℕ, ◌<◌, ◌≤◌, List, [], ◌∷◌, length, map, MatchOption, None, Option, Some, slice_get, IfSome}
use Rattle.dl_values.specs.Key.{Key}
use Rattle.dl_desk.specs.declared.event.Call.{Call}
use Rattle.dl_desk.specs.declared.event.Call.TheVariants as call
use Rattle.dl_desk.specs.declared.event.Event.{Event}
use Rattle.dl_desk.specs.declared.event.Reply.{Reply}
use Rattle.dl_desk.specs.declared.event.Reply.TheVariants as reply
use Rattle.dl_desk.specs.declared.reply.LoadReply.{LoadReply}
use Rattle.dl_history.specs.Agreement.{entries_of}
use Rattle.dl_history.specs.ClosedHistory.{History}
use Rattle.dl_history.specs.Entries.{kind_of}
use Rattle.dl_history.specs.declared.entry.EntryKind.{EntryKind}
use Rattle.dl_history.specs.declared.entry.EntryKind.TheVariants as entry
use Rattle.dl_c_values.specs.declared.codes.TheConstants.{DONE, HIT, FRESH, NO_EVENT, NO_MEMBER}
use Rattle.dl_c_values.specs.declared.answers.Loaded.{Loaded}
use Rattle.dl_c_values.specs.declared.key_texts.KeyTexts.{KeyTexts}
use Rattle.dl_c_values.specs.Answers.{loaded_as}
use Rattle.dl_loader_c.specs.declared.reading.ToldEntry.{ToldEntry}
use Rattle.dl_loader_c.specs.declared.reading.ToldEvent.{ToldEvent}
use Rattle.dl_c_values.specs.Answers.{first_of, refused_as}
use Rattle.dl_loader_c.specs.Contents.{Contents}
use Rattle.dl_c_values.specs.Keys.{Spells}

-- The contents stay. If they are a history, it tells; else an answer says that the loader is open.
abbrev pub OnHistory : Contents → Contents → (History → Type 0) → Type 0 → Type 0
OnHistory old new Tells Open = (new ≡ old) × MatchOption old.history Open Tells

-- ---- events

-- the number of a call's kind
abbrev pub call_number : Call → ℕ
call_number (call.Load k) = 0
call_number (call.LoadMany ks) = 1
call_number (call.Prime k o) = 2
call_number (call.Clear k) = 3
call_number call.ClearAll = 4
call_number call.Dispatch = 5
call_number (call.Settle b os) = 6
call_number (call.Fail b fault) = 7

-- the keys of a call
abbrev pub keys_told : Call → List Key
keys_told (call.Load k) = k ∷ []
keys_told (call.LoadMany ks) = ks
keys_told (call.Prime k o) = k ∷ []
keys_told (call.Clear k) = k ∷ []
keys_told call.ClearAll = []
keys_told call.Dispatch = []
keys_told (call.Settle b os) = []
keys_told (call.Fail b fault) = []

-- the batches that a call ends, or that its reply sends: the first, and how many they are
abbrev pub batches_sent : Reply → ℕ × ℕ
batches_sent (reply.Sent js) = (first_of js, length js)
batches_sent r = (0, 0)

abbrev pub batches_told : Call → Reply → ℕ × ℕ
batches_told (call.Settle b os) r = (b, 1)
batches_told (call.Fail b fault) r = (b, 1)
batches_told c r = batches_sent r

-- an event as C reads it
abbrev pub event_as : Event → ToldEvent
event_as e = record {
  code = DONE;
  caller = e.caller;
  call = call_number e.call;
  batch = (batches_told e.call e.reply).0;
  keys = length (keys_told e.call);
  batches = (batches_told e.call e.reply).1;
}

abbrev pub no_event : ℕ → ToldEvent
no_event code = record { code = code; caller = 0; call = 0; batch = 0; keys = 0; batches = 0 }

-- the event at a place, if there is one
abbrev pub told_event : Option Event → ToldEvent
told_event (Some e) = event_as e
told_event None = no_event NO_EVENT

-- ---- keys of events

abbrev pub many_as : Option LoadReply → Loaded
many_as (Some r) = loaded_as r
many_as None = refused_as NO_MEMBER

-- what a reply answers to the key of an index
abbrev pub reply_as : Reply → ℕ → Loaded
reply_as (reply.Loaded r) i = loaded_as r
reply_as (reply.Many rs) i = many_as (slice_get rs i)
reply_as (reply.Primed c) i = record { code = FRESH; cell = c; batch = 0 }
reply_as reply.Kept i = refused_as HIT
reply_as reply.Done i = refused_as DONE
reply_as (reply.Sent js) i = refused_as DONE

-- the answer to a look-up of an event's key
abbrev pub key_answer : Option Key → Event → ℕ → Loaded
key_answer (Some k) e i = reply_as e.reply i
key_answer None e i = refused_as NO_MEMBER

abbrev pub told_key : Option Event → ℕ → Loaded
told_key (Some e) i = key_answer (slice_get (keys_told e.call) i) e i
told_key None i = refused_as NO_EVENT

-- The answer to a look-up of an event's key, and the key's texts.
pub record ReadsKey (found : Option Event) (i : ℕ) (answer : Loaded) (before texts : KeyTexts) : Type 0 where
  pub told : answer ≡ told_key found i
  pub spelled : answer.code ≤ FRESH → IfSome found (λ e. IfSome (slice_get (keys_told e.call) i) (Spells texts))
  pub none : FRESH < answer.code → texts ≡ before

-- ---- entries

-- an entry as C reads it
abbrev pub entry_as : EntryKind → ToldEntry
entry_as (entry.Call at) = record { code = DONE; kind = 0; at = at; cell = 0 }
entry_as (entry.Saw cell at) = record { code = DONE; kind = 1; at = at; cell = cell }

abbrev pub no_entry : ℕ → ToldEntry
no_entry code = record { code = code; kind = 0; at = 0; cell = 0 }

abbrev pub told_entry : Option EntryKind → ToldEntry
told_entry (Some k) = entry_as k
told_entry None = no_entry NO_EVENT

-- an entry of a caller, by its index
abbrev pub entry_at : History → ℕ → ℕ → ToldEntry
entry_at h caller i = told_entry (slice_get (map kind_of (entries_of caller h.accounts)) i)
