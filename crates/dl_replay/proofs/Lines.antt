-- What a host says of an event, and of all events so far.
use Rattle.std.proofs.Common.{◌≡◌, ◌∙◌, sym, ℕ, zero, suc, ◌+◌, List, [], ◌∷◌, ◌++◌, length, map, take, Option, Some, None, slice_get, refl, ap, inr, arith}
use Rattle.std.proofs.lemmas.List.{map-append, take_all}
use Rattle.dl_loader.specs.Book.{Keeps}
use Rattle.dl_desk.specs.Legal.{call_of}
use Rattle.dl_desk.specs.Service.{Service}
use Rattle.dl_desk.specs.declared.call.DeskCall.{DeskCall}
use Rattle.dl_desk.specs.declared.event.Call.{Call}
use Rattle.dl_desk.specs.declared.event.Reply.{Reply}
use Rattle.dl_history.specs.declared.fault.CallFault.{CallFault}
use Rattle.dl_loader.specs.EventEffect.{event_of}
use Rattle.dl_loader.specs.SerialLoader.{Serial, IsMade, IsRefused}
use Rattle.dl_replay.specs.Replay.{HasMade, MakesLine, IsCallRefused, job_for, line_as}
use Rattle.dl_replay.specs.Told.{Line, answer_numbers, line, line_of, lines}
use Rattle.dl_replay.specs.declared.told.Told.{Told}

-- a call that is made is told by its caller, the call and the numbers of its answer
pub makes_line : (caller : ℕ) (c : Call) (reply : Reply) (asked : DeskCall) (numbers : List ℕ) (old new : Serial) → IsMade caller c reply old new
    → call_of c ≡ asked → answer_numbers reply ≡ numbers → MakesLine (line_as caller asked numbers) old new
makes_line caller c reply asked numbers old new made is same = record {
  event = event_of made.before c reply;
  told = λ i. record { caller = made.number i; call = is i; answer = same i };
  history = made.made.history;
}

-- a call that the loader refuses
pub call_refused : (service : Service) (caller : ℕ) (c : Call) (asked : DeskCall) (s : Serial) (fault : CallFault) → call_of c ≡ asked
    → IsRefused service caller c (job_for asked s) s fault → IsCallRefused service caller asked s fault
call_refused service caller c asked s fault is refused = inr (c, is, refused)

-- ---- all lines

-- one line more
take_more : (cs : List DeskCall) (ts : List Told) (n : ℕ) (c : DeskCall) (t : Told) → slice_get cs n ≡ Some c → slice_get ts n ≡ Some t
    → take (suc n) (lines cs ts) ≡ take n (lines cs ts) ++ line c t ∷ []
take_more [] ts n c t asked told = absurd (let bad : ◌≡◌ {A = Option DeskCall} None (Some c) = asked in cc)
take_more (x ∷ cs) [] n c t asked told = absurd (let bad : ◌≡◌ {A = Option Told} None (Some t) = told in cc)
take_more (x ∷ cs) (y ∷ ts) zero c t asked told =
    let same : ◌≡◌ {A = Option DeskCall} (Some x) (Some c) = asked in
    let equal : ◌≡◌ {A = Option Told} (Some y) (Some t) = told in
    let is : x ≡ c = cc in
    let are : y ≡ t = cc in
    λ i. line (is i) (are i) ∷ []
take_more (x ∷ cs) (y ∷ ts) (suc n) c t asked told = ap (λ (ls : List Line). line x y ∷ ls) (take_more cs ts n c t asked told)

length-lines : (cs : List DeskCall) (ts : List Told) → length cs ≡ length ts → length (lines cs ts) ≡ length cs
length-lines [] ts as_many = refl
length-lines (x ∷ cs) [] as_many = absurd (omega (arith, as_many))
length-lines (x ∷ cs) (y ∷ ts) as_many = ap (λ (n : ℕ). suc n) (length-lines cs ts (omega (arith, as_many)))

-- all lines
pub all_lines : (cs : List DeskCall) (ts : List Told) → length cs ≡ length ts → take (length cs) (lines cs ts) ≡ lines cs ts
all_lines cs ts as_many = take_all (length cs) (lines cs ts) (omega (arith, length-lines cs ts as_many))

-- a loader that has made no call
pub none_made : (service : Service) (cs : List DeskCall) (ts : List Told) (s : Serial) → Keeps service s.book → s.book.history ≡ []
    → HasMade service cs ts 0 s
none_made service cs ts s keeps none = record { keeps = keeps; are = ap (map line_of) none }

-- one call more
pub one_made : (service : Service) (cs : List DeskCall) (ts : List Told) (n : ℕ) (c : DeskCall) (t : Told) (old new : Serial)
    → HasMade service cs ts n old → slice_get cs n ≡ Some c → slice_get ts n ≡ Some t → MakesLine (line c t) old new → Keeps service new.book
    → HasMade service cs ts (n + 1) new
one_made service cs ts n c t old new has asked told made keeps =
    let next : suc n ≡ n + 1 = omega arith in
    record {
      keeps = keeps;
      are = ap (map line_of) made.history
          ∙ (map-append line_of old.book.history (made.event ∷ [])
          ∙ (ap (λ (ls : List Line). ls ++ line_of made.event ∷ []) has.are
          ∙ (ap (λ (l : Line). take n (lines cs ts) ++ l ∷ []) made.told
          ∙ (sym (take_more cs ts n c t asked told) ∙ ap (λ (m : ℕ). take m (lines cs ts)) next))));
    }
