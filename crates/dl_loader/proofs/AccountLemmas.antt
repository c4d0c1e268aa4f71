-- The accounts of the passes with which a loader is closed.
use Rattle.std.proofs.Common.{◌≡◌, ℕ, ◌<◌, List, [], ◌∷◌, length, map, sum_by, refl, arith}
use Rattle.std.proofs.lemmas.List.{length-map}
use Rattle.dl_values.specs.Limits.{AreLimits}
use Rattle.dl_desk.specs.declared.event.Event.{Event}
use Rattle.dl_history.specs.Agreement.{Account, HasEach, NoneBehind, places_of, Fits}
use Rattle.dl_history.specs.ClosedHistory.{IsHistory, history_of, Outline, outline_of}
use Rattle.dl_history.specs.History.{IsLegal}
use Rattle.dl_history.specs.Accounts.{account_of, accounts_of}
use Rattle.dl_loader.specs.CloseRefusals.{TellWhole}
use Rattle.dl_loader.specs.Book.{Book, Keeps, state_of}
use Rattle.dl_loader.specs.Inside.CloseSteps.{Closes, MayClose}
use Rattle.dl_history.specs.Journal.{Cell}
use Rattle.dl_history.specs.Lists.{Every}
use Rattle.dl_history.specs.Pass.{Pass}
use Rattle.dl_desk.specs.Service.{Service, AnswersEach}
use Rattle.dl_history.proofs.AccountCounts.{accounts_count}
use Rattle.dl_history.proofs.Agreement.{accounts_agree, accounts_have}
use Rattle.dl_history.proofs.HistoryLemmas.{accounts_told}
use Rattle.dl_history.proofs.Pasts.{legal_place}

-- accounts that fit are of callers
every_callers : (callers : ℕ) (history : List Event) (states : List Cell) (accounts : List Account) → Every (Fits callers history states) accounts
    → Every (λ a. a.caller < callers) accounts
every_callers callers history states [] fits = tt
every_callers callers history states (a ∷ accounts) fits = (fits.0.is_account.caller_is, every_callers callers history states accounts fits.1)

-- where each caller has one of the passes, there are as many accounts as callers
passes_count : (callers : ℕ) (history : List Event) (states : List Cell) (passes : List Pass) → HasEach callers (accounts_of passes)
    → Every (Fits callers history states) (accounts_of passes) → length (accounts_of passes) ≡ callers
passes_count callers history states passes each fits =
    accounts_count callers (accounts_of passes) each (every_callers callers history states (accounts_of passes) fits)

-- a loader without callers has no events
no_events : (s : Service) (es : List Event) → IsLegal s es → s.callers ≡ 0 → length es ≡ 0
no_events s [] legal none = refl
no_events s (e ∷ es) legal none = let next = legal_place s (e ∷ es) 0 e legal refl in let low = next.caller in absurd (omega arith)

-- how many calls of an account there are
abbrev call_count : Account → ℕ
call_count a = length (places_of a.entries)

-- the passes of all callers have as many calls as there are events, where they have as many with all parts of the ledger
calls_count : (s : Service) (es : List Event) (states : List Cell) (passes : List Pass) (parts : ℕ) → parts ≡ s.callers → IsLegal s es
    → HasEach s.callers (accounts_of passes) → Every (Fits s.callers es states) (accounts_of passes)
    → (0 < length passes → length passes ≡ parts → sum_by call_count (accounts_of passes) ≡ length es) → sum_by call_count (accounts_of passes) ≡ length es
calls_count s es states [] parts same legal each fits whole =
    let count = passes_count s.callers es states [] each fits in
    let none = no_events s es legal (omega arith) in
    omega arith
calls_count s es states (p ∷ passes) parts same legal each fits whole =
    let count = passes_count s.callers es states (p ∷ passes) each fits in
    let long = length-map passes (λ (q : Pass). account_of q.trace) in
    whole (omega arith) (omega arith)

-- so together they tell the whole history
pub passes_tell : (s : Service) (es : List Event) (states : List Cell) (passes : List Pass) (parts : ℕ) → parts ≡ s.callers → IsLegal s es
    → HasEach s.callers (accounts_of passes) → NoneBehind (length es) (accounts_of passes) → Every (Fits s.callers es states) (accounts_of passes)
    → (0 < length passes → length passes ≡ parts → sum_by call_count (accounts_of passes) ≡ length es) → TellWhole s.callers es (accounts_of passes)
passes_tell s es states passes parts same legal each seen fits whole =
    let count = calls_count s es states passes parts same legal each fits whole in
    record { each = each; seen = seen; calls = accounts_have s es states (accounts_of passes) legal each seen fits count }

-- the history with the accounts of passes with which a loader may be closed is what every history is
passes_closed : (s : Service) (b : Book) (passes : List Pass) → AreLimits s.rules.limits → Keeps s b → AnswersEach s.answer
    → MayClose s.callers b (accounts_of passes) → IsHistory s (history_of b.history (accounts_of passes))
passes_closed s b passes limits kept answers may = record {
  limits = limits;
  legal = kept.legal;
  count = passes_count s.callers b.history b.cells passes may.whole.each may.fits;
  callers = every_callers s.callers b.history b.cells (accounts_of passes) may.fits;
  each = may.whole.each;
  agree = accounts_agree s (state_of b) (accounts_of passes) kept answers may.whole.seen may.shown may.ended may.fits may.whole.calls;
  ended = may.ended;
}

-- so it is closed with what is kept of them
pub passes_close : (s : Service) (b : Book) (passes : List Pass) (outlines : List Outline) → AreLimits s.rules.limits → Keeps s b → AnswersEach s.answer
    → MayClose s.callers b (accounts_of passes) → outlines ≡ map outline_of (accounts_of passes) → Closes s b.history (accounts_of passes) outlines
passes_close s b passes outlines limits kept answers may are =
    let is = passes_closed s b passes limits kept answers may in
    record { accounts_are = rw are (accounts_told b.history (accounts_of passes) is.agree); is_history = is }
