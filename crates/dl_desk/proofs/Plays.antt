-- Calls that a desk answers one after another.
use Rattle.std.proofs.Common.{◌≡◌, ◌∙◌, sym, ap, subst, ℕ, ◌+◌, ◌<◌, ◌≤◌, List, [], ◌∷◌, ◌++◌, length, take, get_or, refl}
use Rattle.std.specs.Prelude.{Result}
use Rattle.std.proofs.lemmas.List.{take_more, take_all}
use Rattle.dl_values.specs.Limits.{Rules}
use Rattle.dl_desk.specs.History.{Atom}
use Rattle.dl_desk.specs.Calls.{answer, next, answers, after_all}
use Rattle.dl_desk.specs.BatchBook.{BatchBook, StandsFor}
use Rattle.dl_desk.specs.declared.call.DeskCall.{DeskCall}
use Rattle.dl_desk.specs.declared.event.Reply.{Reply}
use Rattle.dl_desk.specs.declared.fault.DeskFault.{DeskFault}

-- What holds once a desk that had one book has another, after some of the calls.
pub record Played (old new : BatchBook) (done : List DeskCall) (told : List (Result Reply DeskFault)) : Type 0 where
  pub rules : new.rules ≡ old.rules
  pub answers : (history : List Atom) → StandsFor old history → told ≡ answers old.rules history done
  pub stands : (history : List Atom) → StandsFor old history → StandsFor new (after_all old.rules history done)

answers-push : (rules : Rules) (history : List Atom) (calls : List DeskCall) (call : DeskCall)
    → answers rules history (calls ++ call ∷ []) ≡ answers rules history calls ++ answer rules (after_all rules history calls) call ∷ []
answers-push rules history [] call = refl
answers-push rules history (c ∷ calls) call =
    ap (λ (rest : List (Result Reply DeskFault)). answer rules history c ∷ rest) (answers-push rules (next rules history c) calls call)

after_all-push : (rules : Rules) (history : List Atom) (calls : List DeskCall) (call : DeskCall)
    → after_all rules history (calls ++ call ∷ []) ≡ next rules (after_all rules history calls) call
after_all-push rules history [] call = refl
after_all-push rules history (c ∷ calls) call = after_all-push rules (next rules history c) calls call

-- no call was made yet
pub played_none : (book : BatchBook) → Played book book [] []
played_none book = record { rules = refl; answers = λ history stands. refl; stands = λ history stands. stands }

-- one more call was answered
pub played_more : (old now new : BatchBook) (calls : List DeskCall) (i : ℕ) (call : DeskCall) (told : List (Result Reply DeskFault))
    (one : Result Reply DeskFault) → i < length calls → call ≡ get_or calls i call → Played old now (take i calls) told → new.rules ≡ now.rules
    → ((history : List Atom) → StandsFor now history → one ≡ answer now.rules history call)
    → ((history : List Atom) → StandsFor now history → StandsFor new (next now.rules history call))
    → Played old new (take (i + 1) calls) (told ++ one ∷ [])
played_more old now new calls i call told one low is played same answered stands =
    let done = take i calls in
    let more : take (i + 1) calls ≡ done ++ call ∷ [] = take_more calls i call low ∙ ap (λ (c : DeskCall). done ++ c ∷ []) (sym is) in
    rw more (record {
      rules = same ∙ played.rules;
      answers = λ history s. rw (answers-push old.rules history done call, played.answers history s, one_is history s) refl;
      stands = λ history s. rw (after_all-push old.rules history done call)
          (subst (λ (r : Rules). StandsFor new (next r (after_all old.rules history done) call)) played.rules
          (stands (after_all old.rules history done) (played.stands history s)));
    })
  where
    one_is : (history : List Atom) → StandsFor old history → one ≡ answer old.rules (after_all old.rules history (take i calls)) call
    one_is history s = answered (after_all old.rules history (take i calls)) (played.stands history s)
        ∙ ap (λ (r : Rules). answer r (after_all old.rules history (take i calls)) call) played.rules

-- all calls were answered
pub played_all : (old new : BatchBook) (calls : List DeskCall) (i : ℕ) (told : List (Result Reply DeskFault)) → length calls ≤ i
    → Played old new (take i calls) told → Played old new calls told
played_all old new calls i told high played = rw (take_all i calls high) at played
