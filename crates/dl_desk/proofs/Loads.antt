-- Loads of several keys, one after another.
use Rattle.std.proofs.Common.{◌≡◌, ◌∙◌, sym, ap, subst, ℕ, ◌+◌, ◌<◌, ◌≤◌, List, [], ◌∷◌, ◌++◌, length, take, drop, get_or, None, refl}
use Rattle.std.proofs.lemmas.List.{take_more, take_all, drop_more, take-append-drop}
use Rattle.dl_values.specs.Key.{Key}
use Rattle.dl_values.specs.Limits.{Rules}
use Rattle.dl_desk.specs.History.{Atom, Load, load_reply, loaded, load_replies}
use Rattle.dl_desk.specs.declared.reply.LoadReply.{LoadReply}
use Rattle.dl_desk.specs.declared.fault.DeskFault.{DeskFault}
use Rattle.dl_desk.specs.Calls.{refusal, IsRefusal}
use Rattle.dl_desk.specs.declared.call.DeskCall.TheVariants.{LoadMany}
use Rattle.dl_desk.specs.BatchBook.{BatchBook, Desk, StandsFor}
use Rattle.dl_desk.specs.Inside.Preparation.{RefusesStep}
use Rattle.dl_desk.proofs.Counts.{loaded-append, load_replies-snoc, full-none, refused_at}

-- What holds after loads of some keys were prepared in a desk that showed a book.
pub record Loading (book : BatchBook) (desk : Desk) (done : List Key) (replies : List LoadReply) : Type 0 where
  pub shown : desk.book ≡ book
  pub rules : desk.prepared.rules ≡ book.rules
  pub stands : (history : List Atom) → StandsFor book history → StandsFor desk.prepared (loaded book.rules history done)
  pub answers : (history : List Atom) → StandsFor book history → replies ≡ load_replies book.rules history done
  pub within : desk.prepared.cells ≤ desk.prepared.rules.limits.max_cells

-- What a step says of a load that was accepted.
pub record Loaded (old new : Desk) (k : Key) (reply : LoadReply) : Type 0 where
  pub shown : new.book ≡ old.book
  pub rules : new.prepared.rules ≡ old.prepared.rules
  pub answer : (history : List Atom) → StandsFor old.prepared history → reply ≡ load_reply old.prepared.rules history k
  pub stands : (history : List Atom) → StandsFor old.prepared history → StandsFor new.prepared (Load k reply ∷ history)
  pub within : new.prepared.cells ≤ new.prepared.rules.limits.max_cells

-- one more load
pub loading_more : (book : BatchBook) (old new : Desk) (done : List Key) (replies : List LoadReply) (k : Key) (reply : LoadReply)
    → Loading book old done replies → Loaded old new k reply → Loading book new (done ++ k ∷ []) (replies ++ reply ∷ [])
loading_more book old new done replies k reply l s = record {
  shown = s.shown ∙ l.shown;
  rules = s.rules ∙ l.rules;
  stands = λ history stands. rw (loaded-append book.rules history done (k ∷ [])) (let P : LoadReply
      → Type 0 =
      λ r. StandsFor new.prepared (Load k r ∷ loaded book.rules history done) in
      subst P (answer history stands) (s.stands (loaded book.rules history done) (l.stands history stands)));
  answers = λ history stands. rw (load_replies-snoc book.rules history done k, l.answers history stands, answer history stands) refl;
  within = s.within;
}
  where
    answer : (history : List Atom) → StandsFor book history → reply ≡ load_reply book.rules (loaded book.rules history done) k
    answer history stands = s.answer (loaded book.rules history done) (l.stands history stands)
        ∙ ap (λ (r : Rules). load_reply r (loaded book.rules history done) k) l.rules

-- the same, by the place of the key in the whole list
pub loading_at : (book : BatchBook) (old new : Desk) (keys : List Key) (i : ℕ) (replies : List LoadReply) (k : Key) (reply : LoadReply) → i < length keys
    → k ≡ get_or keys i k → Loading book old (take i keys) replies → Loaded old new k reply → Loading book new (take (i + 1) keys) (replies ++ reply ∷ [])
loading_at book old new keys i replies k reply low at l s =
    let next : take (i + 1) keys ≡ take i keys ++ k ∷ [] = take_more keys i k low ∙ ap (λ (x : Key). take i keys ++ x ∷ []) (sym at) in
    rw next (loading_more book old new (take i keys) replies k reply l s)

-- after all of them the call is accepted
pub loading_all : (book : BatchBook) (desk : Desk) (keys : List Key) (i : ℕ) (replies : List LoadReply) → length keys ≤ i
    → Loading book desk (take i keys) replies → Loading book desk keys replies
loading_all book desk keys i replies high l = rw (take_all i keys high) at l

pub loading_accepted : (book : BatchBook) (desk : Desk) (keys : List Key) (replies : List LoadReply) → Loading book desk keys replies → (history : List Atom)
    → StandsFor book history → refusal book.rules history (LoadMany keys) ≡ None
loading_accepted book desk keys replies l history stands =
    let s : StandsFor desk.prepared (loaded book.rules history keys) = l.stands history stands in
    let w : desk.prepared.cells ≤ book.rules.limits.max_cells = rw l.rules at l.within in
    full-none book.rules history keys (rw s.cells at w)

-- a refused step refuses the call
pub loading_refused : (book : BatchBook) (desk : Desk) (keys : List Key) (i : ℕ) (replies : List LoadReply) (k : Key) (fault : DeskFault) → i < length keys
    → k ≡ get_or keys i k → Loading book desk (take i keys) replies → RefusesStep desk.prepared k fault → (history : List Atom) → StandsFor book history
    → IsRefusal book.rules history (LoadMany keys) fault
loading_refused book desk keys i replies k fault low at l refuses history stands =
    let split : take i keys ++ k ∷ drop (i + 1) keys ≡ keys = ap (λ (ys : List Key). take i keys ++ ys)
    (ap (λ (x : Key). x ∷ drop (i + 1) keys) at ∙ sym (drop_more keys i k low)) ∙ take-append-drop i keys in
    let P : List Key → Type 0 = λ ks. IsRefusal book.rules history (LoadMany ks) fault in
    subst P split (refused_at book.rules history (take i keys) k (drop (i + 1) keys) desk.prepared fault l.rules (l.stands history stands) refuses)
