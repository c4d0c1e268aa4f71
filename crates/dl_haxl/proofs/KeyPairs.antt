-- The pairs of wanted keys with the outcomes that their tickets show.
use Rattle.std.proofs.Common.{◌≡◌, ◌∙◌, ap, sym, refl, ℕ, zero, suc, ◌+◌, ◌<◌, true}
use Rattle.std.proofs.Common.{List, [], ◌∷◌, ◌++◌, take, drop, length, get_or, Option, Some, None, arith, append_assoc, min}
use Rattle.std.specs.Prelude.{is_some}
use Rattle.std.proofs.lemmas.Bool.{and_parts, and_from}
use Rattle.std.proofs.lemmas.List.{length-take, take_more}
use Rattle.dl_values.specs.Key.{Key}
use Rattle.dl_values.specs.declared.outcome.Outcome.{Outcome}
use Rattle.dl_desk.specs.declared.event.Ending.{Ending}
use Rattle.dl_loader.specs.Pass.{Ticket}
use Rattle.dl_terms.specs.TermAnswers.{Pairs}
use Rattle.dl_haxl.specs.Pairs.{all_show, outcomes_shown, paired, with_shown}
use Rattle.dl_haxl.proofs.TicketLooks.{shown_long}

-- ---- the key in a place

pub some_left : (i : ℕ) (ks : List Key) → i < length ks → drop i ks ≡ [] → ⊥
some_left i [] lt none = omega arith
some_left zero (k ∷ ks) lt none = let bad : ◌≡◌ {A = List Key} (k ∷ ks) [] = none in cc
some_left (suc i) (k ∷ ks) lt none = let below : i < length ks = omega arith in some_left i ks below none

pub first_left : (i : ℕ) (ks : List Key) (k : Key) (rest : List Key) → drop i ks ≡ k ∷ rest → k ≡ get_or ks i k
first_left zero [] k rest front = refl
first_left zero (x ∷ ks) k rest front = let same : ◌≡◌ {A = List Key} (x ∷ ks) (k ∷ rest) = front in cc
first_left (suc i) [] k rest front = refl
first_left (suc i) (x ∷ ks) k rest front = first_left i ks k rest front

-- one pair more
paired_more : (ks : List Key) (os : List Outcome) (k : Key) (o : Outcome) → length os ≡ length ks
    → paired (ks ++ k ∷ []) (os ++ o ∷ []) ≡ paired ks os ++ (k, o) ∷ []
paired_more [] [] k o long = refl
paired_more [] (x ∷ os) k o long = absurd (omega (arith, long))
paired_more (j ∷ ks) [] k o long = absurd (omega (arith, long))
paired_more (j ∷ ks) (x ∷ os) k o long = let less : length os ≡ length ks = omega arith in ap (λ ps. (j, x) ∷ ps) (paired_more ks os k o less)

with_append : (known : Option Ending) (os more : List Outcome) → with_shown known (os ++ more) ≡ with_shown known os ++ more
with_append None os more = refl
with_append (Some e) os more = refl

shown_append : (ts : List Ticket) (t : Ticket) (e : Ending) → t.known ≡ Some e → outcomes_shown (ts ++ t ∷ []) ≡ outcomes_shown ts ++ e.outcome ∷ []
shown_append [] t e is = ap (λ (o : Option Ending). with_shown o []) is
shown_append (x ∷ ts) t e is = ap (with_shown x.known) (shown_append ts t e is) ∙ with_append x.known (outcomes_shown ts) (e.outcome ∷ [])

all_take : (i : ℕ) (ts : List Ticket) → all_show ts ≡ true → all_show (take i ts) ≡ true
all_take zero ts all = refl
all_take (suc i) [] all = refl
all_take (suc i) (t ∷ ts) all =
    let parts = and_parts (is_some t.known) (all_show ts) all in
    and_from (is_some t.known) (all_show (take i ts)) parts.0 (all_take i ts parts.1)

-- one step of the loop over the keys and their tickets
module _ (ks : List Key) (ts : List Ticket) (each : length ks ≡ length ts) (all : all_show ts ≡ true) where
  pub learned_next : (before now next : Pairs) (i : ℕ) (k : Key) (d : Ticket) (e : Ending) → i < length ks → k ≡ get_or ks i k → (get_or ts i d).known ≡ Some e
      → now ≡ before ++ paired (take i ks) (outcomes_shown (take i ts)) → next ≡ now ++ (k, e.outcome) ∷ []
      → next ≡ before ++ paired (take (i + 1) ks) (outcomes_shown (take (i + 1) ts))
  learned_next before now next i k d e lt key known so_far put =
      let below : i < length ts = omega (arith, each) in
      let keys : take (i + 1) ks ≡ take i ks ++ k ∷ [] = take_more ks i k lt ∙ ap (λ x. take i ks ++ x ∷ []) (sym key) in
      let tickets : take (i + 1) ts ≡ take i ts ++ get_or ts i d ∷ [] = take_more ts i d below in
      let shown = ap outcomes_shown tickets ∙ shown_append (take i ts) (get_or ts i d) e known in
      let long : length (outcomes_shown (take i ts)) ≡ length (take i ks) =
      shown_long (take i ts) (all_take i ts all) ∙ (length-take i ts ∙ (ap (min i) (sym each) ∙ sym (length-take i ks))) in
      let more = paired_more (take i ks) (outcomes_shown (take i ts)) k e.outcome long in
      put ∙ (ap (λ ps. ps ++ (k, e.outcome) ∷ []) so_far
      ∙ (append_assoc before (paired (take i ks) (outcomes_shown (take i ts))) ((k, e.outcome) ∷ [])
      ∙ ap (λ ps. before ++ ps) (sym (ap (λ xs. paired xs (outcomes_shown (take (i + 1) ts))) keys ∙ (ap (paired (take i ks ++ k ∷ [])) shown ∙ more)))))
