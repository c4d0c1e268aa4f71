-- The names that a walk through a list has noted, which finds each repetition.
use Rattle.std.proofs.Common.{◌≡◌, ℕ, List, [], ◌∷◌, ◌++◌, Bool, true, false, ◌||◌, not, map, take, length, get_or, ◌<◌, ◌+◌, ap, sym, ◌∙◌, refl}
use Rattle.std.proofs.Common.{bytes_eq, Bor, Result, Ok, ok_or, if◌then◌else◌, Some, None}
use Rattle.std.specs.List.{list_any}
use Rattle.std.proofs.lemmas.List.{map-append}
use Rattle.std.proofs.Common.{append-nil}
use Rattle.dl_values.specs.TableLimits.{lists, repeats}
use Rattle.dl_values.proofs.Repeats.{take_next, clashes, clashes_next}

module _ {X : Type 0} where
  -- names by themselves are compared like names of findings
  pub lists-names : (name : List ℕ) (ks : List (Bor (List ℕ))) (es : List (List ℕ × X)) → map (λ k. k.now) ks ≡ map (λ e. e.0) es
      → list_any (λ k. bytes_eq name k.now) ks ≡ lists name es
  lists-names name ks es same = any_name ks ∙ ap (list_any (bytes_eq name)) same ∙ sym (any_finding es)
    where
      any_name : (ks : List (Bor (List ℕ))) → list_any (λ k. bytes_eq name k.now) ks ≡ list_any (bytes_eq name) (map (λ k. k.now) ks)
      any_name [] = refl
      any_name (k ∷ ks) = ap (λ b. bytes_eq name k.now || b) (any_name ks)

      any_finding : (es : List (List ℕ × X)) → lists name es ≡ list_any (bytes_eq name) (map (λ e. e.0) es)
      any_finding [] = refl
      any_finding (e ∷ es) = ap (λ b. bytes_eq name e.0 || b) (any_finding es)

  -- a new name is noted
  pub noted : (es : List (List ℕ × X)) (i : ℕ) (e : List ℕ × X) → i < length es → e ≡ get_or es i e
      → (ks : List (Bor (List ℕ))) (name : Bor (List ℕ)) → map (λ k. k.now) ks ≡ map (λ f. f.0) (take i es) → name.now ≡ e.0
      → map (λ k. k.now) (ks ++ name ∷ []) ≡ map (λ f. f.0) (take (i + 1) es)
  noted es i e lt is ks name seen is_name =
      map-append (λ (k : Bor (List ℕ)). k.now) ks (name ∷ [])
      ∙ ap (λ ns. ns ++ name.now ∷ []) seen
      ∙ ap (λ n. map (λ f. f.0) (take i es) ++ n ∷ []) is_name
      ∙ sym (map-append (λ (f : List ℕ × X). f.0) (take i es) (e ∷ []))
      ∙ ap (map (λ f. f.0)) (sym (take_next es i e lt is))

-- an insertion says whether the name was new
pub was_there : (b : Bool) → false ≡ not b → b ≡ true
was_there true h = refl
was_there false h = h

pub was_new : (b : Bool) → true ≡ not b → b ≡ false
was_new true h = h
was_new false h = refl

pub not_swap : (a b : Bool) → a ≡ not b → b ≡ not a
not_swap a true h = ap not (sym h)
not_swap a false h = ap not (sym h)

pub kept_true : {X E : Type 0} (b : Bool) (rows x : X) (e : E) → ◌≡◌ {A = Result X E} (Ok x) (ok_or (if b then None else Some rows) e) → b ≡ false
kept_true true rows x e h = cc
kept_true false rows x e h = refl

pub kept_rows : {X E : Type 0} (b : Bool) (rows x : X) (e : E) → ◌≡◌ {A = Result X E} (Ok x) (ok_or (if b then None else Some rows) e) → x ≡ rows
kept_rows true rows x e h = cc
kept_rows false rows x e h = cc

-- ---- a walk that takes each item out of its list

module _ {X : Type 0} (front rest all : List (List ℕ × X)) (e : List ℕ × X) (r : Bool) (is : all ≡ e ∷ rest) (walk : clashes front all ≡ r) where
  next : (lists e.0 front || clashes (front ++ e ∷ []) rest) ≡ r
  next = sym (clashes_next front rest e) ∙ sym (ap (clashes front) is) ∙ walk

  -- the name stood before
  pub found_next : lists e.0 front ≡ true → r ≡ true
  found_next again = sym next ∙ ap (λ b. b || clashes (front ++ e ∷ []) rest) again

  -- the name is new
  pub goes_on_next : lists e.0 front ≡ false → clashes (front ++ e ∷ []) rest ≡ r
  goes_on_next new = sym (ap (λ b. b || clashes (front ++ e ∷ []) rest) new) ∙ next

-- after the walk no name stands twice
pub none_clash : {X : Type 0} (front whole all : List (List ℕ × X)) → all ≡ [] → front ++ all ≡ whole → clashes front all ≡ repeats whole
    → Some front ≡ (if repeats whole then None else Some whole)
none_clash front whole all is order walk =
    let none : repeats whole ≡ false = sym walk ∙ ap (clashes front) is in
    let same : front ≡ whole = sym (append-nil front) ∙ ap (λ l. front ++ l) (sym is) ∙ order in
    ap Some same ∙ sym (ap (λ b. if b then None else Some whole) none)
