-- What holds of members stays, where one is put among them.
use Rattle.std.proofs.Common.{◌≡◌, refl, sym, ap, ◌∙◌, List, ℕ, Ordering, Less, Equal, Greater, is_eq}
use Rattle.std.proofs.lemmas.Map.Text.{is_eq-slice_cmp}
use Rattle.std.proofs.lemmas.Slice.Eq.{bytes_eq-Decides}
use Rattle.std.specs.Ordering.{nat_cmp, match_ordering}
use Rattle.std.specs.Cmp.Lexicographic.{slice_cmp}
use Rattle.serde_json.specs.Data.{Data, Members, member, put}

by_ordering : (P : Members → Type 0) (o : Ordering) (a b c : Members) → (o ≡ Less → P a) → (o ≡ Equal → P b) → (o ≡ Greater → P c)
    → P (match_ordering o a b c)
by_ordering P Less a b c less equal greater = less refl
by_ordering P Equal a b c less equal greater = equal refl
by_ordering P Greater a b c less equal greater = greater refl

-- by where the name stands: before the first, as the first, or after it
pub by_place : (P : Members → Type 0) (k : List ℕ) (d : Data) (l : List ℕ) (e : Data) (ms : Members)
    → (slice_cmp nat_cmp k l ≡ Less → P (member k d (member l e ms))) → (slice_cmp nat_cmp k l ≡ Equal → P (member l d ms))
    → (slice_cmp nat_cmp k l ≡ Greater → P (member l e (put k d ms))) → P (put k d (member l e ms))
by_place P k d l e ms = by_ordering P (slice_cmp nat_cmp k l) (member k d (member l e ms)) (member l d ms) (member l e (put k d ms))

pub same_name : (k l : List ℕ) → slice_cmp nat_cmp k l ≡ Equal → k ≡ l
same_name k l equal = (bytes_eq-Decides k l).0 (sym (is_eq-slice_cmp k l) ∙ ap is_eq equal)
