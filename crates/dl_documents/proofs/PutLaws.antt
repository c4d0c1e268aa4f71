-- Members that are put one after another.
use Rattle.std.proofs.Common.{◌≡◌, ◌∙◌, refl, sym, ap, ℕ, List, nat_cmp, is_eq, Ordering, Less, Equal, Greater}
use Rattle.std.proofs.lemmas.Cmp.{nat_list_cmp_total, tied_itself, alike_right}
use Rattle.std.proofs.lemmas.Map.Text.{is_eq-slice_cmp}
use Rattle.std.proofs.lemmas.Slice.Eq.{bytes_eq-Decides}
use Rattle.std.specs.Cmp.Lexicographic.{slice_cmp}
use Rattle.std.specs.Ordering.{match_ordering, ordering_reverse}
use Rattle.serde_json.specs.Data.{Data, Members, no_members, member, put}

pub same_text : (k : List ℕ) → slice_cmp nat_cmp k k ≡ Equal
same_text k = tied_itself nat_list_cmp_total k

pub same_name : (k l : List ℕ) → slice_cmp nat_cmp k l ≡ Equal → k ≡ l
same_name k l is = (bytes_eq-Decides k l).0 (sym (is_eq-slice_cmp k l) ∙ ap is_eq is)

-- ---- the same name twice

twice_at : (o : Ordering) (k l : List ℕ) (d e f : Data) (ms : Members) → slice_cmp nat_cmp k l ≡ o → put k d (put k e ms) ≡ put k d ms
    → put k d (match_ordering o (member k e (member l f ms)) (member l e ms) (member l f (put k e ms)))
    ≡ match_ordering o (member k d (member l f ms)) (member l d ms) (member l f (put k d ms))
twice_at Less k l d e f ms is later = rw (same_text k) refl
twice_at Equal k l d e f ms is later = rw is refl
twice_at Greater k l d e f ms is later = rw is (ap (member l f) later)

-- the later value stays
pub put_twice : (k : List ℕ) (d e : Data) (ms : Members) → put k d (put k e ms) ≡ put k d ms
put_twice k d e no_members = rw (same_text k) refl
put_twice k d e (member l f ms) = twice_at _ k l d e f ms refl (put_twice k d e ms)

-- ---- two names

module _ (k l : List ℕ) (less : slice_cmp nat_cmp k l ≡ Less) where
  above : slice_cmp nat_cmp l k ≡ Greater
  above = nat_list_cmp_total.antisymm l k ∙ ap ordering_reverse less

  -- below l is below what isn't below l
  below : (h : List ℕ) (p : Ordering) → slice_cmp nat_cmp l h ≡ p → (p ≡ Greater → ⊥) → slice_cmp nat_cmp k h ≡ Less
  below h Less is up = nat_list_cmp_total.trans k l h less is
  below h Equal is up = sym (alike_right nat_list_cmp_total l h k is) ∙ less
  below h Greater is up = absurd (up refl)

  swap_at : (p q : Ordering) (h : List ℕ) (d e f : Data) (ms : Members) → slice_cmp nat_cmp l h ≡ p → slice_cmp nat_cmp k h ≡ q
      → put k d (put l e ms) ≡ put l e (put k d ms)
      → put k d (match_ordering p (member l e (member h f ms)) (member h e ms) (member h f (put l e ms)))
      ≡ put l e (match_ordering q (member k d (member h f ms)) (member h d ms) (member h f (put k d ms)))
  swap_at Less Less h d e f ms is_p is_q later = rw (less, above, is_p) refl
  swap_at Less Equal h d e f ms is_p is_q later = absurd (let low = below h Less is_p (λ b. cc) in cc)
  swap_at Less Greater h d e f ms is_p is_q later = absurd (let low = below h Less is_p (λ b. cc) in cc)
  swap_at Equal Less h d e f ms is_p is_q later = rw (is_q, above, is_p) refl
  swap_at Equal Equal h d e f ms is_p is_q later = absurd (let low = below h Equal is_p (λ b. cc) in cc)
  swap_at Equal Greater h d e f ms is_p is_q later = absurd (let low = below h Equal is_p (λ b. cc) in cc)
  swap_at Greater Less h d e f ms is_p is_q later = rw (is_q, above, is_p) refl
  swap_at Greater Equal h d e f ms is_p is_q later = rw (is_q, is_p) refl
  swap_at Greater Greater h d e f ms is_p is_q later = rw (is_q, is_p) (ap (member h f) later)

  swap_less : (d e : Data) (ms : Members) → put k d (put l e ms) ≡ put l e (put k d ms)
  swap_less d e no_members = rw (less, above) refl
  swap_less d e (member h f ms) = swap_at _ _ h d e f ms refl refl (swap_less d e ms)

swap_by : (o : Ordering) (k l : List ℕ) (d e : Data) (ms : Members) → slice_cmp nat_cmp k l ≡ o → (k ≡ l → ⊥)
    → put k d (put l e ms) ≡ put l e (put k d ms)
swap_by Less k l d e ms is apart = swap_less k l is d e ms
swap_by Equal k l d e ms is apart = absurd (apart (same_name k l is))
swap_by Greater k l d e ms is apart =
    let less : slice_cmp nat_cmp l k ≡ Less = nat_list_cmp_total.antisymm l k ∙ ap ordering_reverse is in
    sym (swap_less l k less e d ms)

-- it is the same which goes in first
pub put_swap : (k l : List ℕ) (d e : Data) (ms : Members) → (k ≡ l → ⊥) → put k d (put l e ms) ≡ put l e (put k d ms)
put_swap k l d e ms apart = swap_by _ k l d e ms refl apart
