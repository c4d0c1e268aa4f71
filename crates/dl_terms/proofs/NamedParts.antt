-- The names of an object, with the values in their places.
use Rattle.std.proofs.Common.{◌≡◌, ◌∙◌, ap, sym, refl, ℕ, ◌+◌, ◌<◌, Bool, true, false, List, [], ◌∷◌, ◌++◌, map, drop, length, get_or}
use Rattle.std.proofs.Common.{Option, Some, arith, append_assoc, Ordering, Less, Equal, Greater, bytes_eq, if◌then◌else◌}
use Rattle.std.proofs.lemmas.List.{drop_more, get_or-map, get_or_read}
use Rattle.std.proofs.lemmas.Cmp.{same_from_slice_cmp}
use Rattle.std.proofs.lemmas.Bool.Decides.{nat_tests}
use Rattle.std.specs.Ordering.{nat_cmp, is_eq, match_ordering}
use Rattle.std.specs.Cmp.Lexicographic.{slice_cmp}
use Rattle.serde_json.specs.Data.{Data, string, member}
use Rattle.serde_json.specs.Find.{get_member}
use Rattle.serde_json.specs.Written.{comma_if, compact_text, members_text}
use Rattle.dl_terms.specs.Named.{ascend_from, are_ascending, label, zipped}

-- ---- whether names ascend

pub first_is : (names : List (List ℕ)) → are_ascending names ≡ ascend_from (get_or names 0 []) (drop 1 names)
first_is [] = refl
first_is (n ∷ names) = refl

-- ---- one step of a loop over the values of an object

module _ (names : List (List ℕ)) (xs : List Data) (i : ℕ) (x : Data) (long : length names ≡ length xs) (low : i < length xs) (is : x ≡ get_or xs i x) where
  front : zipped (drop i names) (drop i xs) ≡ member (get_or names i []) x (zipped (drop (i + 1) names) (drop (i + 1) xs))
  front =
      let here : i < length names = omega arith in
      let value : drop i xs ≡ x ∷ drop (i + 1) xs = drop_more xs i x low ∙ ap (λ z. z ∷ drop (i + 1) xs) (sym is) in
      λ j. zipped (drop_more names i [] here j) (value j)

  labelled : (l : List ℕ) → l ≡ get_or (map label names) i l → l ≡ label (get_or names i [])
  labelled l at = at ∙ get_or-map label names i [] l (omega arith)

  -- what stands before a member, its label and its value come off the text of the rest
  pub member_text_next : (l said : List ℕ) → l ≡ get_or (map label names) i l → said ≡ l → (later : Bool) (now marked named next whole : List ℕ)
      → now ++ members_text later (zipped (drop i names) (drop i xs)) ≡ whole → marked ≡ now ++ comma_if later → named ≡ marked ++ said
      → next ≡ named ++ compact_text x → next ++ members_text true (zipped (drop (i + 1) names) (drop (i + 1) xs)) ≡ whole
  member_text_next l said at same later now marked named next whole so_far mark name written =
      let n = get_or names i [] in
      let end = members_text true (zipped (drop (i + 1) names) (drop (i + 1) xs)) in
      let value = compact_text x ++ end in
      ap (λ t. t ++ end) written
      ∙ (append_assoc named (compact_text x) end
      ∙ (ap (λ t. t ++ value) name
      ∙ (append_assoc marked said value
      ∙ (ap (λ t. marked ++ (t ++ value)) (same ∙ labelled l at)
      ∙ (ap (λ t. marked ++ t) (append_assoc (compact_text (string n)) (58 ∷ []) value)
      ∙ (ap (λ t. t ++ (compact_text (string n) ++ 58 ∷ value)) mark
      ∙ (append_assoc now (comma_if later) (compact_text (string n) ++ 58 ∷ value)
      ∙ (ap (λ ms. now ++ members_text later ms) (sym front) ∙ so_far))))))))

  get_step : (o : Ordering) (test : Bool) (found : Option Data) → is_eq o ≡ test → match_ordering o found (Some x) found ≡ (if test then Some x else found)
  get_step Less test found e = ap (λ b. if b then Some x else found) e
  get_step Equal test found e = ap (λ b. if b then Some x else found) e
  get_step Greater test found e = ap (λ b. if b then Some x else found) e

  same_text : (k l : List ℕ) → is_eq (slice_cmp nat_cmp k l) ≡ bytes_eq k l
  same_text k l = same_from_slice_cmp nat_cmp is_eq bytes_eq refl (λ _ _. refl) (λ _ _. refl) (λ y z ys zs o h. grind (arith, nat_tests)) k l (slice_cmp nat_cmp k l) refl

  -- the member of a name is this one, or one of the rest
  get_next : (k n : List ℕ) → n ≡ get_or names i n → (test : Bool) → test ≡ bytes_eq k n
      → get_member k (zipped (drop i names) (drop i xs)) ≡ (if test then Some x else get_member k (zipped (drop (i + 1) names) (drop (i + 1) xs)))
  get_next k n at test e =
      let name : n ≡ get_or names i [] = get_or_read names i n (omega arith) at [] in
      ap (get_member k) front
      ∙ get_step (slice_cmp nat_cmp k (get_or names i [])) test (get_member k (zipped (drop (i + 1) names) (drop (i + 1) xs)))
      (same_text k (get_or names i []) ∙ (ap (bytes_eq k) (sym name) ∙ sym e))

  pub found_here : (k n : List ℕ) → n ≡ get_or names i n → (test : Bool) → test ≡ bytes_eq k n → test ≡ true → (whole : Option Data)
      → whole ≡ get_member k (zipped (drop i names) (drop i xs)) → whole ≡ Some x
  found_here k n at test e same whole so_far =
      so_far ∙ (get_next k n at test e ∙ ap (λ b. if b then Some x else get_member k (zipped (drop (i + 1) names) (drop (i + 1) xs))) same)

  pub not_here : (k n : List ℕ) → n ≡ get_or names i n → (test : Bool) → test ≡ bytes_eq k n → test ≡ false → (whole : Option Data)
      → whole ≡ get_member k (zipped (drop i names) (drop i xs)) → whole ≡ get_member k (zipped (drop (i + 1) names) (drop (i + 1) xs))
  not_here k n at test e other whole so_far =
      so_far ∙ (get_next k n at test e ∙ ap (λ b. if b then Some x else get_member k (zipped (drop (i + 1) names) (drop (i + 1) xs))) other)
