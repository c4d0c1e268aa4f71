-- Bytes that are cut into parts, as far as a loop over the lengths of the parts has come.
use Rattle.std.proofs.Common.{◌≡◌, ℕ, suc, ◌+◌, ◌<◌, ◌≤◌, ◌⊎◌, List, [], ◌∷◌, ◌++◌, length, get_or}
use Rattle.std.proofs.Common.{drop, refl, ap, sym, ◌∙◌, subst, inl, inr, append_assoc, append-nil, arith}
use Rattle.std.proofs.lemmas.List.{drop_all, drop_more, length-drop}
use Rattle.std.proofs.lemmas.List.Elements.{All-push}
use Rattle.std.specs.List.{All}
use Rattle.dl_c_values.specs.declared.codes.TheConstants.{DONE, BAD_LENGTHS, OUT_OF_MEMORY}
use Rattle.dl_c_values.specs.Cuts.{parts, total_by, IsFirstFault}

-- The first lengths are used up: the parts that they gave, and the bytes that are left. A fault of those is one of all bytes.
pub record CutTo {L X : Type 0} (width : L → ℕ) (part : List ℕ → L → X) (IsPart : X → Type 0) (none : ℕ) (bytes : List ℕ) (ls : List L) (i : ℕ)
    (xs : List X) (rest : List ℕ) : Type 0 where
  pub cut_so : xs ++ parts width part rest (drop i ls) ≡ parts width part bytes ls
  pub taken : total_by width (drop i ls) + length bytes ≡ total_by width ls + length rest
  pub are_parts : All IsPart xs
  pub first : (code : ℕ) → IsFirstFault width part IsPart none rest (drop i ls) code → IsFirstFault width part IsPart none bytes ls code

module _ {L X : Type 0} (width : L → ℕ) (part : List ℕ → L → X) (IsPart : X → Type 0) (none : ℕ) (bytes : List ℕ) (ls : List L) (i : ℕ)
    (xs : List X) (rest : List ℕ) (other : L) (within : i < length ls) where
  abbrev l : L
  l = get_or ls i other

  next : drop i ls ≡ l ∷ drop (i + 1) ls
  next = drop_more ls i other within

  next_total : total_by width (drop i ls) ≡ width l + total_by width (drop (i + 1) ls)
  next_total = ap (total_by width) next

  -- the parts, with the one at the front of the rest among them
  seam : CutTo width part IsPart none bytes ls i xs rest
      → xs ++ part rest l ∷ parts width part (drop (width l) rest) (drop (i + 1) ls) ≡ parts width part bytes ls
  seam so = sym (ap (λ (ms : List L). xs ++ parts width part rest ms) next) ∙ so.cut_so

  pub cut_more : CutTo width part IsPart none bytes ls i xs rest → IsPart (part rest l) → width l ≤ length rest
      → CutTo width part IsPart none bytes ls (i + 1) (xs ++ part rest l ∷ []) (drop (width l) rest)
  cut_more so is_part room = record {
    cut_so = append_assoc xs (part rest l ∷ []) (parts width part (drop (width l) rest) (drop (i + 1) ls)) ∙ seam so;
    taken = omega (arith, so.taken, next_total, length-drop (width l) rest, room);
    are_parts = All-push IsPart xs (part rest l) so.are_parts is_part;
    first = λ code fault. so.first code
        (subst (λ (ms : List L). IsFirstFault width part IsPart none rest ms code) (sym next) (inr (room, inr (is_part, fault))));
  }

  -- a fault of the part at the front is the first one
  front_first : CutTo width part IsPart none bytes ls i xs rest → (code : ℕ) → IsFirstFault width part IsPart none rest (l ∷ drop (i + 1) ls) code
      → IsFirstFault width part IsPart none bytes ls code
  front_first so code fault = so.first code (subst (λ (ms : List L). IsFirstFault width part IsPart none rest ms code) (sym next) fault)

  pub cut_fault : (code : ℕ) → CutTo width part IsPart none bytes ls i xs rest
      → ((code ≡ BAD_LENGTHS) × (length rest < width l))
      ⊎ (((width l ≤ length rest) × (code ≡ none) × ¬ (IsPart (part rest l))) ⊎ (code ≡ OUT_OF_MEMORY))
      → IsFirstFault width part IsPart none bytes ls code ⊎ (code ≡ OUT_OF_MEMORY)
  cut_fault code so (inl short) = inl (front_first so code (inl short))
  cut_fault code so (inr (inl (room, is_code, no_part))) = inl (front_first so code (inr (room, inl (is_code, no_part))))
  cut_fault code so (inr (inr is_code)) = inr is_code

-- the lengths are used up
module _ {L X : Type 0} (width : L → ℕ) (part : List ℕ → L → X) (IsPart : X → Type 0) (none : ℕ) (bytes : List ℕ) (ls : List L) (i : ℕ)
    (xs : List X) (rest : List ℕ) (past : length ls ≤ i) (so : CutTo width part IsPart none bytes ls i xs rest) where
  used_up : drop i ls ≡ []
  used_up = drop_all i ls past

  -- bytes that are left are the first fault
  pub cut_left : 0 < length rest → IsFirstFault width part IsPart none bytes ls BAD_LENGTHS
  cut_left left =
      so.first BAD_LENGTHS (subst (λ (ms : List L). IsFirstFault width part IsPart none rest ms BAD_LENGTHS) (sym used_up) (refl, left))

  pub cut_whole : xs ≡ parts width part bytes ls
  cut_whole = sym (append-nil xs) ∙ sym (ap (λ (ms : List L). xs ++ parts width part rest ms) used_up) ∙ so.cut_so

  pub cut_total : length bytes ≡ total_by width ls + length rest
  cut_total = let used : total_by width (drop i ls) ≡ 0 = ap (total_by width) used_up in omega (arith, so.taken, used)

  pub cut_are_parts : All IsPart (parts width part bytes ls)
  cut_are_parts = subst (All IsPart) cut_whole so.are_parts

pub length_parts : {L X : Type 0} (width : L → ℕ) (part : List ℕ → L → X) (bytes : List ℕ) (ls : List L) → length (parts width part bytes ls) ≡ length ls
length_parts width part bytes [] = refl
length_parts width part bytes (l ∷ ls) = ap (λ (n : ℕ). suc n) (length_parts width part (drop (width l) bytes) ls)

-- a fault has a code that is no answer
module _ {L X : Type 0} (width : L → ℕ) (part : List ℕ → L → X) (IsPart : X → Type 0) (none : ℕ) (refuses : DONE < none) where
  first_fault_code : (bytes : List ℕ) (ls : List L) (code : ℕ) → IsFirstFault width part IsPart none bytes ls code → DONE < code
  first_fault_code bytes [] code (is_code, left) = omega (arith, is_code)
  first_fault_code bytes (l ∷ ls) code (inl (is_code, short)) = omega (arith, is_code)
  first_fault_code bytes (l ∷ ls) code (inr (room, inl (is_code, no_part))) = omega (arith, is_code, refuses)
  first_fault_code bytes (l ∷ ls) code (inr (room, inr (is_part, fault))) = first_fault_code (drop (width l) bytes) ls code fault

  pub fault_code : (bytes : List ℕ) (ls : List L) (code : ℕ) → IsFirstFault width part IsPart none bytes ls code ⊎ (code ≡ OUT_OF_MEMORY) → DONE < code
  fault_code bytes ls code (inl fault) = first_fault_code bytes ls code fault
  fault_code bytes ls code (inr is_code) = omega (arith, is_code)
