-- Batches of a history, counted one after another.
use Rattle.std.proofs.Common.{◌≡◌, ◌∙◌, sym, ap, subst, refl, ℕ, zero, suc, ◌+◌, ◌≤◌, max, List, [], ◌∷◌, ◌++◌, length, length-append, add-one, arith}
use Rattle.std.proofs.lemmas.List.Recursion.{max_push}
use Rattle.std.proofs.lemmas.List.Sums.{sum_by_push}
use Rattle.dl_desk.specs.History.{Atom, begun}
use Rattle.dl_desk.specs.Legal.{keys_of}
use Rattle.dl_picture.specs.Numbers.{AreBatchNumbers, AreSizes, greatest, sizes_of}
use Rattle.dl_picture.specs.declared.batches.BatchNumbers.{BatchNumbers}

-- one batch more
pub size_more : (sizes : List ℕ) (size : ℕ) (n m : BatchNumbers) → m.batches ≡ n.batches + 1 → m.keys ≡ n.keys + size → m.largest ≡ max n.largest size
    → AreSizes sizes n → AreSizes (sizes ++ size ∷ []) m
size_more sizes size n m batches keys largest are = record {
  batches = batches ∙ (ap (λ k. k + 1) are.batches ∙ sym (length-append sizes (size ∷ [])));
  keys = keys ∙ (ap (λ k. k + size) are.keys ∙ sym (sum_by_push (λ k. k) sizes size));
  largest = largest ∙ (ap (λ k. max k size) are.largest ∙ sym (max_push greatest (λ k. k) refl (λ k ks. refl) sizes size));
}

sizes_length : (history : List Atom) (n : ℕ) → length (sizes_of history n) ≡ n
sizes_length history zero = refl
sizes_length history (suc n) =
    length-append (sizes_of history n) (length (keys_of history n) ∷ []) ∙ (ap (λ k. k + 1) (sizes_length history n) ∙ add-one n)

-- all batches were counted
pub all_batches : (history : List Atom) (n : ℕ) (m : BatchNumbers) → n ≤ begun history → begun history ≤ n → AreSizes (sizes_of history n) m
    → AreBatchNumbers history m
all_batches history n m low high are =
    let all : n ≡ begun history = omega arith in
    record {
      batches = are.batches ∙ (sizes_length history n ∙ all);
      sizes = subst (λ k. AreSizes (sizes_of history k) m) all are;
    }
