-- Marking a stored batch as ended.
use Rattle.std.proofs.Common.{◌≡◌, ◌∙◌, sym, ap, ℕ, zero, suc, ◌+◌, ◌<◌, min, true, false, List, [], ◌∷◌, ◌++◌, inl, inr, length, map, set, take, Option}
use Rattle.std.proofs.Common.{Some, None, slice_get, nat_eq, refl, arith}
use Rattle.std.specs.Option.{option_eq}
use Rattle.std.proofs.lemmas.Bool.{cases_eq, eqb-true, eq-eqb, true≢false}
use Rattle.std.proofs.lemmas.Option.{slice_get-map, slice_get_within}
use Rattle.std.proofs.lemmas.List.{map-set, length-set, length-take}
use Rattle.dl_desk.specs.Inside.StoredBatch.{StoredBatch}
use Rattle.dl_desk.specs.BatchBook.{Batch}
use Rattle.dl_desk.specs.Inside.Preparation.{prepared_batch, shown_batch, set_end}
use Rattle.dl_desk.specs.Inside.Marks.{DeskFields, IsStored, IsDesk}
use Rattle.dl_desk.specs.Inside.TableBook.{TableBook, TouchedBy, both}
use Rattle.dl_desk.specs.declared.desk.Extent.{Extent}
use Rattle.dl_desk.specs.declared.reply.End.{End}
use Rattle.dl_desk.proofs.Tails.{get-set_same, get-set_other}
use Rattle.dl_desk.proofs.DispatchJobs.{get-take}
use Rattle.dl_desk.proofs.TableLemmas.{fit_same, alike_set, touched_by}
use Rattle.dl_desk.proofs.MemoMembers.{held_marked}

-- ---- small ones

pub option_eq-true : (o : Option ℕ) (d : ℕ) → option_eq nat_eq o (Some d) ≡ true → o ≡ Some d
option_eq-true None d e = absurd (true≢false (sym e))
option_eq-true (Some c) d e = ap (λ (n : ℕ). Some n) (eqb-true c d e)

pub option_eq-false : (o : Option ℕ) (d : ℕ) → option_eq nat_eq o (Some d) ≡ false → o ≡ Some d → ⊥
option_eq-false None d e is = let bad : ◌≡◌ {A = Option ℕ} None (Some d) = is in cc
option_eq-false (Some c) d e is = let two : ◌≡◌ {A = Option ℕ} (Some c) (Some d) = is in let same : c ≡ d = cc in true≢false (sym (eq-eqb c d same) ∙ e)

pub take-next : {A : Type 0} (xs : List A) (i : ℕ) (x : A) → slice_get xs i ≡ Some x → take (i + 1) xs ≡ take i xs ++ x ∷ []
take-next {A} [] i x at = absurd (let bad : ◌≡◌ {A = Option A} None (Some x) = at in cc)
take-next {A} (y ∷ xs) zero x at = let two : ◌≡◌ {A = Option A} (Some y) (Some x) = at in let is : y ≡ x = cc in rw is refl
take-next {A} (y ∷ xs) (suc i) x at = let n : suc i + 1 ≡ suc (i + 1) = omega arith in rw n (ap (λ (zs : List A). y ∷ zs) (take-next xs i x at))

-- ---- the batches

-- the batch with an end
abbrev pub with_end : Batch → End → Batch
with_end x e = record { members = x.members; end = Some e }

pub take-set_end : (xs : List Batch) (k n : ℕ) (x : Batch) (e : End) → n < k → slice_get xs n ≡ Some x
    → take k (set xs n (with_end x e)) ≡ set_end (take k xs) n e
take-set_end [] k n x e low at = absurd (let bad : ◌≡◌ {A = Option Batch} None (Some x) = at in cc)
take-set_end (y ∷ xs) zero n x e low at = absurd (omega arith)
take-set_end (y ∷ xs) (suc k) zero x e low at = let two : ◌≡◌ {A = Option Batch} (Some y) (Some x) = at in let is : y ≡ x = cc in rw is refl
take-set_end (y ∷ xs) (suc k) (suc n) x e low at = ap (λ (zs : List Batch). y ∷ zs) (take-set_end xs k n x e (omega arith) at)

stored_set : (e : Extent) (most n : ℕ) (xs : List Batch) (y : Batch) → IsStored e most xs → n < e.begun → IsStored e most (set xs n y)
stored_set e most n xs y is low = record {
  all_sent = is.all_sent;
  all_stored = rw length-set is.all_stored;
  few = is.few;
  within = is.within;
  spare = λ b high inside. get-set_other xs n b y (λ same. absurd (omega arith)) ∙ is.spare b high (rw length-set at inside);
}

low_begun : (begun n : ℕ) (xs : List Batch) → n < length (take begun xs) → n < begun
low_begun begun n xs low = let l : n < min begun (length xs) = rw length-take at low in omega arith

at_both : (f : StoredBatch → Batch) (begun n : ℕ) (xs : List StoredBatch) (x : StoredBatch) → n < begun → slice_get xs n ≡ Some x
    → slice_get (take begun (map f xs)) n ≡ Some (f x)
at_both f begun n xs x low at = rw (get-take (map f xs) begun n low, slice_get-map f xs n, at) refl

-- where nothing is prepared a batch is the same prepared and shown
none_at : (prepared shown n : ℕ) (xs : List StoredBatch) (x : StoredBatch) → take prepared (map prepared_batch xs) ≡ take shown (map shown_batch xs)
    → n < length (take shown (map shown_batch xs)) → slice_get xs n ≡ Some x → shown_batch x ≡ prepared_batch x
none_at prepared shown n xs x same low at =
    let f : slice_get (take shown (map shown_batch xs)) n ≡ Some (shown_batch x) =
    at_both shown_batch shown n xs x (low_begun shown n (map shown_batch xs) low) at in
    let low_too : n < length (take prepared (map prepared_batch xs)) = rw same low in
    let w : slice_get (take prepared (map prepared_batch xs)) n ≡ Some (prepared_batch x) =
    at_both prepared_batch prepared n xs x (low_begun prepared n (map prepared_batch xs) low_too) at in
    let g : slice_get (take shown (map shown_batch xs)) n ≡ Some (prepared_batch x) = rw same at w in
    let two : ◌≡◌ {A = Option Batch} (Some (shown_batch x)) (Some (prepared_batch x)) = sym f ∙ g in
    cc

-- A batch is marked as ended, where nothing is prepared.
pub record IsMarked (prepared shown n : ℕ) (xs : List StoredBatch) (x y : StoredBatch) (e : End) : Type 0 where
  pub same : take prepared (map prepared_batch xs) ≡ take shown (map shown_batch xs)
  pub low : n < length (take shown (map shown_batch xs))
  pub at : slice_get xs n ≡ Some x
  pub prepared_end : prepared_batch y ≡ with_end (prepared_batch x) e
  pub shown_end : shown_batch y ≡ with_end (shown_batch x) e

touched_marked : (n : ℕ) (xs : List StoredBatch) (x y : StoredBatch) (t : Option TableBook) → slice_get xs n ≡ Some x → shown_batch y ≡ prepared_batch y
    → TouchedBy t xs → TouchedBy t (set xs n y)
touched_marked n xs x y None at done are = tt
touched_marked n xs x y (Some t) at done are = record {
  within = λ b is. rw length-set (are.within b is);
  same = λ b z got none. elim (cases_eq b n) [
    | inl here ↦
        let mine : slice_get (set xs n y) b ≡ Some y = rw here (get-set_same xs n y (slice_get_within xs n x at)) in
        let two : ◌≡◌ {A = Option StoredBatch} (Some y) (Some z) = sym mine ∙ got in
        let is : y ≡ z = cc in
        rw (← is) done
    | inr other ↦ are.same b z (sym (get-set_other xs n b y other) ∙ got) none
  ];
}

pub desk_marked : (d : DeskFields) (n : ℕ) (x y : StoredBatch) (e : End) → IsDesk d → IsMarked d.prepared.begun d.shown.begun n d.batches x y e
    → IsDesk (record d { batches = set d.batches n y })
desk_marked d n x y e is m = record {
  prepared_book
      = rw map-set
      (stored_set d.prepared d.max_cells n (map prepared_batch d.batches) (prepared_batch y) is.prepared_book
      (low_begun d.prepared.begun n (map prepared_batch d.batches) (rw m.same m.low)));
  shown_book
      = rw map-set
      (stored_set d.shown d.max_cells n (map shown_batch d.batches) (shown_batch y) is.shown_book
      (low_begun d.shown.begun n (map shown_batch d.batches) m.low));
  later = is.later;
  tables = fit_same d.max_batch (both d.shown.begun d.prepared.begun d.batches) (both d.shown.begun d.prepared.begun (set d.batches n y)) d.tables
      (touched_marked n d.batches x y d.tables m.at (m.shown_end ∙ (ap (λ (b : Batch). with_end b e)
      (none_at d.prepared.begun d.shown.begun n d.batches x m.same m.low m.at) ∙ sym m.prepared_end))
      (touched_by d.max_batch (both d.shown.begun d.prepared.begun d.batches) d.tables is.tables))
      (rw map-set (alike_set d.shown.begun n (map shown_batch d.batches) (shown_batch x) (shown_batch y) (rw (slice_get-map shown_batch d.batches n, m.at) refl)
      (ap (λ (b : Batch). b.members) m.shown_end)))
      (rw map-set (alike_set d.prepared.begun n (map prepared_batch d.batches) (prepared_batch x) (prepared_batch y)
      (rw (slice_get-map prepared_batch d.batches n, m.at) refl) (ap (λ (b : Batch). b.members) m.prepared_end)))
      is.tables;
  memo = is.memo;
  same = λ b outside z at. elim (cases_eq b n) [
    | inl here ↦
        let got : slice_get (set d.batches n y) b ≡ Some y = rw here (get-set_same d.batches n y (slice_get_within d.batches n x m.at)) in
        let two : ◌≡◌ {A = Option StoredBatch} (Some y) (Some z) = sym got ∙ at in
        let y_is : y ≡ z = cc in
        let f : shown_batch x ≡ prepared_batch x = none_at d.prepared.begun d.shown.begun n d.batches x m.same m.low m.at in
        rw (← y_is) (m.shown_end ∙ (ap (λ (b : Batch). with_end b e) f ∙ sym m.prepared_end))
    | inr other ↦ is.same b outside z (sym (get-set_other d.batches n b y other) ∙ at)
  ];
  unmarked = λ e. let s = is.unmarked e in record { extent = s.extent; all_memo = s.all_memo; none_touched = s.none_touched };
  prepared_held = rw map-set (held_marked d.forgotten d.memo (map prepared_batch d.batches) n (prepared_batch x) (prepared_batch y)
      (rw (slice_get-map prepared_batch d.batches n, m.at) refl) (ap (λ (b : Batch). b.members) m.prepared_end) is.prepared_held);
  shown_held = rw map-set (held_marked d.forgotten (take d.shown_memo d.memo) (map shown_batch d.batches) n (shown_batch x) (shown_batch y)
      (rw (slice_get-map shown_batch d.batches n, m.at) refl) (ap (λ (b : Batch). b.members) m.shown_end) is.shown_held);
}

pub batches_marked : (prepared shown n : ℕ) (xs : List StoredBatch) (x y : StoredBatch) (e : End) → IsMarked prepared shown n xs x y e
    → take shown (map shown_batch (set xs n y)) ≡ set_end (take shown (map shown_batch xs)) n e
batches_marked prepared shown n xs x y e m =
    let low : n < shown = low_begun shown n (map shown_batch xs) m.low in
    let at : slice_get (map shown_batch xs) n ≡ Some (shown_batch x) = rw (slice_get-map shown_batch xs n, m.at) refl in
    rw (map-set, m.shown_end) (take-set_end (map shown_batch xs) shown n (shown_batch x) e low at)
