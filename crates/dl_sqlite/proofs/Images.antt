-- Files in memory are never in doubt, and one that begins as SQLite's do holds a database.
use Rattle.std.proofs.Common.{◌≡◌, ◌<◌, ℕ, List, [], ◌∷◌, length, take, slice_index, Bool, true, false, IsTrue, refl, sym, ap, subst, ◌∙◌, inl, inr, arith, get_or-take, length-take, zero-add}
use Rattle.std.proofs.lemmas.Bool.{and_from}
use Rattle.std.proofs.lemmas.Grind.{same_number_lists}
use Rattle.std.proofs.lemmas.Slice.Eq.{bytes_eq-Decides}
use Rattle.sqlite_disk.specs.declared.Disk.{Ghosts}
use Rattle.sqlite_disk.specs.Disk.{Holds, Torn}
use Rattle.sqlite_wal.specs.Recovery.{Image}
use Rattle.sqlite_pool.specs.Pool.{files}
use Rattle.sqlite_pool.specs.Stored.{used_size}
use Rattle.sqlite_pool.proofs.StateLemmas.{clean_is}
use Rattle.sqlite_pool.proofs.ProbeLemmas.{first_byte}
use Rattle.sqlite_store.specs.declared.store.FileStore.{FileStore}
use Rattle.sqlite_store.specs.FileStore.{view}
use Rattle.sqlite_trees.specs.View.{IsClean}
use Rattle.sqlite_trees.proofs.Doubt.{no_doubt}
use Rattle.sqlite.specs.Files.{IsBlankAs, IsNothing}
use Rattle.dl_sqlite.specs.Image.{begins_well}

-- a store over files that no read puts in doubt
pub store_is_clean : {D : Type 0} {g : Ghosts D} → ((file : D) → g.is_clean file ≡ true) → (it : FileStore D g) → IsClean (view it)
store_is_clean sure it =
    no_doubt (view it).is_clean (subst IsTrue (sym (clean_is it.pool)) (and_from _ _ (sure (files it.pool).0) (sure (files it.pool).1)))

-- a write to an empty file leaves the bytes that it writes
pub written_alone : (bytes file : List ℕ) → Torn 0 (length bytes) [] file → (0 < length bytes → Holds file 0 bytes) → file ≡ bytes
written_alone [] [] torn holds = refl
written_alone [] (x ∷ file) torn holds = absurd (omega (arith, torn.no_longer))
written_alone (b ∷ bytes) file torn holds =
    let whole = holds (omega arith) in
    same_number_lists file (b ∷ bytes) (omega (arith, torn.no_longer, whole.within))
    (λ k low. ap (λ i. slice_index file i) (sym (zero-add k)) ∙ whole.each k (omega (arith, torn.no_longer)))

starts : (file : List ℕ) → begins_well file ≡ true → (1 < length file) × (slice_index file 0 ≡ 83)
starts file h =
    let same = (bytes_eq-Decides (take 16 file) _).0 h in
    let long : length (take 16 file) ≡ 16 = ap length same in
    (omega (arith, length-take 16 file), sym (get_or-take 16 file 0 0 (omega arith)) ∙ ap (λ (b : List ℕ). slice_index b 0) same)

not_blank : (has_sums : Bool) (image : Image) → 0 < used_size 4096 has_sums → 1 < length image.db → slice_index image.db 0 ≡ 83 → ¬ IsBlankAs has_sums image
not_blank has_sums image some long begins blank =
    let gate = first_byte (used_size 4096 has_sums) some in
    elim blank [
      | inl empty ↦ omega arith
      | inr half ↦ elim half.1.0 [
        | inl short ↦ omega arith
        | inr (inl zero) ↦ omega (arith, zero.1)
        | inr (inr other) ↦ other.1 (begins ∙ sym gate)
      ]
    ]

pub is_made : (image : Image) → begins_well image.db ≡ true → ¬ IsNothing image
is_made image h nothing =
    let (long, begins) = starts image.db h in
    elim nothing [
      | inl plain ↦ not_blank false image (omega arith) long begins plain
      | inr summed ↦ not_blank true image (omega arith) long begins summed
    ]
