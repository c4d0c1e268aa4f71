-- The tests, made in their order on what was read, find the least fault.
use Rattle.std.proofs.Common.{◌≡◌, ℕ, ◌<◌, List, Bool, true, false, Option, Some, None, Err, if◌then◌else◌, option_map, ap, sym, ◌∙◌, refl, subst, inl, inr, ◌⊎◌}
use Rattle.std.proofs.Common.{true≢false, arith}
use Rattle.std.specs.Option.{option_or}
use Rattle.serde_json.specs.Data.{Data}
use Rattle.dl_source.specs.declared.fault.TableFault.{TableFault}
use Rattle.dl_source.specs.declared.fault.TableFault.TheVariants.{Shape, BadKey, TextTooLong, NotWhole, DuplicateTable, DuplicateKey, OutOfMemory}
use Rattle.dl_source.specs.declared.table_reader.Version.{Version}
use Rattle.dl_source.specs.Tables.{Tables}
use Rattle.dl_source.specs.NumberedTables.{NumberedTable, tables_of}
use Rattle.dl_values.specs.TableLimits.{repeats}
use Rattle.dl_source.specs.Faults.{has_bad_key, has_long_text, has_other_number, has_repeated_key, Has, Causes, number, IsLeast, RefusedFor}
use Rattle.dl_source.specs.Inside.Reading.{listed_in, tables_in, Reads, content_fault, repetition_fault, fault_of}
use Rattle.dl_source.proofs.Spelling.{IsReader, same_some}

-- ---- the tests of tables

-- the tests before number n are passed
pub record Passed (ts : Tables) (n : ℕ) : Type 0 where
  pub keys : 2 < n → has_bad_key ts ≡ false
  pub texts : 3 < n → has_long_text ts ≡ false
  pub numbers : 4 < n → has_other_number ts ≡ false
  pub names : 5 < n → repeats ts ≡ false
  pub ids : 6 < n → has_repeated_key ts ≡ false

-- the tests, as they come out
abbrev first_of : Bool → Bool → Bool → Bool → Bool → Option TableFault
first_of k t w n i =
    option_or (if k then Some BadKey else (if t then Some TextTooLong else (if w then Some NotWhole else None)))
    (if n then Some DuplicateTable else (if i then Some DuplicateKey else None))

pub record AreFalse (k t w n i : Bool) : Type 0 where
  pub keys : k ≡ false
  pub texts : t ≡ false
  pub numbers : w ≡ false
  pub names : n ≡ false
  pub ids : i ≡ false

all_false : (k t w n i : Bool) → first_of k t w n i ≡ None → AreFalse k t w n i
all_false true t w n i h = cc
all_false false true w n i h = cc
all_false false false true n i h = cc
all_false false false false true i h = cc
all_false false false false false true h = cc
all_false false false false false false h = record { keys = refl; texts = refl; numbers = refl; names = refl; ids = refl }

-- no fault: each test is passed
clean : (ts : Tables) → fault_of ts ≡ None → AreFalse (has_bad_key ts) (has_long_text ts) (has_other_number ts) (repeats ts) (has_repeated_key ts)
clean ts h = all_false (has_bad_key ts) (has_long_text ts) (has_other_number ts) (repeats ts) (has_repeated_key ts) h

module _ (ts : Tables) where
  -- a fault of the content
  pub content_first : (f : TableFault) → content_fault ts ≡ Some f → fault_of ts ≡ Some f
  content_first f h = ap (λ o. option_or o (repetition_fault ts)) h

  repetition_next : content_fault ts ≡ None → fault_of ts ≡ repetition_fault ts
  repetition_next h = ap (λ o. option_or o (repetition_fault ts)) h

  -- two tables of one name
  pub name_next : content_fault ts ≡ None → repeats ts ≡ true → fault_of ts ≡ Some DuplicateTable
  name_next h n = repetition_next h ∙ ap (λ b. if b then Some DuplicateTable else (if has_repeated_key ts then Some DuplicateKey else None)) n

  repeated : content_fault ts ≡ None → repeats ts ≡ false → fault_of ts ≡ (if has_repeated_key ts then Some DuplicateKey else None)
  repeated h n = repetition_next h ∙ ap (λ b. if b then Some DuplicateTable else (if has_repeated_key ts then Some DuplicateKey else None)) n

  -- an id twice, or out of memory
  pub twice_or_memory : content_fault ts ≡ None → repeats ts ≡ false → (f : TableFault) → (f ≡ OutOfMemory) ⊎ ((f ≡ DuplicateKey) × (has_repeated_key ts ≡ true))
      → (f ≡ OutOfMemory) ⊎ (fault_of ts ≡ Some f)
  twice_or_memory h n f (inl memory) = inl memory
  twice_or_memory h n f (inr twice) = inr (repeated h n ∙ ap (λ b. if b then Some DuplicateKey else None) twice.1 ∙ ap Some (sym twice.0))

  -- no fault at all
  pub none_left : content_fault ts ≡ None → repeats ts ≡ false → has_repeated_key ts ≡ false → fault_of ts ≡ None
  none_left h n i = repeated h n ∙ ap (λ b. if b then Some DuplicateKey else None) i

-- ---- what is read of a tree

module _ (version : Version) (S : Data → Tables → Type 0) (r : IsReader (tables_in version) S) (d : Data) where
  -- a tree that is read as no tables spells none
  no_tables : tables_in version d ≡ None → IsLeast S d Shape
  no_tables h = record { cause = λ ts s. let e = sym h ∙ r.again d ts s in cc; least = before }
    where
      before : (g : TableFault) → number g < 1 → Causes S d g → ⊥
      before Shape lt c = omega arith
      before BadKey lt c = omega arith
      before TextTooLong lt c = omega arith
      before NotWhole lt c = omega arith
      before DuplicateTable lt c = omega arith
      before DuplicateKey lt c = omega arith
      before OutOfMemory lt c = omega arith

  -- the one fault of the reading
  pub unread : {T : Type 0} (f : TableFault) (seen : T → List NumberedTable) → Reads (Err f) seen (listed_in version d) → RefusedFor S d f
  unread Shape seen h = inr (no_tables (ap (option_map tables_of) h))
  unread BadKey seen h = absurd h
  unread TextTooLong seen h = absurd h
  unread NotWhole seen h = absurd h
  unread DuplicateTable seen h = absurd h
  unread DuplicateKey seen h = absurd h
  unread OutOfMemory seen h = inl refl

  module _ (ts : Tables) (read : tables_in version d ≡ Some ts) where
    pub spelled : S d ts
    spelled = r.found d ts read

    -- a test that the tables pass is passed by whatever the tree spells
    passed_by : (test : Tables → Bool) → test ts ≡ false → Has S test d → ⊥
    passed_by test p h =
        let same = same_some ts h.0 (sym read ∙ r.again d h.0 h.1) in
        true≢false (sym h.2 ∙ ap test (sym same) ∙ p)

    nothing_before : (n : ℕ) → Passed ts n → (g : TableFault) → number g < n → Causes S d g → ⊥
    nothing_before n p Shape lt c = c ts spelled
    nothing_before n p BadKey lt c = passed_by has_bad_key (p.keys lt) c
    nothing_before n p TextTooLong lt c = passed_by has_long_text (p.texts lt) c
    nothing_before n p NotWhole lt c = passed_by has_other_number (p.numbers lt) c
    nothing_before n p DuplicateTable lt c = passed_by repeats (p.names lt) c
    nothing_before n p DuplicateKey lt c = passed_by has_repeated_key (p.ids lt) c
    nothing_before n p OutOfMemory lt c = c

    -- without a fault, nothing is the matter
    pub accepted : fault_of ts ≡ None → (f : TableFault) → Causes S d f → ⊥
    accepted h f c =
        let pass = clean ts h in
        nothing_before
        8 (record { keys = λ _. pass.keys; texts = λ _. pass.texts; numbers = λ _. pass.numbers; names = λ _. pass.names; ids = λ _. pass.ids }) f (small f) c
      where
        small : (g : TableFault) → number g < 8
        small Shape = omega arith
        small BadKey = omega arith
        small TextTooLong = omega arith
        small NotWhole = omega arith
        small DuplicateTable = omega arith
        small DuplicateKey = omega arith
        small OutOfMemory = omega arith

    bad_key : has_bad_key ts ≡ true → IsLeast S d BadKey
    bad_key k = record {
      cause = (ts, spelled, k);
      least = nothing_before
          2 (record {
            keys = λ lt. absurd (omega arith);
            texts = λ lt. absurd (omega arith);
            numbers = λ lt. absurd (omega arith);
            names = λ lt. absurd (omega arith);
            ids = λ lt. absurd (omega arith);
          });
    }

    text_too_long : has_bad_key ts ≡ false → has_long_text ts ≡ true → IsLeast S d TextTooLong
    text_too_long k t = record {
      cause = (ts, spelled, t);
      least = nothing_before
          3 (record {
            keys = λ lt. k;
            texts = λ lt. absurd (omega arith);
            numbers = λ lt. absurd (omega arith);
            names = λ lt. absurd (omega arith);
            ids = λ lt. absurd (omega arith);
          });
    }

    not_whole : has_bad_key ts ≡ false → has_long_text ts ≡ false → has_other_number ts ≡ true → IsLeast S d NotWhole
    not_whole k t w = record {
      cause = (ts, spelled, w);
      least = nothing_before
          4 (record
          { keys = λ lt. k; texts = λ lt. t; numbers = λ lt. absurd (omega arith); names = λ lt. absurd (omega arith); ids = λ lt. absurd (omega arith) });
    }

    duplicate_table : has_bad_key ts ≡ false → has_long_text ts ≡ false → has_other_number ts ≡ false → repeats ts ≡ true → IsLeast S d DuplicateTable
    duplicate_table k t w n = record {
      cause = (ts, spelled, n);
      least = nothing_before
          5 (record { keys = λ lt. k; texts = λ lt. t; numbers = λ lt. w; names = λ lt. absurd (omega arith); ids = λ lt. absurd (omega arith) });
    }

    duplicate_key : has_bad_key ts ≡ false → has_long_text ts ≡ false → has_other_number ts ≡ false → repeats ts ≡ false → has_repeated_key ts ≡ true
        → IsLeast S d DuplicateKey
    duplicate_key k t w n i = record {
      cause = (ts, spelled, i);
      least = nothing_before 6 (record { keys = λ lt. k; texts = λ lt. t; numbers = λ lt. w; names = λ lt. n; ids = λ lt. absurd (omega arith) });
    }

    by_tests : (k t w n i : Bool) → has_bad_key ts ≡ k → has_long_text ts ≡ t → has_other_number ts ≡ w → repeats ts ≡ n → has_repeated_key ts ≡ i → (f : TableFault)
        → first_of k t w n i ≡ Some f → IsLeast S d f
    by_tests true t w n i is_k is_t is_w is_n is_i f h = subst (IsLeast S d) (same_some BadKey f h) (bad_key is_k)
    by_tests false true w n i is_k is_t is_w is_n is_i f h = subst (IsLeast S d) (same_some TextTooLong f h) (text_too_long is_k is_t)
    by_tests false false true n i is_k is_t is_w is_n is_i f h = subst (IsLeast S d) (same_some NotWhole f h) (not_whole is_k is_t is_w)
    by_tests false false false true i is_k is_t is_w is_n is_i f h = subst (IsLeast S d) (same_some DuplicateTable f h) (duplicate_table is_k is_t is_w is_n)
    by_tests false false false false true is_k is_t is_w is_n is_i f h =
        subst (IsLeast S d) (same_some DuplicateKey f h) (duplicate_key is_k is_t is_w is_n is_i)
    by_tests false false false false false is_k is_t is_w is_n is_i f h = cc

    -- a fault of the tables, or out of memory
    pub refused : (f : TableFault) → (f ≡ OutOfMemory) ⊎ (fault_of ts ≡ Some f) → RefusedFor S d f
    refused f (inl memory) = inl memory
    refused f (inr fault) =
        inr (by_tests (has_bad_key ts) (has_long_text ts) (has_other_number ts) (repeats ts) (has_repeated_key ts) refl refl refl refl refl f fault)
