-- The book after a cell was begun stands for the history with the atom that began it.
use Rattle.std.proofs.Common.{◌≡◌, ◌∙◌, sym, ap, subst, ℕ, ◌+◌, ◌<◌, ◌≤◌, Bool, true, false, cond, List, [], ◌∷◌, ◌++◌, length, Option, Some, None, slice_get}
use Rattle.std.proofs.Common.{nat_eq, refl, arith}
use Rattle.std.proofs.lemmas.Bool.{ltb-true, ltb-false, eqb-true, eqb-false}
use Rattle.dl_values.specs.Key.{Key}
use Rattle.dl_values.specs.Limits.{Rules}
use Rattle.dl_desk.specs.History.{Atom, Begun, begins, is_named, begun, members, sent, end_of, forgets, IsAnswered, AllAnswered}
use Rattle.dl_desk.specs.declared.reply.End.{End}
use Rattle.dl_desk.specs.BatchBook.{Batch, BatchBook, batch_at, StandsFor}
use Rattle.dl_desk.specs.Inside.Preparation.{put_member, put_in, Begins}
use Rattle.dl_desk.proofs.Facts.{IsFresh, fresh_cell, room-le, named, members-unnamed, sent-le, end_of-unsent}
use Rattle.dl_desk.proofs.HeldLemmas.{held-begun}
use Rattle.dl_desk.proofs.NewMember.{length-put_member, length-put_member_new, with_member, get-put_member, first_member, get-put_member_new}
use Rattle.dl_desk.proofs.NewMember.{get-put_member_other}

-- the atom begins a cell, and touches nothing else of what a book has
pub record IsBeginning (a : Atom) (before : List Atom) (g : Begun) : Type 0 where
  pub begins_it : begins a ≡ Some g
  pub keeps : (k : Key) (batch : Option ℕ) → forgets k batch a ≡ false
  pub sends_none : sent (a ∷ before) ≡ sent before
  pub ends_none : (b : ℕ) → end_of (a ∷ before) b ≡ end_of before b

abbrev batch_with : List (Key × ℕ) → Option End → Batch
batch_with ms e = record { members = ms; end = e }

-- what stands for a history, as its batches tell it
abbrev Lists : List Batch → List Atom → Type 0
Lists xs history = (b : ℕ) → b < begun history → slice_get xs b ≡ Some (batch_at history b)

module _ (rules : Rules) (a : Atom) (before : List Atom) (legal : AllAnswered rules before) (xs : List Batch) (count : length xs ≡ begun before)
    (lists : Lists xs before) (k : Key) (c : ℕ) where
  -- the batches that a history with one more member has, in an open batch
  put_open : (n b : ℕ) (ms : List (Key × ℕ)) (e : Option End) → n < begun before → ms ≡ cond (nat_eq b n) (members before b ++ (k, c) ∷ []) (members before b)
      → e ≡ end_of before b → b < begun before → slice_get (put_member xs n (k, c)) b ≡ Some (batch_with ms e)
  put_open n b ms e low is ends below = by (nat_eq b n) refl is
    where
      by : (t : Bool) → nat_eq b n ≡ t → ms ≡ cond t (members before b ++ (k, c) ∷ []) (members before b)
          → slice_get (put_member xs n (k, c)) b ≡ Some (batch_with ms e)
      by true same m =
          let at : b ≡ n = eqb-true b n same in
          let got : slice_get (put_member xs b (k, c)) b ≡ Some (with_member (batch_at before b) (k, c)) =
          get-put_member xs b (k, c) (batch_at before b) (lists b below) in
          rw (m, ends, ← at) got
      by false other m =
          let got : slice_get (put_member xs n (k, c)) b ≡ slice_get xs b = get-put_member_other xs n b (k, c) (omega arith) (eqb-false b n other) in
          rw (m, ends) (got ∙ lists b below)

  -- and in a new one
  put_new : (n b : ℕ) (ms : List (Key × ℕ)) (e : Option End) → n ≡ begun before → is_named before n ≡ false
      → ms ≡ cond (nat_eq b n) (members before b ++ (k, c) ∷ []) (members before b) → e ≡ end_of before b → b < begun before + 1
      → slice_get (put_member xs n (k, c)) b ≡ Some (batch_with ms e)
  put_new n b ms e next unnamed is ends below = by (nat_eq b n) refl is
    where
      by : (t : Bool) → nat_eq b n ≡ t → ms ≡ cond t (members before b ++ (k, c) ∷ []) (members before b)
          → slice_get (put_member xs n (k, c)) b ≡ Some (batch_with ms e)
      by true same m =
          let at : b ≡ n = eqb-true b n same in
          let last : b ≡ length xs = omega arith in
          let got : slice_get (put_member xs b (k, c)) b ≡ Some (first_member (k, c)) = get-put_member_new xs b (k, c) last in
          let none : members before b ≡ [] = members-unnamed before b (rw at unnamed) in
          let unended : end_of before b ≡ None = end_of-unsent rules before legal b (let s = sent-le before in omega arith) in
          rw (m, ends, none, unended, ← at) got
      by false other m =
          let ne : b ≡ n → ⊥ = eqb-false b n other in
          let got : slice_get (put_member xs n (k, c)) b ≡ slice_get xs b = get-put_member_other xs n b (k, c) (omega arith) ne in
          rw (m, ends) (got ∙ lists b (omega arith))

-- How many batches there are then, and what they are: the cell is in the batch that has room for the
-- key, or in none.
batches_after : (rules : Rules) (a : Atom) (before : List Atom) (g : Begun) → AllAnswered rules before → IsFresh rules before g → IsBeginning a before g
    → (xs : List Batch) → length xs ≡ begun before → Lists xs before
    → (o : Option ℕ) → g.batch ≡ o → (length (put_in xs o (g.key, g.cell)) ≡ begun (a ∷ before)) × Lists (put_in xs o (g.key, g.cell)) (a ∷ before)
batches_after rules a before g legal fresh is xs count lists None o_is = (
  rw (is.begins_it, o_is) count,
  λ b below. let low : b < begun before = rw (is.begins_it, o_is) at below in rw (is.ends_none b, is.begins_it, o_is) (lists b low),
)
batches_after rules a before g legal fresh is xs count lists (Some n) o_is = by (is_named before n) refl
  where
    low : n ≤ begun before
    low = let r = fresh.batch_is n o_is in let l = room-le rules before g.key in omega arith

    by : (t : Bool) → is_named before n ≡ t → (length (put_member xs n (g.key, g.cell)) ≡ begun (a ∷ before))
        × Lists (put_member xs n (g.key, g.cell)) (a ∷ before)
    by true t_is =
        let open_one : n < begun before = ltb-true n (begun before) (sym (named rules before legal n) ∙ t_is) in (
          rw (is.begins_it, o_is, t_is) (length-put_member xs n (g.key, g.cell) (omega arith) ∙ count),
          λ b below. let under : b < begun before = rw (is.begins_it, o_is, t_is) at below in
              put_open rules a before legal xs count lists g.key g.cell n b (members (a ∷ before) b) (end_of (a ∷ before) b) open_one
              (rw (is.begins_it, o_is) refl) (is.ends_none b) under,
        )
    by false t_is =
        let next : n ≡ begun before = let h = ltb-false n (begun before) (sym (named rules before legal n) ∙ t_is) in let l = low in omega arith in (
          rw (is.begins_it, o_is, t_is) (length-put_member_new xs n (g.key, g.cell) (omega arith) ∙ ap (λ m. m + 1) count),
          λ b below. let under : b < begun before + 1 = rw (is.begins_it, o_is, t_is) at below in
              put_new rules a before legal xs count lists g.key g.cell n b (members (a ∷ before) b) (end_of (a ∷ before) b) next t_is
              (rw (is.begins_it, o_is) refl) (is.ends_none b) under,
        )

-- The book after a cell was begun stands for the history with the atom that began it.
pub stands_begun : (old new : BatchBook) (a : Atom) (before : List Atom) (g : Begun) → StandsFor old before → IsAnswered old.rules before a
    → IsBeginning a before g → Begins old g.key g.batch new → StandsFor new (a ∷ before)
stands_begun old new a before g stands answered is put = record {
  answered = let P : Rules → Type 0 = λ r. AllAnswered r (a ∷ before) in subst P (sym put.rules) (answered, stands.answered);
  memo = λ q. put.memo q ∙ (rw (next, stands.memo q) (sym (held-begun a before q g is.begins_it (is.keeps q))));
  cells = put.cells ∙ (rw (stands.cells, is.begins_it) refl);
  sent = put.sent ∙ (stands.sent ∙ sym is.sends_none);
  count = rw (put.batches, next) all.0;
  batches = λ b below. rw (put.batches, next) (all.1 b below);
}
  where
    fresh : IsFresh old.rules before g
    fresh = fresh_cell old.rules before a g answered is.begins_it

    next : old.cells ≡ g.cell
    next = stands.cells ∙ sym fresh.cell_is

    all : (length (put_in old.batches g.batch (g.key, g.cell)) ≡ begun (a ∷ before)) × Lists (put_in old.batches g.batch (g.key, g.cell)) (a ∷ before)
    all = batches_after old.rules a before g stands.answered fresh is old.batches stands.count stands.batches g.batch refl
