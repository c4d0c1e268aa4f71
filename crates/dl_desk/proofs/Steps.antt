-- What each step of a call on one key leaves stands for the history with its atom.
use Rattle.std.proofs.Common.{◌≡◌, ◌∙◌, sym, ℕ, Bool, true, false, ◌||◌, cond, List, ◌∷◌, Option, Some, None, refl}
use Rattle.std.specs.List.{list_any}
use Rattle.std.specs.Map.{lookup}
use Rattle.dl_values.specs.Key.{Key, key_eq}
use Rattle.dl_desk.specs.History.{Atom, Load, Clear, Begun, Latest, later, latest, forgets, cell_kept, held, load_reply}
use Rattle.dl_desk.specs.declared.reply.LoadReply.{LoadReply}
use Rattle.dl_desk.specs.declared.reply.LoadReply.TheVariants.{Hit, Fresh}
use Rattle.dl_desk.specs.BatchBook.{BatchBook, StandsFor}
use Rattle.dl_desk.specs.Inside.Preparation.{book_room, Begins, Puts}
use Rattle.dl_desk.proofs.HeldLemmas.{held-same}
use Rattle.dl_desk.proofs.NewCell.{stands_begun}
use Rattle.dl_desk.proofs.OpenBatch.{book_room-is}

pub fresh_reply : (book : BatchBook) (history : List Atom) (k : Key) → StandsFor book history → lookup (key_eq k) book.memo ≡ None
    → Fresh book.cells (book_room book k) ≡ load_reply book.rules history k
fresh_reply book history k stands none = let h : held history k ≡ None =
    sym (stands.memo k) ∙ none in rw (h, stands.cells, book_room-is book history stands k) refl

begun_load : Key → ℕ → ℕ → Begun
begun_load k c b = record { key = k; cell = c; batch = Some b }

pub stands_fresh : (old new : BatchBook) (history : List Atom) (k : Key) → StandsFor old history → lookup (key_eq k) old.memo ≡ None
    → Begins old k (Some (book_room old k)) new → StandsFor new (Load k (Fresh old.cells (book_room old k)) ∷ history)
unfolding begun_load
stands_fresh old new history k stands none put =
    stands_begun old new (Load k (Fresh old.cells (book_room old k))) history (begun_load k old.cells (book_room old k)) stands
    (fresh_reply old history k stands none)
    (record { begins_it = refl; keeps = λ q batch. refl; sends_none = refl; ends_none = λ b. refl })
    put

hit_reply : (book : BatchBook) (history : List Atom) (k : Key) (cell : ℕ) → StandsFor book history → lookup (key_eq k) book.memo ≡ Some cell
    → Hit cell ≡ load_reply book.rules history k
hit_reply book history k cell stands found = let h : held history k ≡ Some cell = sym (stands.memo k) ∙ found in rw h refl

-- a load that is put has the history's reply
pub put_reply : (old new : BatchBook) (history : List Atom) (k : Key) (reply : LoadReply) → StandsFor old history → Puts old k reply new
    → reply ≡ load_reply old.rules history k
put_reply old new history k (Hit cell) stands put = hit_reply old history k cell stands put.0
put_reply old new history k (Fresh cell batch) stands put = rw (put.1, put.2) (fresh_reply old history k stands put.0)

-- and what it leaves stands for the history with it
pub put_stands : (old new : BatchBook) (history : List Atom) (k : Key) (reply : LoadReply) → StandsFor old history → Puts old k reply new
    → StandsFor new (Load k reply ∷ history)
put_stands old new history k (Hit cell) stands put = rw put.1 (record {
  answered = (hit_reply old history k cell stands put.0, stands.answered);
  memo = λ q. stands.memo q ∙ sym (held-same (Load k (Hit cell)) history q refl (λ batch. refl));
  cells = stands.cells;
  sent = stands.sent;
  count = stands.count;
  batches = stands.batches;
})
put_stands old new history k (Fresh cell batch) stands put = rw (put.1, put.2) (stands_fresh old new history k stands put.0 (rw put.2 at put.3))

removed_kept : (k : Key) (l : Latest) (a : Atom) (gone same : Bool) → cond (same || gone) None (Some l.cell) ≡ cond same None (cond gone None (Some l.cell))
removed_kept k l a gone true = refl
removed_kept k l a gone false = refl

none_both : (t : Bool) → ◌≡◌ {A = Option ℕ} None (cond t None None)
none_both true = refl
none_both false = refl

-- a clear of a key takes away what is held for it
held-cleared : (history : List Atom) (j k : Key) → held (Clear j ∷ history) k ≡ cond (key_eq j k) None (held history k)
held-cleared history j k = by (latest history k)
  where
    by : (o : Option Latest) → cell_kept k (later (Clear j) o) ≡ cond (key_eq j k) None (cell_kept k o)
    by None = none_both (key_eq j k)
    by (Some l) = removed_kept k l (Clear j) (list_any (forgets k l.batch) l.after) (key_eq j k)

-- a book that forgets a key stands for the history with the clear of it
pub stands_cleared : (old new : BatchBook) (memo : List (Key × ℕ)) (history : List Atom) (k : Key) → new ≡ old → StandsFor old history
    → ((q : Key) → lookup (key_eq q) memo ≡ cond (key_eq k q) None (lookup (key_eq q) old.memo))
    → StandsFor (record new { memo = memo }) (Clear k ∷ history)
stands_cleared old new memo history k same stands cleared = rw same (record {
  answered = (tt, stands.answered);
  memo = λ q. cleared q ∙ (rw (stands.memo q) (sym (held-cleared history k q)));
  cells = stands.cells;
  sent = stands.sent;
  count = stands.count;
  batches = stands.batches;
})
