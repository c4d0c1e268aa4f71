-- A member that was put into the newest batch of its table, or into the next one.
use Rattle.std.proofs.Common.{◌≡◌, ◌∙◌, sym, ap, ℕ, ◌+◌, ◌<◌, ◌≤◌, cond, List, length, map, max, take, Option, Some, slice_get, arith}
use Rattle.std.proofs.lemmas.List.{length-map, length-take}
use Rattle.dl_values.specs.Key.{Key}
use Rattle.dl_desk.specs.History.{has_member}
use Rattle.dl_desk.specs.Inside.StoredBatch.{StoredBatch}
use Rattle.dl_desk.specs.BatchBook.{Batch, BatchBook}
use Rattle.dl_desk.specs.Inside.Preparation.{prepared_batch, shown_batch, members_of, book_room}
use Rattle.dl_desk.specs.Inside.Marks.{IsStored, MakesRoom, IsAdded}
use Rattle.dl_desk.specs.declared.table_book.Newest.{Newest}
use Rattle.dl_desk.specs.declared.table_book.Standing.{Standing}
use Rattle.dl_desk.specs.Inside.TableBook.{TableBook, told, newest_at, both, AreTables, Renews, IsNewest, open_for, IsOf}
use Rattle.dl_desk.proofs.Tails.{map-set_unseen}
use Rattle.dl_desk.proofs.FieldMarks.{touched_put, touched_grown}
use Rattle.dl_desk.proofs.TwoBooks.{take-grown, members-taken, length-begun, low_choice, put_batches}
use Rattle.dl_desk.proofs.TableLemmas.{ArePut, touching, told_now, tables_told, tables_put, tables_begun, table_room, newest_low, newest_of, open_low, open_is}
use Rattle.dl_desk.proofs.TableLemmas.{chosen}

-- What a book of tables stands beside: batches that are stored rightly, of which no more are shown than are prepared.
pub record StandsBeside (s : Standing) (xs : List StoredBatch) (t : TableBook) : Type 0 where
  pub stored : IsStored s.prepared s.limits.max_cells (map prepared_batch xs)
  pub later : s.shown.begun ≤ s.prepared.begun
  pub fits : AreTables s.limits.max_batch (both s.shown.begun s.prepared.begun xs) t

module _ {s : Standing} {xs : List StoredBatch} {t : TableBook} (b : StandsBeside s xs t) where
  begun_is : length (take s.prepared.begun (map prepared_batch xs)) ≡ s.prepared.begun
  begun_is = length-begun s.prepared s.limits.max_cells (map prepared_batch xs) b.stored

  pub within : s.prepared.begun ≤ length xs
  within = rw length-map at b.stored.all_stored

  -- also once a table is told of
  pub beside_told : (table : List ℕ) (e : Newest) (new : TableBook) → Renews t table e new → IsNewest s.limits.max_batch s.prepared.begun t table e
      → StandsBeside s xs new
  beside_told table e new renews is = record {
    stored = b.stored;
    later = b.later;
    fits = tables_told s.limits.max_batch s.prepared.begun (both s.shown.begun s.prepared.begun xs) t new table e b.fits renews is
        (rw length-take (let l = b.later in omega arith)) (rw begun_is (omega arith));
  }

  -- also once room was made for a batch
  pub beside_grown : (ys : List StoredBatch) → MakesRoom xs ys → AreTables s.limits.max_batch (both s.shown.begun s.prepared.begun ys) t
  beside_grown ys room =
      let inside = within in
      let later = b.later in
      rw (take-grown shown_batch s.shown.begun xs ys (omega arith) room, take-grown prepared_batch s.prepared.begun xs ys inside room) (record {
        tells_shown = b.fits.tells_shown;
        tells_prepared = b.fits.tells_prepared;
        limits = b.fits.limits;
        touched = touched_grown t.touched xs ys b.fits.touched room;
      })

  module _ (table : List ℕ) (e : Newest) (known : told t table ≡ Some e) where
    low : (n : ℕ) → newest_at (take s.prepared.begun (map prepared_batch xs)) table (Some e) ≡ Some n
        → n < length (take s.prepared.begun (map prepared_batch xs))
    low = newest_low (take s.prepared.begun (map prepared_batch xs)) t table e b.fits.tells_prepared known

    -- the newest batch of the table is one of those that are prepared
    pub last_low : (o : Option ℕ) → o ≡ newest_at (take s.prepared.begun (map prepared_batch xs)) table (Some e)
        → (n : ℕ) → o ≡ Some n → n < s.prepared.begun
    last_low o is n found = let l = low n (sym is ∙ found) in rw begun_is at l

    pub room_low : (room : ℕ) → room ≡ open_for s.prepared.sent (take s.prepared.begun (map prepared_batch xs)) table e → room ≤ s.prepared.begun
    room_low room is =
        let l = open_low s.prepared.sent e.most (take s.prepared.begun (map prepared_batch xs))
        (newest_at (take s.prepared.begun (map prepared_batch xs)) table (Some e)) low in
        rw is (rw begun_is at l)

-- What is known once it is told of the key's table.
pub record IsTold (s : Standing) (k : Key) (xs : List StoredBatch) (t : TableBook) (e : Newest) : Type 0 where
  pub beside : StandsBeside s xs t
  pub known : told t k.table ≡ Some e

pub is_told : (s : Standing) (k : Key) (xs : List StoredBatch) (old new : TableBook) (e : Newest) (table : List ℕ) (most : ℕ) → StandsBeside s xs old
    → table ≡ k.table → most ≡ s.limits.max_batch → Renews old table e new → IsNewest most s.prepared.begun old table e → IsTold s k xs new e
is_told s k xs old new e table most beside text limit renews newest =
    let renewed : Renews old k.table e new = rw text at renews in
    let is : IsNewest s.limits.max_batch s.prepared.begun old k.table e = rw (text, limit) at newest in
    record { beside = beside_told beside k.table e new renewed is; known = told_now k.table e old new renewed }

-- What is known once a member of the key was put into a batch of the stored ones.
pub record IsJoined (s : Standing) (k : Key) (cell : ℕ) (xs ys : List StoredBatch) (t : TableBook) (e : Newest) (room n : ℕ) : Type 0 where
  pub is_told : IsTold s k xs t e
  pub room_is : room ≡ open_for s.prepared.sent (take s.prepared.begun (map prepared_batch xs)) k.table e
  pub number : n ≡ cond (has_member (members_of (slice_get (map prepared_batch xs) room)) k) s.prepared.begun room
  pub added : IsAdded xs n (k, cell) ys

module _ {s : Standing} {k : Key} {cell : ℕ} {xs ys : List StoredBatch} {t : TableBook} {e : Newest} {room n : ℕ}
    (j : IsJoined s k cell xs ys t e room n) where
  room_is_low : room ≤ s.prepared.begun
  room_is_low = room_low j.is_told.beside k.table e j.is_told.known room j.room_is

  pub joined_next : n ≤ s.prepared.begun
  joined_next = low_choice (has_member (members_of (slice_get (map prepared_batch xs) room)) k) s.prepared.begun room n room_is_low j.number

  -- the batch is the one that has room for the key
  pub joined_room : (book : BatchBook) → IsOf s.limits.max_batch s.prepared.sent (take s.prepared.begun (map prepared_batch xs)) t.limits book
      → n ≡ book_room book k
  joined_room book is =
      let taken = members-taken s.prepared s.limits.max_cells room (map prepared_batch xs) j.is_told.beside.stored room_is_low in
      let at = table_room s.limits.max_batch s.prepared.sent (take s.prepared.begun (map prepared_batch xs)) t book k e room is
      j.is_told.beside.fits.tells_prepared j.is_told.beside.fits.limits j.is_told.known j.room_is in
      j.number ∙ rw (taken, begun_is j.is_told.beside) at at

  put : ArePut (both s.shown.begun s.prepared.begun xs) (both s.shown.begun (max s.prepared.begun (n + 1)) ys) t n (k, cell)
  put = record {
    touched = touched_put t.touched xs ys n (k, cell) j.is_told.beside.fits.touched j.added;
    shown =
        let inside = within j.is_told.beside in
        let later = j.is_told.beside.later in
        rw (j.added.is, map-set_unseen shown_batch j.added.grown n j.added.before j.added.then j.added.at j.added.shown)
        (take-grown shown_batch s.shown.begun xs j.added.grown (omega arith) j.added.grows);
    prepared = put_batches s.prepared s.limits.max_cells n (k, cell) xs ys j.is_told.beside.stored j.added joined_next;
  }

  -- where it was begun before, what is told of tables stays
  pub joined_old : (n ≡ s.prepared.begun → ⊥)
      → AreTables s.limits.max_batch (both s.shown.begun (max s.prepared.begun (n + 1)) ys) (touching t n)
  joined_old other =
      let under : n < length (take s.prepared.begun (map prepared_batch xs)) = let e = begun_is j.is_told.beside in
      let m = joined_next in omega (arith, other) in
      let is : n ≡ room = chosen (has_member (members_of (slice_get (map prepared_batch xs) room)) k) s.prepared.begun room n j.number other in
      let at = open_is s.prepared.sent e.most n (take s.prepared.begun (map prepared_batch xs))
      (newest_at (take s.prepared.begun (map prepared_batch xs)) k.table (Some e)) (is ∙ j.room_is) under in
      tables_put s.limits.max_batch (both s.shown.begun s.prepared.begun xs) (both s.shown.begun (max s.prepared.begun (n + 1)) ys) t n (k, cell) k.table
      j.is_told.beside.fits put under
      (newest_of (take s.prepared.begun (map prepared_batch xs)) t k.table e j.is_told.beside.fits.tells_prepared j.is_told.known n at)

  -- where it was begun now, it is told of its table
  pub joined_new : (f : Newest) (new : TableBook) → n ≡ s.prepared.begun → f.latest ≡ n → f.most ≡ e.most
      → f.before ≡ newest_at (take s.shown.begun (map shown_batch ys)) k.table (Some e) → Renews (touching t n) k.table f new
      → AreTables s.limits.max_batch (both s.shown.begun (max s.prepared.begun (n + 1)) ys) new
  joined_new f new next latest most before renews =
      tables_begun s.limits.max_batch (both s.shown.begun s.prepared.begun xs) (both s.shown.begun (max s.prepared.begun (n + 1)) ys) t new n (k, cell) f
      j.is_told.beside.fits put (next ∙ sym (begun_is j.is_told.beside))
      (rw length-take (let l = j.is_told.beside.later in omega arith))
      latest (most ∙ j.is_told.beside.fits.limits k.table e j.is_told.known)
      (before ∙ (ap (λ (zs : List Batch). newest_at zs k.table (Some e)) put.shown
      ∙ ap (newest_at (take s.shown.begun (map shown_batch xs)) k.table) (sym j.is_told.known)))
      renews
