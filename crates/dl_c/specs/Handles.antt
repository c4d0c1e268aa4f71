-- What a call does to the handle that C keeps.
use Rattle.std.specs.Prelude.{◌≡◌, true, false}
use Rattle.dl_desk.specs.BatchBook.{BatchBook}
use Rattle.dl_c.specs.declared.handle.Handle.{Handle}

-- the book of the desk of a handle, where it is open
abbrev pub book_of : Handle → BatchBook
book_of h = h.held.kept.desk.book

-- The call is made on the desk of an open handle, which stays open: the books before and after it are told.
abbrev pub OnDesk : Handle → Handle → (BatchBook → BatchBook → Type 0) → Type 0
OnDesk old new Tells = old.is_open ≡ true → (new.is_open ≡ true) × Tells (book_of old) (book_of new)

-- The call on a closed handle has its answer, and leaves the handle.
abbrev pub OnClosed : Handle → Handle → Type 0 → Type 0
OnClosed old new Answer = old.is_open ≡ false → (new ≡ old) × Answer
