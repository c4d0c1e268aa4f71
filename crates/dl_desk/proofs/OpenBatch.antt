-- The batch that a fresh load goes into, as the book and as the history have it.
use Rattle.std.proofs.Common.{◌≡◌, ◌∙◌, sym, ap, cond, ℕ, zero, suc, ◌<◌, Bool, true, false, not, List, length, Option, Some, None, refl, arith}
use Rattle.dl_values.specs.Key.{Key}
use Rattle.dl_desk.specs.History.{Atom, begun, has_member, members, serves, greatest, is_open, room_in, room}
use Rattle.dl_desk.specs.BatchBook.{BatchBook, StandsFor}
use Rattle.dl_desk.specs.Inside.Preparation.{members_at, has_room_in, is_open_in, room_of, book_room}
use Rattle.dl_desk.proofs.Facts.{greatest-below}

-- the members of a batch are those that the history tells
pub members_at-are : (book : BatchBook) (history : List Atom) → StandsFor book history → (b : ℕ) → b < begun history → members_at book b ≡ members history b
members_at-are book history stands b low = rw (stands.batches b low) refl

pub greatest-same : (f g : ℕ → Bool) (n : ℕ) → ((b : ℕ) → b < n → f b ≡ g b) → greatest f n ≡ greatest g n
greatest-same f g zero same = refl
greatest-same f g (suc n) same = rw (same n (omega arith), greatest-same f g n (λ b low. same b (omega arith))) refl

is_open_in-is : (book : BatchBook) (history : List Atom) → StandsFor book history → (k : Key) (b : ℕ) → b < begun history
    → is_open_in book k b ≡ is_open book.rules history k b
is_open_in-is book history stands k b low = rw (members_at-are book history stands b low, stands.sent) refl

room_of-is : (book : BatchBook) (history : List Atom) → StandsFor book history → (k : Key) (o : Option ℕ) → ((b : ℕ) → o ≡ Some b → b < begun history)
    → room_of book k o ≡ room_in book.rules history k o
room_of-is book history stands k None below = stands.count
room_of-is book history stands k (Some b) below = rw (is_open_in-is book history stands k b (below b refl), stands.count) refl

-- the room that the book has is the history's
pub book_room-is : (book : BatchBook) (history : List Atom) → StandsFor book history → (k : Key) → book_room book k ≡ room book.rules history k
book_room-is book history stands k =
    let f : ℕ → Bool = λ b. serves book.rules k (members_at book b) in
    let g : ℕ → Bool = λ b. serves book.rules k (members history b) in
    let same : greatest f (length book.batches) ≡ greatest g (begun history) =
    rw stands.count (greatest-same f g (begun history) (λ b low. ap (serves book.rules k) (members_at-are book history stands b low))) in
    ap (room_of book k) same ∙ room_of-is book history stands k (greatest g (begun history)) (λ b is. greatest-below g (begun history) b is)

-- ---- a book whose last batch takes one more

either_open : (has : Bool) (next b : ℕ) → cond has next b ≡ cond (not has) b next
either_open true next b = refl
either_open false next b = refl

last_is_open : (book : BatchBook) (k : Key) (n : ℕ) → book.rules.tables ≡ None → has_room_in book n ≡ true
    → cond (has_member (members_at book n) k) (length book.batches) n ≡ room_of book k (greatest (λ b. serves book.rules k (members_at book b)) (suc n))
last_is_open book k n mixes room = rw (mixes, room) (either_open (has_member (members_at book n) k) (length book.batches) n)

-- a key goes there, unless a member has it
pub last_room : (book : BatchBook) (n : ℕ) → book.rules.tables ≡ None → length book.batches ≡ suc n → has_room_in book n ≡ true
    → (k : Key) → cond (has_member (members_at book n) k) (length book.batches) n ≡ book_room book k
last_room book n mixes len room k = last_is_open book k n mixes room
    ∙ ap (λ c. room_of book k (greatest (λ b. serves book.rules k (members_at book b)) c)) (sym len)

-- ---- a book whose last batch takes no more

either_length : (has : Bool) (len n : ℕ) → len ≡ n → cond has len n ≡ len
either_length true len n same = refl
either_length false len n same = sym same

last_is_closed : (book : BatchBook) (k : Key) (n : ℕ) → book.rules.tables ≡ None → ((m : ℕ) → n ≡ suc m → has_room_in book m ≡ false)
    → room_of book k (greatest (λ b. serves book.rules k (members_at book b)) n) ≡ length book.batches
last_is_closed book k zero mixes full = refl
last_is_closed book k (suc m) mixes full = rw (mixes, full m refl) refl

-- where there is no batch, or the last one takes no more, a key goes into the next batch
pub next_room : (book : BatchBook) (n : ℕ) → book.rules.tables ≡ None → length book.batches ≡ n → ((m : ℕ) → n ≡ suc m → has_room_in book m ≡ false)
    → (k : Key) → cond (has_member (members_at book n) k) (length book.batches) n ≡ book_room book k
next_room book n mixes len full k = either_length (has_member (members_at book n) k) (length book.batches) n len
    ∙ sym (last_is_closed book k (length book.batches) mixes (λ m e. full m (sym len ∙ e)))
