-- The jobs of a dispatch.
use Rattle.std.proofs.Common.{◌≡◌, ℕ, zero, suc, ◌+◌, ◌-◌, ◌<◌, ◌≤◌, List, [], ◌∷◌, ◌++◌, length, map, take, Some, slice_get, refl, arith}
use Rattle.std.proofs.lemmas.Option.{slice_get-map}
use Rattle.dl_values.specs.Key.{Key}
use Rattle.dl_desk.specs.History.{Atom, begun, sent, members, jobs_from, jobs}
use Rattle.dl_desk.specs.Inside.StoredBatch.{StoredBatch}
use Rattle.dl_desk.specs.BatchBook.{Batch, BatchBook, StandsFor}
use Rattle.dl_desk.specs.Inside.Preparation.{members_at, book_jobs}
use Rattle.dl_values.specs.declared.job.Job.{Job}
use Rattle.dl_desk.proofs.Facts.{sent-le}
use Rattle.dl_desk.proofs.OpenBatch.{members_at-are}

jobs_of : ℕ → List (Key × ℕ) → Job
jobs_of b ms = record { batch = b; keys = map (λ m. m.0) ms }

book_jobs-from : (book : BatchBook) (history : List Atom) → StandsFor book history → (b n : ℕ) → b + n ≤ begun history
    → book_jobs book b n ≡ jobs_from history b n
unfolding jobs_of
book_jobs-from book history stands b zero fits = refl
book_jobs-from book history stands b (suc n) fits =
    let rest = book_jobs-from book history stands b n (omega arith) in
    let at : members_at book (b + n) ≡ members history (b + n) = members_at-are book history stands (b + n) (omega arith) in
    rw (rest, at) refl

-- the jobs of the batches that aren't sent are the reply to a dispatch
pub book_jobs-are : (book : BatchBook) (history : List Atom) → StandsFor book history
    → book_jobs book book.sent (length book.batches - book.sent) ≡ jobs history
book_jobs-are book history stands =
    rw (stands.sent, stands.count) (book_jobs-from book history stands (sent history) (begun history - sent history) (let s = sent-le history in omega arith))

-- one more job
pub book_jobs-more : (book : BatchBook) (from n : ℕ) (done : List Job) (keys : List Key) → from ≤ n → done ≡ book_jobs book from (n - from)
    → keys ≡ map (λ m. m.0) (members_at book n)
    → done ++ record { batch = n; keys = keys } ∷ [] ≡ book_jobs book from (n + 1 - from)
book_jobs-more book from n done keys low is keys_are =
    let count : n + 1 - from ≡ suc (n - from) = omega arith in
    let place : from + (n - from) ≡ n = omega arith in
    rw (count, place, is, keys_are) refl

pub get-take : {A : Type 0} (xs : List A) (k n : ℕ) → n < k → slice_get (take k xs) n ≡ slice_get xs n
get-take xs zero n low = absurd (omega arith)
get-take [] (suc k) n low = refl
get-take (x ∷ xs) (suc k) zero low = refl
get-take (x ∷ xs) (suc k) (suc n) low = get-take xs k n (omega arith)

-- a begun batch, as the book has it
pub members_at-stored : (f : StoredBatch → Batch) (book : BatchBook) (begun n : ℕ) (xs : List StoredBatch) (x : StoredBatch)
    → book.batches ≡ take begun (map f xs)
    → n < begun → slice_get xs n ≡ Some x → members_at book n ≡ (f x).members
members_at-stored f book begun n xs x is low at = rw (is, get-take (map f xs) begun n low, slice_get-map f xs n, at) refl
