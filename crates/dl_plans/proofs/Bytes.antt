-- Bytes read and written piece by piece.
use Rattle.std.proofs.Common.{◌≡◌, ℕ, ◌+◌, ◌≤◌, List, [], ◌++◌, length, take, drop, Option, Some, None}
use Rattle.std.proofs.Common.{append_assoc, append-nil, length-append, length-take, refl, sym, ◌∙◌, arith}
use Rattle.std.proofs.Math.Seq.{take-add}
use Rattle.std.proofs.lemmas.List.{take_all, take-append-le}
use Rattle.std.specs.Io.KnownBytes.{Appends, Consumes, IsAtEnd}
use Rattle.std.specs.Option.{IfSome}
use Rattle.dl_plans.specs.Run.{ReadsAtMost}

-- a front of the text, and then a front of the rest
pub wrote_more : (old mid new : Option (List ℕ)) (text rest : List ℕ) (at count : ℕ) → rest ≡ drop at text → Appends old mid (take at text)
    → Appends mid new (take count rest) → Appends old new (take (at + count) text)
wrote_more None mid new text rest at count is before now = tt
wrote_more (Some xs) None new text rest at count is before now = absurd before
wrote_more (Some xs) (Some ys) None text rest at count is before now = absurd now
wrote_more (Some xs) (Some ys) (Some zs) text rest at count is before now =
    now ∙ rw (before, is, take-add at count text) (append_assoc xs (take at text) (take count (drop at text)))

nothing : (count : ℕ) (buffer : List ℕ) → count ≡ 0 → take count buffer ≡ []
nothing count buffer e = rw e refl

-- the reader gave nothing: all its bytes were read
pub read_end : (old mid new : Option (List ℕ)) (items buffer : List ℕ) (most count : ℕ) → length items ≤ most → Consumes old mid items → count ≡ 0
    → Consumes mid new (take count buffer) → IsAtEnd new → IfSome old (λ bytes. items ≡ take most bytes)
read_end None mid new items buffer most count few before e now end = tt
read_end (Some xs) None new items buffer most count few before e now end = absurd before
read_end (Some xs) (Some ys) None items buffer most count few before e now end = absurd now
read_end (Some xs) (Some ys) (Some zs) items buffer most count few before e now end =
    let none_left : ys ≡ [] = now ∙ rw (nothing count buffer e, end) refl in
    let all : xs ≡ items = before ∙ rw none_left (append-nil items) in
    rw all (sym (take_all most items few))

-- as many bytes were read as may be
pub read_full : (old new : Option (List ℕ)) (items : List ℕ) (most : ℕ) → length items ≡ most → Consumes old new items
    → IfSome old (λ bytes. items ≡ take most bytes)
read_full None new items most full before = tt
read_full (Some xs) None items most full before = absurd before
read_full (Some xs) (Some ys) items most full before =
    let within : most ≤ length items = omega arith in
    let few : length items ≤ most = omega arith in
    rw before (rw take-append-le (sym (take_all most items few)))

-- the reader gave the items, and then more
consumed_more : (old mid new : Option (List ℕ)) (items more : List ℕ) → Consumes old mid items → Consumes mid new more → Consumes old new (items ++ more)
consumed_more None mid new items more before now = tt
consumed_more (Some xs) None new items more before now = absurd before
consumed_more (Some xs) (Some ys) None items more before now = absurd now
consumed_more (Some xs) (Some ys) (Some zs) items more before now = before ∙ rw now (sym (append_assoc items more zs))

-- as many bytes were read as there was room for
pub reads_more : (old mid new : Option (List ℕ)) (items buffer : List ℕ) (most count : ℕ) → length items + length buffer ≤ most → Consumes old mid items
    → Consumes mid new (take count buffer) → ReadsAtMost most old new
reads_more old mid new items buffer most count few before now = record {
  lost = items ++ take count buffer;
  few = rw (length-append items (take count buffer)) (omega (arith, length-take {A = ℕ} count buffer));
  consumed = consumed_more old mid new items (take count buffer) before now;
}
