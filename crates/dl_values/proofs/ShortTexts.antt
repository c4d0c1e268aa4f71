-- Short texts in their blocks, and the words that a hash reads of them.
use Rattle.std.proofs.Common.{◌≡◌, ◌∙◌, sym, ap, ℕ, zero, suc, ◌+◌, ◌-◌, ◌*◌, ◌/◌, ◌<◌, ◌≤◌, false, true, List, [], ◌∷◌, ◌++◌, length, take, drop, set, refl, arith}
use Rattle.std.proofs.Common.{append_assoc, length-append, length-take, length-drop, take_at, drop_at, take-add}
use Rattle.std.specs.Prelude.{Bool, ◌&&◌, get_or, nat_eq, replicate, nat_lt}
use Rattle.std.specs.Int.{w64, from_le_bytes, to_le_bytes}
use Rattle.std.proofs.Math.Bool.{and_assoc}
use Rattle.std.proofs.lemmas.Nat.{le_bytes_8}
use Rattle.std.specs.Str.{IsUtf8, bytes_eq}
use Rattle.std.proofs.lemmas.Bool.{le-ltb, lt-ltb}
use Rattle.std.proofs.lemmas.Bool.Decides.{same_from_decides, Decides-eqb}
use Rattle.std.proofs.lemmas.Slice.Eq.{bytes_eq-Decides}
use Rattle.std.proofs.lemmas.List.{set_at, length-replicate, take-replicate, drop-replicate, drop-drop, take_all}
use borrow.Rule.Slice.PartMut.{put_mid}
use Rattle.dl_values.specs.KeyTexts.{short_bytes}
use Rattle.dl_values.specs.Inside.HashedText.{filled, word_end}
use Rattle.dl_values.specs.Inside.ShortText.{block_bytes, IsShort}

-- ---- a block that is filled piece by piece

-- a piece is put right behind a text, where there are zeros
put_behind : (text piece : List ℕ) (n a k : ℕ) → length text ≡ a → put_mid a k (text ++ replicate n 0) piece ≡ (text ++ piece) ++ replicate (n - k) 0
put_behind text piece n a k long =
    ap (λ (front : List ℕ). front ++ (piece ++ drop k (drop a (text ++ replicate n 0)))) (take_at text (replicate n 0) a long)
    ∙ (ap (λ (rest : List ℕ). text ++ (piece ++ drop k rest)) (drop_at text (replicate n 0) a long)
    ∙ (ap (λ (rest : List ℕ). text ++ (piece ++ rest)) (drop-replicate k n 0) ∙ sym (append_assoc text piece (replicate (n - k) 0))))

-- and a byte
set_behind : (text : List ℕ) (n a byte : ℕ) → length text ≡ a → 1 ≤ n → set (text ++ replicate n 0) a byte ≡ text ++ (byte ∷ replicate (n - 1) 0)
set_behind text zero a byte long some = absurd (omega arith)
set_behind text (suc n) a byte long some = let e : suc n - 1 ≡ n = omega arith in rw e (set_at text 0 (replicate n 0) byte a long)

pub block_is : (mark : ℕ) (first second : List ℕ) (seam end : ℕ) → seam ≡ 1 + length first → end ≡ seam + length second → end ≤ short_bytes
    → set (put_mid seam (end - seam) (put_mid 1 (seam - 1) (set (replicate block_bytes 0) 0 mark) first) second) end 255
    ≡ filled block_bytes (mark ∷ (first ++ second))
block_is mark first second seam end first_to second_to fits =
    ap (λ (bytes : List ℕ). set (put_mid seam (end - seam) bytes second) end 255) (put_behind (mark ∷ []) first 39 1 (seam - 1) refl)
    ∙ (ap (λ (bytes : List ℕ). set bytes end 255) (put_behind (mark ∷ first) second (39 - (seam - 1)) seam (end - seam) (omega arith))
    ∙ (set_behind (mark ∷ (first ++ second)) (39 - (seam - 1) - (end - seam)) end 255 (omega (arith, length-append first second)) (omega arith)
    ∙ ap (λ (n : ℕ). (mark ∷ (first ++ second)) ++ (255 ∷ replicate n 0)) rest))
  where
    rest : 39 - (seam - 1) - (end - seam) - 1 ≡ block_bytes - 1 - length (mark ∷ (first ++ second))
    rest = omega (arith, length-append first second)

-- ---- a text in its block

pub text_is : (bytes : List ℕ) (len size : ℕ) (text : List ℕ) → bytes ≡ filled size text → len ≡ length text → take len bytes ≡ text
text_is bytes len size text block long =
    ap (take len) block ∙ take_at text (255 ∷ replicate (size - 1 - length text) 0) len (sym long)

pub is_short : (bytes : List ℕ) (len : ℕ) (text : List ℕ) → bytes ≡ filled block_bytes text → len ≡ length text → len ≤ short_bytes → IsUtf8 text → IsShort bytes len
is_short bytes len text block long short utf8 =
    let front : take len bytes ≡ text = text_is bytes len block_bytes text block long in
    record { text = ∣ rw front utf8 ∣₁; short = short; block = rw front block }

-- ---- the words of a block

-- the front of a longer block is a shorter one
take-filled : (size n : ℕ) (text : List ℕ) → length text < n → n ≤ size → take n (filled size text) ≡ filled n text
take-filled size n text low fits =
    let m : ℕ = n - 1 - length text in
    let rest : List ℕ = replicate (size - 1 - length text) 0 in
    let is : n ≡ length text + suc m = omega arith in
    ap (λ (k : ℕ). take k (filled size text)) is
    ∙ (take-add (length text) (suc m) (text ++ (255 ∷ rest))
    ∙ (ap (λ (front : List ℕ). front ++ take (suc m) (drop (length text) (text ++ (255 ∷ rest)))) (take_at text (255 ∷ rest) (length text) refl)
    ∙ (ap (λ (back : List ℕ). text ++ take (suc m) back) (drop_at text (255 ∷ rest) (length text) refl)
    ∙ ap (λ (zeros : List ℕ). text ++ (255 ∷ zeros)) (take-replicate m (size - 1 - length text) 0 (omega arith)))))

-- a text that is short has the length that is kept of it
length_is : (bytes : List ℕ) (len : ℕ) → IsShort bytes len → length (take len bytes) ≡ len
length_is bytes len is =
    let front : ℕ = length (take len bytes) in
    let block = ap length is.block in
    let long = length-append (take len bytes) (255 ∷ replicate (block_bytes - 1 - front) 0) in
    let zeros = length-replicate {A = ℕ} (block_bytes - 1 - front) 0 in
    let least = length-take len bytes in
    let short = is.short in
    omega arith

pub words_are : (bytes : List ℕ) (len : ℕ) → IsShort bytes len
    → take (8 * (len / 8) + 8) bytes ≡ filled (word_end (length (take len bytes))) (take len bytes)
words_are bytes len is =
    let long = length_is bytes len is in
    let short = is.short in
    ap (take (8 * (len / 8) + 8)) is.block
    ∙ (take-filled block_bytes (8 * (len / 8) + 8) (take len bytes) (omega arith) (omega arith)
    ∙ ap (λ (n : ℕ). filled (8 * (n / 8) + 8) (take len bytes)) (sym long))

-- ---- blocks that are equal

-- eight bytes are compared as numbers
pub same_word : (a b : List ℕ) → length a ≡ 8 → length b ≡ 8 → ((i : ℕ) → get_or a i 0 < 256) → ((i : ℕ) → get_or b i 0 < 256)
    → nat_eq (from_le_bytes w64 a) (from_le_bytes w64 b) ≡ bytes_eq a b
same_word a b first second first_bytes second_bytes =
    let numbers = Decides-eqb (from_le_bytes w64 a) (from_le_bytes w64 b) in
    same_from_decides (nat_eq (from_le_bytes w64 a) (from_le_bytes w64 b)) (bytes_eq a b) (
      λ e. sym (le_bytes_8 a _ first first_bytes refl) ∙ (ap (to_le_bytes w64) (numbers.0 e) ∙ le_bytes_8 b _ second second_bytes refl),
      λ e. numbers.1 (ap (from_le_bytes w64) e),
    )
    (bytes_eq-Decides a b)

-- lists are equal if their fronts are, and what follows
cut : (n : ℕ) (a b : List ℕ) → bytes_eq a b ≡ (bytes_eq (take n a) (take n b) && bytes_eq (drop n a) (drop n b))
cut zero a b = refl
cut (suc n) [] [] = refl
cut (suc n) [] (y ∷ ys) = refl
cut (suc n) (x ∷ xs) [] = refl
cut (suc n) (x ∷ xs) (y ∷ ys) = ap (λ (rest : Bool). nat_eq x y && rest) (cut n xs ys)
    ∙ sym (and_assoc (nat_eq x y) (bytes_eq (take n xs) (take n ys)) (bytes_eq (drop n xs) (drop n ys)))

-- the same from a place on
cut_at : (at : ℕ) (a b : List ℕ) → bytes_eq (drop at a) (drop at b)
    ≡ (bytes_eq (take 8 (drop at a)) (take 8 (drop at b)) && bytes_eq (drop (at + 8) a) (drop (at + 8) b))
cut_at at a b = cut 8 (drop at a) (drop at b)
    ∙ ap (λ (rest : Bool). bytes_eq (take 8 (drop at a)) (take 8 (drop at b)) && rest) (λ i. bytes_eq (drop-drop 8 at a i) (drop-drop 8 at b i))

-- the last word of a block is all that is left of it
last_word : (a : List ℕ) → length a ≡ block_bytes → drop 32 a ≡ take 8 (drop 32 a)
last_word a long = sym (take_all 8 (drop 32 a) (omega (arith, length-drop 32 a)))

-- blocks are equal if their five words are
pub same_words : (a b : List ℕ) → length a ≡ block_bytes → length b ≡ block_bytes
    → (bytes_eq (take 8 a) (take 8 b) && bytes_eq (take 8 (drop 8 a)) (take 8 (drop 8 b)) && bytes_eq (take 8 (drop 16 a)) (take 8 (drop 16 b))
    && bytes_eq (take 8 (drop 24 a)) (take 8 (drop 24 b)) && bytes_eq (take 8 (drop 32 a)) (take 8 (drop 32 b))) ≡ bytes_eq a b
same_words a b first second = rw (← last_word a first, ← last_word b second, cut 8 a b, cut_at 8 a b, cut_at 16 a b, cut_at 24 a b) (simp and_assoc)

-- among zeros there is no byte that stands behind a text
no_end : (n : ℕ) (text rest : List ℕ) → replicate n 0 ≡ text ++ (255 ∷ rest) → ⊥
no_end zero [] rest e = cc
no_end zero (x ∷ xs) rest e = cc
no_end (suc n) [] rest e = cc
no_end (suc n) (x ∷ xs) rest e = no_end n xs rest (cc)

-- so a block tells its text, which ends before the last byte that isn't zero
text_told : (first second : List ℕ) (m n : ℕ) → first ++ (255 ∷ replicate m 0) ≡ second ++ (255 ∷ replicate n 0) → first ≡ second
text_told [] [] m n e = refl
text_told [] (y ∷ ys) m n e = absurd (no_end m ys (replicate n 0) (cc))
text_told (x ∷ xs) [] m n e = absurd (no_end n xs (replicate m 0) (cc))
text_told (x ∷ xs) (y ∷ ys) m n e = let rest : xs ≡ ys = text_told xs ys m n (cc) in cc

-- two blocks are equal exactly if their texts are
pub same_blocks : (a b : List ℕ) (m n : ℕ) → IsShort a m → IsShort b n → bytes_eq a b ≡ bytes_eq (take m a) (take n b)
same_blocks a b m n first second =
    let blocks = bytes_eq-Decides a b in
    same_from_decides (bytes_eq a b) (bytes_eq (take m a) (take n b)) (
      λ e. text_told (take m a) (take n b) _ _ (sym first.block ∙ (blocks.0 e ∙ second.block)),
      λ e. blocks.1 (first.block ∙ (ap (filled block_bytes) e ∙ sym second.block)),
    )
    (bytes_eq-Decides (take m a) (take n b))

-- ---- which texts are short

module _ (mark : ℕ) (first second : List ℕ) where
  pub stays_short : 1 + length first + length second ≤ short_bytes → false ≡ nat_lt short_bytes (length (mark ∷ (first ++ second)))
  stays_short short = sym (le-ltb short_bytes (length (mark ∷ (first ++ second))) (omega (arith, length-append first second)))

  pub stays_long : short_bytes < 1 + length first + length second → true ≡ nat_lt short_bytes (length (mark ∷ (first ++ second)))
  stays_long long = sym (lt-ltb short_bytes (length (mark ∷ (first ++ second))) (omega (arith, length-append first second)))
