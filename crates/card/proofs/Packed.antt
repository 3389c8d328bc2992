-- Laws of packed bits: to pack bits into bytes and to unpack them again adds the zero bits that fill the last byte, and two strings of
-- bytes with the same bits are equal.
--   Bytes ys   every element is below 256
use mathlib.Core.Path.{◌≡◌, refl, sym, ap, ap₂, ◌∙◌}
use mathlib.Core.List.{List, [], ◌∷◌, ◌++◌}
use Prim.Native.Nat.{ℕ, zero, suc, ◌+◌, ◌-◌, ◌*◌, ◌/◌, ◌≤◌, ◌<◌}
use native.Mathlib.Nat.{mul_comm, le_of_suc-le-suc}
use native.Mathlib.Omega.{arith}
use lib.Dec.{lit<, lit≤}
use lib.ListN.{length, get_or, take, drop, replicate, length-drop, replicate-append-replicate}
use lib.Seq.{take_at, drop_at}
use Rattle.algebra.specs.Lists.{All}
use Rattle.array.specs.Words.{Words}
use Rattle.array.proofs.Words.{words_length, append_words, take_words, drop_words, zeros_words}
use Rattle.card.specs.Bits.{bits, number, bytes, packed, unpacked}
use Rattle.card.proofs.Bits.{bits-length, bits-number, number-bits, number_below}
use Rattle.card.specs.Card.{all_bits}
use Rattle.card.proofs.Fields.{all_bits_words}
use Rattle.card.proofs.Zeros.{take-replicate}

abbrev pub Bytes : List ℕ → Type 0
Bytes ys = All (λ y. y < 256) ys

pub byte_below : (ys : List ℕ) (k : ℕ) → Bytes ys → k < length ys → get_or ys k 0 < 256
byte_below [] k b h = absurd (omega arith)
byte_below (y ∷ ys) zero b h = b.0
byte_below (y ∷ ys) (suc k) b h = byte_below ys k b.1 (le_of_suc-le-suc h)

-- bytes are words of eight bits
pub unpacked-all_bits : (ys : List ℕ) → unpacked ys ≡ all_bits 8 ys
unfolding unpacked all_bits
unpacked-all_bits [] = refl
unpacked-all_bits (y ∷ ys) = ap (λ (l : List ℕ). bits 8 y ++ l) (unpacked-all_bits ys)

pub unpacked_words : (ys : List ℕ) → Words 2 (8 * length ys) (unpacked ys)
unpacked_words ys = rw (unpacked-all_bits, mul_comm 8 (length ys)) (all_bits_words 8 ys)

pub unpacked-length : (ys : List ℕ) → length (unpacked ys) ≡ 8 * length ys
unpacked-length ys = words_length (unpacked_words ys)

bytes-length : (k : ℕ) (bs : List ℕ) → length (bytes k bs) ≡ k
unfolding bytes
bytes-length zero bs = refl
bytes-length (suc k) bs = ap suc (bytes-length k (drop 8 bs))

-- the next eight bits, with zeros past the end
next_eight : List ℕ → List ℕ
next_eight bs = take 8 (bs ++ replicate 8 0)

next_eight_words : {m : ℕ} {bs : List ℕ} → Words 2 m bs → Words 2 8 (next_eight bs)
unfolding next_eight
next_eight_words b = take_words (append_words b (zeros_words 8 (lit< tt))) 8 (omega arith)

bytes_below : (k : ℕ) {m : ℕ} {bs : List ℕ} → Words 2 m bs → Bytes (bytes k bs)
unfolding bytes next_eight
bytes_below zero b = tt
bytes_below (suc k) b = (number_below (next_eight_words b), bytes_below k (drop_words b 8))

-- n bits and the others, with zeros past the end
first_and_rest : (n r m : ℕ) (bs : List ℕ) → n ≤ r → length bs ≤ n + m
    → take n (bs ++ replicate r 0) ++ (drop n bs ++ replicate (m - length (drop n bs)) 0) ≡ bs ++ replicate (n + m - length bs) 0
first_and_rest zero r m bs l h = let e : m - length bs ≡ 0 + m - length bs = omega arith in ap (λ k. bs ++ replicate k 0) e
first_and_rest (suc n) r m [] l h =
    let e : suc n + (m - 0) ≡ suc n + m - 0 = omega arith in
    ap (λ (t : List ℕ). t ++ replicate (m - 0) 0) (take-replicate (suc n) r 0 l) ∙ replicate-append-replicate {A = ℕ} (suc n) (m - 0) 0 ∙ ap (λ k. replicate k 0) e
first_and_rest (suc n) r m (b ∷ bs) l h =
    let e : n + m - length bs ≡ suc n + m - suc (length bs) = omega arith in
    ap (λ (t : List ℕ). b ∷ t) (first_and_rest n r m bs (omega arith) (omega arith) ∙ ap (λ k. bs ++ replicate k 0) e)

unpacked-bytes : (k : ℕ) {m : ℕ} (bs : List ℕ) → Words 2 m bs → length bs ≤ 8 * k → unpacked (bytes k bs) ≡ bs ++ replicate (8 * k - length bs) 0
unfolding unpacked bytes next_eight
unpacked-bytes zero [] b h = refl
unpacked-bytes zero (x ∷ bs) b h = absurd (omega arith)
unpacked-bytes (suc k) bs b h =
    ap₂ ◌++◌
    (bits-number (next_eight_words b))
    (unpacked-bytes k (drop 8 bs) (drop_words b 8) (omega (arith, length-drop 8 bs)))
    ∙ first_and_rest 8 8 (8 * k) bs (lit≤ tt) (omega arith)
    ∙ let e : 8 + 8 * k - length bs ≡ 8 * suc k - length bs = omega arith in ap (λ m. bs ++ replicate m 0) e

-- two strings of bytes with the same bits are equal
pub unpacked_injective : (xs ys : List ℕ) → Bytes xs → Bytes ys → unpacked xs ≡ unpacked ys → xs ≡ ys
unfolding unpacked
unpacked_injective [] [] b c e = refl
unpacked_injective [] (y ∷ ys) b c e = absurd (omega (arith, ap length e, unpacked-length (y ∷ ys)))
unpacked_injective (x ∷ xs) [] b c e = absurd (omega (arith, ap length e, unpacked-length (x ∷ xs)))
unpacked_injective (x ∷ xs) (y ∷ ys) b c e =
    let first : bits 8 x ≡ bits 8 y =
    sym (take_at (bits 8 x) (unpacked xs) 8 (bits-length 8 x)) ∙ ap (take 8) e ∙ take_at (bits 8 y) (unpacked ys) 8 (bits-length 8 y) in
    let others : unpacked xs ≡ unpacked ys =
    sym (drop_at (bits 8 x) (unpacked xs) 8 (bits-length 8 x)) ∙ ap (drop 8) e ∙ drop_at (bits 8 y) (unpacked ys) 8 (bits-length 8 y) in
    ap₂ (λ (a : ℕ) (r : List ℕ). a ∷ r) (sym (number-bits 8 x b.0) ∙ ap (λ bs. number bs) first ∙ number-bits 8 y c.0) (unpacked_injective xs ys b.1 c.1 others)

pub packed-length : (bs : List ℕ) → length (packed bs) ≡ (length bs + 7) / 8
unfolding packed
packed-length bs = bytes-length ((length bs + 7) / 8) bs

pub packed_below : {m : ℕ} (bs : List ℕ) → Words 2 m bs → Bytes (packed bs)
unfolding packed
packed_below bs b = bytes_below ((length bs + 7) / 8) b

-- fewer than eight zeros fill the last byte
pub unpacked-packed : {m : ℕ} (bs : List ℕ) → Words 2 m bs → unpacked (packed bs) ≡ bs ++ replicate (8 * ((length bs + 7) / 8) - length bs) 0
unfolding packed
unpacked-packed bs b = unpacked-bytes ((length bs + 7) / 8) bs b (omega arith)
