-- Laws of fields, the numbers in w bits of a list: what was put together of bits is read back, and the bits of what is read are those
-- that were there.
use mathlib.Core.Path.{◌≡◌, refl, sym, ap, ap₂, subst, ◌∙◌}
use mathlib.Core.List.{List, [], ◌∷◌, ◌++◌, append_assoc}
use Prim.Native.Nat.{ℕ, zero, suc, ◌+◌, ◌*◌, ◌^◌, ◌≤◌, ◌<◌}
use native.Mathlib.Nat.{le_of_suc-le-suc}
use native.Mathlib.Omega.{arith}
use lib.Dec.{lit<}
use lib.ListN.{length, get_or, take, drop, replicate, get_or-append}
use lib.Seq.{take_at, take-add, drop-drop, drop-append-add, get_or-append-add}
use Rattle.array.specs.Words.{Words, none, more}
use Rattle.array.proofs.Words.{words_length, append_words, take_words, drop_words, zeros_words}
use Rattle.card.specs.Bits.{bits, number, number_from}
use Rattle.card.specs.Card.{all_bits, field_at, fields_at}
use Rattle.card.proofs.Bits.{bits_words, bits-length, bits-number, number-bits, number_below, number_from_injective}

pub all_bits_words : (w : ℕ) (words : List ℕ) → Words 2 (length words * w) (all_bits w words)
unfolding all_bits
all_bits_words w [] = let e : 0 ≡ 0 * w = omega arith in subst (λ k. Words 2 k []) e none
all_bits_words w (a ∷ words) =
    let e : w + length words * w ≡ suc (length words) * w = omega arith in
    subst (λ k. Words 2 k (bits w a ++ all_bits w words)) e (append_words (bits_words w a) (all_bits_words w words))

pub all_bits-length : (w : ℕ) (words : List ℕ) → length (all_bits w words) ≡ length words * w
all_bits-length w words = words_length (all_bits_words w words)

-- bit r of word k
pub all_bits_bit : (w : ℕ) (words : List ℕ) (k r : ℕ) → r < w → k < length words → get_or (all_bits w words) (k * w + r) 0 ≡ get_or (bits w (get_or words k 0)) r 0
unfolding all_bits
all_bits_bit w [] k r l h = absurd (omega arith)
all_bits_bit w (a ∷ words) zero r l h =
    let e : 0 * w + r ≡ r = omega arith in
    ap (λ i. get_or (bits w a ++ all_bits w words) i 0) e ∙ get_or-append (bits w a) (all_bits w words) 0 r (omega (arith, bits-length w a))
all_bits_bit w (a ∷ words) (suc k) r l h =
    let e : suc k * w + r ≡ length (bits w a) + (k * w + r) = omega (arith, bits-length w a) in
    ap (λ i. get_or (bits w a ++ all_bits w words) i 0) e ∙ get_or-append-add (bits w a) (all_bits w words) (k * w + r) 0 ∙ all_bits_bit w words k r l (le_of_suc-le-suc h)

pub field_here : (w v : ℕ) (bs : List ℕ) → v < 2 ^ w → field_at (bits w v ++ bs) 0 w ≡ v
unfolding field_at
field_here w v bs h = ap (λ l. number l) (take_at (bits w v) bs w (bits-length w v)) ∙ number-bits w v h

pub field_skip : (xs bs : List ℕ) (i j w : ℕ) → j ≡ length xs + i → field_at (xs ++ bs) j w ≡ field_at bs i w
unfolding field_at
field_skip xs bs i j w e = ap (λ k. number (take w (drop k (xs ++ bs)))) e ∙ ap (λ l. number (take w l)) (drop-append-add xs bs i)

pub fields_skip : (xs bs : List ℕ) (i j w k : ℕ) → j ≡ length xs + i → fields_at (xs ++ bs) j w k ≡ fields_at bs i w k
unfolding fields_at
fields_skip xs bs i j w zero e = refl
fields_skip xs bs i j w (suc k) e =
    ap₂ (λ (a : ℕ) (r : List ℕ). a ∷ r) (field_skip xs bs i j w e) (fields_skip xs bs (i + w) (j + w) w k (omega arith))

pub fields_here : (w : ℕ) {k : ℕ} {words : List ℕ} (bs : List ℕ) → Words (2 ^ w) k words → fields_at (all_bits w words ++ bs) 0 w k ≡ words
unfolding fields_at all_bits
fields_here w bs none = refl
fields_here w bs (more {a = a} {n = k} {u = words} h l) =
    ap (λ (l : List ℕ). fields_at l 0 w (suc k)) (append_assoc (bits w a) (all_bits w words) bs)
    ∙ (ap₂ (λ (b : ℕ) (r : List ℕ). b ∷ r)
    (field_here w a (all_bits w words ++ bs) h)
    (fields_skip (bits w a) (all_bits w words ++ bs) 0 (0 + w) w k (omega (arith, bits-length w a)) ∙ fields_here w bs l))

pub fields_length : (bs : List ℕ) (i w k : ℕ) → length (fields_at bs i w k) ≡ k
unfolding fields_at
fields_length bs i w zero = refl
fields_length bs i w (suc k) = ap suc (fields_length bs (i + w) w k)

number_zeros : (w : ℕ) → number (replicate w 0) ≡ 0
unfolding number_from
number_zeros zero = refl
number_zeros (suc w) = number_zeros w

module _ {m : ℕ} {bs : List ℕ} (b : Words 2 m bs) (i w : ℕ) (h : i + w ≤ m) where
  part_words : Words 2 w (take w (drop i bs))
  part_words = take_words (drop_words b i) w (omega arith)

  pub field_below : field_at bs i w < 2 ^ w
  unfolding field_at
  field_below = number_below part_words

  pub bits_of_field : bits w (field_at bs i w) ≡ take w (drop i bs)
  unfolding field_at
  bits_of_field = bits-number part_words

  -- a field is 0 exactly where its bits are
  pub zero_field : field_at bs i w ≡ 0 → take w (drop i bs) ≡ replicate w 0
  unfolding field_at
  zero_field e = (number_from_injective 0 0 part_words (zeros_words w (lit< tt)) (e ∙ sym (number_zeros w))).1

  pub field_zero : take w (drop i bs) ≡ replicate w 0 → field_at bs i w ≡ 0
  unfolding field_at
  field_zero e = ap (λ l. number l) e ∙ number_zeros w

pub bits_of_fields : {m : ℕ} {bs : List ℕ} → Words 2 m bs → (i w k : ℕ) → i + k * w ≤ m → all_bits w (fields_at bs i w k) ≡ take (k * w) (drop i bs)
unfolding all_bits fields_at
bits_of_fields {bs = bs} b i w zero h = let e : 0 ≡ 0 * w = omega arith in ap (λ m. take m (drop i bs)) e
bits_of_fields {bs = bs} b i w (suc k) h =
    let e : w + k * w ≡ suc k * w = omega arith in
    ap₂ ◌++◌ (bits_of_field b i w (omega arith)) (bits_of_fields b (i + w) w k (omega arith) ∙ ap (take (k * w)) (sym (drop-drop w i bs)))
    ∙ sym (take-add w (k * w) (drop i bs))
    ∙ ap (λ m. take m (drop i bs)) e
