-- The bits of a card by their places, as the reader and the writer reach them: a bit stands in byte i / 8, and a field grows by one bit
-- at a time.
use mathlib.Core.Path.{◌≡◌, refl, sym, ap, ap₂, ◌∙◌}
use mathlib.Core.List.{List, [], ◌∷◌}
use Prim.Native.Nat.{ℕ, zero, suc, ◌+◌, ◌-◌, ◌*◌, ◌/◌, ◌%◌, ◌^◌, ◌≤◌, ◌<◌}
use native.Mathlib.Nat.{div-add-mod', le_antisymm, le_of_suc-le-suc, lt_of_lt_of_le}
use native.Mathlib.Numerals.{add-one}
use native.Mathlib.Omega.{arith}
use lib.ListN.{length, get_or, take, drop, length-drop}
use lib.Pow.{pow_mono}
use lib.Seq.{take-suc, get_or-drop}
use Rattle.card.specs.Bits.{bits, number, number_from, unpacked}
use Rattle.card.specs.Card.{all_bits, field_at, fields_at}
use Rattle.card.proofs.Bits.{bits-length, bit_of_bits, number_from-append}
use Rattle.card.proofs.Packed.{unpacked-all_bits, unpacked-length, unpacked_words}
use Rattle.card.proofs.Fields.{all_bits_bit, field_below, field_here, field_skip}

-- bit i of words of w bits stands in word i / w, behind i % w others, with e after it
pub words_bit : (w : ℕ) (words : List ℕ) (i e : ℕ) → i % w + suc e ≡ w → i / w < length words → get_or (all_bits w words) i 0 ≡ get_or words (i / w) 0 / 2 ^ e % 2
words_bit w words i e h k =
    ap (λ m. get_or (all_bits w words) m 0) (sym (div-add-mod' i w))
    ∙ all_bits_bit w words (i / w) (i % w) (omega arith) k
    ∙ bit_of_bits w (get_or words (i / w) 0) (i % w) e h

unpacked_bit : (ys : List ℕ) (i : ℕ) → i < 8 * length ys → get_or (unpacked ys) i 0 ≡ get_or ys (i / 8) 0 / 2 ^ (7 - i % 8) % 2
unpacked_bit ys i h = ap (λ bs. get_or bs i 0) (unpacked-all_bits ys) ∙ words_bit 8 ys i (7 - i % 8) (omega arith) (omega arith)

-- one more bit
number_next : (bs : List ℕ) (j : ℕ) → j < length bs → number (take (j + 1) bs) ≡ number (take j bs) * 2 + get_or bs j 0
unfolding number_from
number_next bs j h = rw (add-one, take-suc bs j 0) (number_from-append 0 (take j bs) (get_or bs j 0 ∷ []))

field_next : (bs : List ℕ) (i j : ℕ) → i + j < length bs → field_at bs i (j + 1) ≡ field_at bs i j * 2 + get_or bs (i + j) 0
unfolding field_at
field_next bs i j h = number_next (drop i bs) j (omega (arith, length-drop i bs)) ∙ ap (λ b. number (take j (drop i bs)) * 2 + b) (get_or-drop i bs j 0)

module _ (ys : List ℕ) (i w : ℕ) (fits : i + w ≤ 8 * length ys) where
  pub field_turn : (j value b : ℕ) → value ≡ field_at (unpacked ys) i j → b ≡ get_or (unpacked ys) (i + j) 0 → j < w → value * 2 + b ≡ field_at (unpacked ys) i (j + 1)
  field_turn j value b v e h = ap₂ (λ x y. x * 2 + y) v e ∙ sym (field_next (unpacked ys) i j (omega (arith, unpacked-length ys)))

  field_small : (j value : ℕ) → value ≡ field_at (unpacked ys) i j → j ≤ w → w ≤ 20 → value < 2 ^ 20
  field_small j value v h m =
      let short : j ≤ 20 = omega arith in
      rw v (lt_of_lt_of_le (field_below (unpacked_words ys) i j (omega arith)) (pow_mono short))

  -- the number after one more bit is small too
  pub field_turn_small : (j value b : ℕ) → value ≡ field_at (unpacked ys) i j → b ≡ get_or (unpacked ys) (i + j) 0 → j < w → w ≤ 20 → value * 2 + b < 2 ^ 20
  field_turn_small j value b v e h m = field_small (j + 1) (value * 2 + b) (field_turn j value b v e h) (omega arith) m

  pub field_end : (j value : ℕ) → value ≡ field_at (unpacked ys) i j → j ≤ w → w ≤ j → value ≡ field_at (unpacked ys) i w
  field_end j value v l m = v ∙ ap (field_at (unpacked ys) i) (le_antisymm l m)

  pub field_end_below : (j value : ℕ) → value ≡ field_at (unpacked ys) i j → j ≤ w → w ≤ j → value < 2 ^ w
  field_end_below j value v l m = rw (field_end j value v l m) (field_below (unpacked_words ys) i w (omega arith))

pub field_starts : (bs : List ℕ) (i : ℕ) → 0 ≡ field_at bs i 0
unfolding field_at number_from
field_starts bs i = refl

pub digit_is_bit : (ys : List ℕ) (i r : ℕ) → i < 8 * length ys → r ≡ get_or ys (i / 8) 0 / 2 ^ (7 - i % 8) % 2 → r ≡ get_or (unpacked ys) i 0
digit_is_bit ys i r h e = e ∙ sym (unpacked_bit ys i h)

pub word_at : (bs : List ℕ) (i w count k : ℕ) → k < count → get_or (fields_at bs i w count) k 0 ≡ field_at bs (i + k * w) w
unfolding fields_at
word_at bs i w zero k h = absurd (omega arith)
word_at bs i w (suc count) zero h = let e : i ≡ i + 0 * w = omega arith in ap (λ m. field_at bs m w) e
word_at bs i w (suc count) (suc k) h =
    let e : i + w + k * w ≡ i + suc k * w = omega arith in
    word_at bs (i + w) w count k (le_of_suc-le-suc h) ∙ ap (λ m. field_at bs m w) e

pub word_found : (bs : List ℕ) (i w count k r : ℕ) → k < count → r ≡ field_at bs (i + k * w) w → r ≡ get_or (fields_at bs i w count) k 0
word_found bs i w count k r h e = e ∙ sym (word_at bs i w count k h)

-- a byte is a field of eight bits
pub byte_is_field : (ys : List ℕ) (k : ℕ) → k < length ys → get_or ys k 0 < 256 → field_at (unpacked ys) (8 * k) 8 ≡ get_or ys k 0
unfolding unpacked
byte_is_field [] k h b = absurd (omega arith)
byte_is_field (y ∷ ys) zero h b = field_here 8 y (unpacked ys) b
byte_is_field (y ∷ ys) (suc k) h b =
    field_skip (bits 8 y) (unpacked ys) (8 * k) (8 * suc k) 8 (omega (arith, bits-length 8 y)) ∙ byte_is_field ys k (le_of_suc-le-suc h) b

pub byte_fits : (ys : List ℕ) (k : ℕ) → k < length ys → 8 * k + 8 ≤ 8 * length ys
byte_fits ys k h = omega arith
