-- A field by way of the whole bytes that have its bits: the number in these bytes grows by one byte at a time, and the field is what is left without
-- the bits behind it and before it.
use mathlib.Core.Path.{◌≡◌, refl, sym, ap, ap₂, ◌∙◌}
use mathlib.Core.List.{List, ◌++◌}
use Prim.Native.Nat.{ℕ, suc, ◌+◌, ◌-◌, ◌*◌, ◌/◌, ◌%◌, ◌^◌, ◌≤◌, ◌<◌}
use native.Mathlib.Nat.{pow-suc, mod-eq_of_lt, le_antisymm, lt_of_lt_of_le, div-lt_iff_lt-mul, add-mul-mod_self_right}
use native.Mathlib.Decide.{dec_lt}
use native.Mathlib.Omega.{arith}
use lib.ListN.{length, get_or, take, drop, length-drop}
use lib.Pow.{pow-add, pow_mono, pow_pos}
use lib.Seq.{take-add, drop-drop, get_or-take, get_or-drop, length-take-le}
use mir.Syntax.{w32}
use mir.Val.{Fits}
use Rattle.array.specs.Words.{Words, none, more}
use Rattle.array.proofs.Words.{take_words, drop_words}
use Rattle.card.specs.Bits.{number, number_from, unpacked}
use Rattle.card.specs.Card.{field_at}
use Rattle.card.proofs.Bits.{number_from-append}
use Rattle.card.proofs.Fields.{field_below}
use Rattle.card.proofs.Places.{byte_is_field}
use Rattle.card.proofs.Packed.{unpacked_words}

-- the number with the bits bs behind those of h
number_high : {k : ℕ} {bs : List ℕ} → Words 2 k bs → (h : ℕ) → number_from h bs ≡ h * 2 ^ k + number_from 0 bs
unfolding number_from
number_high none h = omega arith
number_high (more {a = b} {n = k} {u = bs} l w) h =
    number_high w (h * 2 + b)
    ∙ step h b (2 ^ k) (number_from 0 bs)
    ∙ ap₂ (λ x y. h * x + y) (sym (pow-suc 2 k)) (sym (number_high w (0 * 2 + b)))
  where
    step : (h b x r : ℕ) → (h * 2 + b) * x + r ≡ h * (x * 2) + ((0 * 2 + b) * x + r)
    step h b x r = omega arith

-- a field of two parts
module _ {m : ℕ} {bs : List ℕ} (bits_are : Words 2 m bs) (i a b : ℕ) (within : i + a + b ≤ m) where
  field_parts : field_at bs i (a + b) ≡ field_at bs i a * 2 ^ b + field_at bs (i + a) b
  unfolding field_at
  field_parts =
      ap number (take-add a b (drop i bs) ∙ ap (λ (l : List ℕ). take a (drop i bs) ++ take b l) (drop-drop a i bs))
      ∙ number_from-append 0 (take a (drop i bs)) (take b (drop (i + a) bs))
      ∙ number_high (take_words (drop_words bits_are (i + a)) b (omega arith)) (number (take a (drop i bs)))

-- the value of the bytes before the index, in the part of the card that is gone over
module _ (ys : List ℕ) (first end : ℕ) (from : first ≤ end) (few : end ≤ first + 4) (to : end ≤ length ys) (index value : ℕ) (so_far : value ≡ field_at (unpacked ys) (8 * first) (8 * index)) where
  abbrev part : List ℕ
  part = take (end - first) (drop first ys)

  part_length : length part ≡ end - first
  part_length = length-take-le (end - first) (drop first ys) (omega (arith, length-drop first ys))

  module _ (next : index < length part) where
    inside : first + index < end
    inside = omega (arith, part_length)

    part_byte : get_or part index 0 ≡ get_or ys (first + index) 0
    part_byte = get_or-take (end - first) (drop first ys) index 0 (omega (arith, part_length)) ∙ get_or-drop first ys index 0

    -- a number of up to three bytes
    bytes_small : value < 2 ^ 24
    bytes_small =
        let short : 8 * index ≤ 24 = omega (arith, inside) in
        rw so_far (lt_of_lt_of_le (field_below (unpacked_words ys) (8 * first) (8 * index) (omega (arith, inside))) (pow_mono short))

    pub bytes_fit : Fits w32 (value * 256)
    bytes_fit = record { fits = omega (arith, bytes_small) }

    module _ (byte : get_or ys (first + index) 0 < 256) where
      pub byte_fits_behind : Fits w32 (value * 256 + get_or part index 0)
      byte_fits_behind = record { fits = omega (arith, bytes_small, part_byte) }

      pub bytes_turn : value * 256 + get_or part index 0 ≡ field_at (unpacked ys) (8 * first) (8 * (index + 1))
      bytes_turn =
          let more : 8 * index + 8 ≡ 8 * (index + 1) = omega arith in
          let place : 8 * first + 8 * index ≡ 8 * (first + index) = omega arith in
          ap₂ (λ x y. x * 256 + y) so_far
          (part_byte ∙ sym (byte_is_field ys (first + index) (omega (arith, inside)) byte) ∙ ap (λ p. field_at (unpacked ys) p 8) (sym place))
          ∙ sym (field_parts (unpacked_words ys) (8 * first) (8 * index) 8 (omega (arith, inside)))
          ∙ ap (field_at (unpacked ys) (8 * first)) more

  pub bytes_done : length part ≤ index → index ≤ length part → value ≡ field_at (unpacked ys) (8 * first) (8 * (end - first))
  bytes_done l g = so_far ∙ ap (λ e. field_at (unpacked ys) (8 * first) (8 * e)) (le_antisymm g l ∙ part_length)

pub no_bytes : (ys : List ℕ) (i : ℕ) → 0 ≡ field_at (unpacked ys) i (8 * 0)
unfolding field_at number_from
no_bytes ys i = refl

quotient : (q r d : ℕ) → r < d → (q * d + r) / d ≡ q
quotient q r d l =
    let upper : (q * d + r) / d < suc q = (div-lt_iff_lt-mul {k = d} {x = q * d + r} {y = suc q} (omega arith)).1 (omega arith) in
    go (dec_lt ((q * d + r) / d) q) upper
  where
    go : Dec ((q * d + r) / d < q) → (q * d + r) / d < suc q → (q * d + r) / d ≡ q
    go (yes k) u = let below : q * d + r < q * d = (div-lt_iff_lt-mul {k = d} {x = q * d + r} {y = q} (omega arith)).0 k in absurd (omega arith)
    go (no k) u = omega arith

-- (A·2^w + F)·2^t + T without T and without A
cut : (a f t w tail value : ℕ) → value ≡ a * 2 ^ (w + tail) + (f * 2 ^ tail + t) → f < 2 ^ w → t < 2 ^ tail → value / 2 ^ tail % 2 ^ w ≡ f
cut a f t w tail value e lf lt =
    ap (λ v. v / 2 ^ tail % 2 ^ w) (e ∙ ap (λ x. a * x + (f * 2 ^ tail + t)) (pow-add 2 w tail) ∙ shape a f t (2 ^ w) (2 ^ tail))
    ∙ ap (λ q. q % 2 ^ w) (quotient (a * 2 ^ w + f) t (2 ^ tail) lt)
    ∙ ap (λ x. x % 2 ^ w) (swap (a * 2 ^ w) f)
    ∙ add-mul-mod_self_right f a (2 ^ w)
    ∙ mod-eq_of_lt lf
  where
    shape : (a f t x y : ℕ) → a * (x * y) + (f * y + t) ≡ (a * x + f) * y + t
    shape a f t x y = omega arith

    swap : (x y : ℕ) → x + y ≡ y + x
    swap x y = omega arith

-- the power of two by which the bits before a field are dropped
power_is : (w : ℕ) → w ≤ 20 → 1 * 2 ^ w % 2 ^ 32 ≡ 2 ^ w
power_is w few =
    let short : 2 ^ w ≤ 2 ^ 20 = pow_mono few in
    let one : 1 * 2 ^ w ≡ 2 ^ w = omega arith in
    ap (λ x. x % 2 ^ 32) one ∙ mod-eq_of_lt (omega arith)

pub power_positive : (w : ℕ) → w ≤ 20 → 0 < 1 * 2 ^ w % 2 ^ 32
power_positive w few = rw (power_is w few) (pow_pos w)

module _ (ys : List ℕ) (i w : ℕ) (fits : i + w ≤ 8 * length ys) (value : ℕ) (e : value ≡ field_at (unpacked ys) (8 * (i / 8)) (8 * ((i + w + 7) / 8 - i / 8))) where
  tail : ℕ
  tail = 8 * ((i + w + 7) / 8) - (i + w)

  lead : ℕ
  lead = i - 8 * (i / 8)

  in_parts : value ≡ field_at (unpacked ys) (8 * (i / 8)) lead * 2 ^ (w + tail) + (field_at (unpacked ys) i w * 2 ^ tail + field_at (unpacked ys) (i + w) tail)
  unfolding tail lead
  in_parts =
      let total : 8 * ((i + w + 7) / 8 - i / 8) ≡ lead + (w + tail) = omega arith in
      let place : 8 * (i / 8) + lead ≡ i = omega arith in
      e
      ∙ ap (field_at (unpacked ys) (8 * (i / 8))) total
      ∙ field_parts (unpacked_words ys) (8 * (i / 8)) lead (w + tail) (omega arith)
      ∙ ap (λ x. field_at (unpacked ys) (8 * (i / 8)) lead * 2 ^ (w + tail) + x)
      (ap (λ j. field_at (unpacked ys) j (w + tail)) place ∙ field_parts (unpacked_words ys) i w tail (omega arith))

  field_cut : value / 2 ^ (8 * ((i + w + 7) / 8) - (i + w)) % 2 ^ w ≡ field_at (unpacked ys) i w
  unfolding tail
  field_cut =
      cut (field_at (unpacked ys) (8 * (i / 8)) lead) (field_at (unpacked ys) i w) (field_at (unpacked ys) (i + w) tail) w tail value in_parts
      (field_below (unpacked_words ys) i w fits)
      (field_below (unpacked_words ys) (i + w) tail (omega arith))

  pub field_code : w ≤ 20
      → (value / 2 ^ (8 * ((i + w + 7) / 8) - (i + w)) % (1 * 2 ^ w % 2 ^ 32) ≡ field_at (unpacked ys) i w)
      × (value / 2 ^ (8 * ((i + w + 7) / 8) - (i + w)) % (1 * 2 ^ w % 2 ^ 32) < 2 ^ w)
      × (value / 2 ^ (8 * ((i + w + 7) / 8) - (i + w)) % (1 * 2 ^ w % 2 ^ 32) < 2 ^ 20)
  field_code few =
      let below : field_at (unpacked ys) i w < 2 ^ w = field_below (unpacked_words ys) i w fits in
      rw (power_is w few, field_cut) (refl, below, lt_of_lt_of_le below (pow_mono few))
