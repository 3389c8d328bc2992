-- Laws of bits: the number of the w bits of v is v % 2^w, and a list of bits is determined by its length and its number, so each of
-- `bits` and `number` undoes the other. A list of w bits is one of w words below 2.
use mathlib.Core.Path.{◌≡◌, refl, sym, ap, ap₂, ◌∙◌}
use mathlib.Core.List.{List, [], ◌∷◌, ◌++◌}
use Prim.Native.Nat.{ℕ, zero, suc, ◌+◌, ◌*◌, ◌/◌, ◌%◌, ◌^◌, ◌≤◌, ◌<◌}
use native.Mathlib.Nat.{mod-lt, mod-eq_of_lt, mod-one, pow-suc, mul-le-mul_right, lt_of_lt_of_le, le_trans}
use native.Mathlib.Omega.{arith}
use lib.Dec.{lit<}
use lib.ListN.{length, get_or}
use lib.Pow.{mod-pow-add}
use Rattle.array.specs.Words.{Words, none, more}
use Rattle.array.proofs.Words.{words_length}
use Rattle.card.specs.Bits.{bits, number, number_from}

pub bits_words : (w v : ℕ) → Words 2 w (bits w v)
unfolding bits
bits_words zero v = none
bits_words (suc w) v = more (mod-lt (v / 2 ^ w) (lit< tt)) (bits_words w v)

pub bits-length : (w v : ℕ) → length (bits w v) ≡ w
bits-length w v = words_length (bits_words w v)

-- bit j of the w bits of v, with k bits after it
pub bit_of_bits : (w v j k : ℕ) → j + suc k ≡ w → get_or (bits w v) j 0 ≡ v / 2 ^ k % 2
unfolding bits
bit_of_bits zero v j k e = absurd (omega arith)
bit_of_bits (suc w) v zero k e = let h : w ≡ k = omega arith in rw h
bit_of_bits (suc w) v (suc j) k e = bit_of_bits w v j k (omega arith)

-- the leading one of w + 1 bits, and the others
mod_leading : (v w : ℕ) → v % 2 ^ suc w ≡ v / 2 ^ w % 2 * 2 ^ w + v % 2 ^ w
mod_leading v w = let e : suc w ≡ 1 + w = omega arith in ap (λ k. v % 2 ^ k) e ∙ mod-pow-add v 1 w

number_from-bits : (w h v : ℕ) → number_from h (bits w v) ≡ h * 2 ^ w + v % 2 ^ w
unfolding bits number_from
number_from-bits zero h v = omega (arith, mod-one v)
number_from-bits (suc w) h v = number_from-bits w (h * 2 + v / 2 ^ w % 2) v ∙ regroup h (v / 2 ^ w % 2) (2 ^ w) (v % 2 ^ w) ∙ sym (ap₂ (λ a b. h * a + b) (pow-suc 2 w) (mod_leading v w))
  where
    regroup : (h b q r : ℕ) → (h * 2 + b) * q + r ≡ h * (q * 2) + (b * q + r)
    regroup h b q r = omega arith

pub number-bits : (w v : ℕ) → v < 2 ^ w → number (bits w v) ≡ v
number-bits w v h = number_from-bits w 0 v ∙ omega (arith, mod-eq_of_lt h)

-- the first number and every bit can be told from the last number: bit by bit from the end, the remainder by 2
pub number_from_injective : {w : ℕ} {xs ys : List ℕ} (g h : ℕ) → Words 2 w xs → Words 2 w ys → number_from g xs ≡ number_from h ys → (g ≡ h) × (xs ≡ ys)
unfolding number_from
number_from_injective g h none none e = (e, refl)
number_from_injective g h (more {a = x} {u = xs} k v) (more {a = y} {u = ys} l w) e =
    let r : (g * 2 + x ≡ h * 2 + y) × (xs ≡ ys) = number_from_injective (g * 2 + x) (h * 2 + y) v w e in
    let d : x ≡ y = omega (arith, r.0) in
    (omega (arith, r.0), ap₂ (λ (a : ℕ) (bs : List ℕ). a ∷ bs) d r.1)

-- w bits are a number below 2^w
number_from_below : {w : ℕ} {bs : List ℕ} (h : ℕ) → Words 2 w bs → number_from h bs < suc h * 2 ^ w
unfolding number_from
number_from_below h none = omega arith
number_from_below h (more {a = d} {n = w} k b) = lt_of_lt_of_le (number_from_below (h * 2 + d) b) (rw pow-suc (double h d (2 ^ w) k))
  where
    double : (h d q : ℕ) → d < 2 → suc (h * 2 + d) * q ≤ suc h * (q * 2)
    double h d q l =
        let m : suc (h * 2 + d) ≤ suc h * 2 = omega arith in
        le_trans (mul-le-mul_right q m) (omega arith)

pub number_below : {w : ℕ} {bs : List ℕ} → Words 2 w bs → number bs < 2 ^ w
number_below b = omega (arith, number_from_below 0 b)

-- so the bits of a number are those that it was made of
pub bits-number : {w : ℕ} {bs : List ℕ} → Words 2 w bs → bits w (number bs) ≡ bs
bits-number {w} {bs} b = (number_from_injective 0 0 (bits_words w (number bs)) b (number-bits w (number bs) (number_below b))).1

pub number_from-append : (h : ℕ) (xs ys : List ℕ) → number_from h (xs ++ ys) ≡ number_from (number_from h xs) ys
unfolding number_from
number_from-append h [] ys = refl
number_from-append h (x ∷ xs) ys = number_from-append (h * 2 + x) xs ys
