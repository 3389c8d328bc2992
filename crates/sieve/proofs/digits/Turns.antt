-- The loops of `power` and `write_digits`: before turn i the power is p^i, and what is left of c is c / p^i.
use mathlib.Core.Path.{◌≡◌, refl, sym, ap, ◌∙◌}
use mathlib.Core.List.{List}
use Prim.Native.Nat.{ℕ, ◌+◌, ◌*◌, ◌/◌, ◌%◌, ◌^◌, ◌≤◌, ◌<◌}
use native.Mathlib.Nat.{pow-zero, pow-suc, pow-le-pow_right, div-one, div-eq_of_lt}
use native.Mathlib.Numerals.{add-one}
use native.Mathlib.Omega.{arith}
use lib.ListN.{length}
use Rattle.array.specs.Digits.{digits}
use Rattle.array.proofs.Digits.{next_digit, digits-range}
use Rattle.array.proofs.Painted.{painted}
use Rattle.array.proofs.Ranges.{painted-range}

pub power_none : (p : ℕ) → 1 ≡ p ^ 0
power_none p = sym (pow-zero p)

pub power_turn : (p i r : ℕ) → r ≡ p ^ i → r * p ≡ p ^ (i + 1)
power_turn p i r e = ap (λ x. x * p) e ∙ sym (pow-suc p i) ∙ ap (λ j. p ^ j) (sym (add-one i))

-- no power on the way is larger than the last
pub power_most : (p k i r : ℕ) → 1 ≤ p → p ^ k ≤ 65536 → i < k → r ≡ p ^ i → r * p ≤ 65536
power_most p k i r some few less e =
    let more : p ^ (i + 1) ≤ p ^ k = pow-le-pow_right some (omega arith) in
    omega (arith, more, power_turn p i r e)

pub power_end : (p k i r : ℕ) → i ≤ k → k ≤ i → r ≡ p ^ i → r ≡ p ^ k
power_end p k i r l l' e = let same : i ≡ k = omega arith in e ∙ ap (λ j. p ^ j) same

-- a number below p has no other digit
pub below_others : (p c : ℕ) → c < p → 0 ≡ c / p
below_others p c l = sym (div-eq_of_lt l)

-- digit i of c
unfoldable pub digit_of : ℕ → ℕ → ℕ → ℕ
digit_of p c i = c / p ^ i % p

pub rest_all : (p c : ℕ) → c ≡ c / p ^ 0
rest_all p c = sym (ap (λ x. c / x) (pow-zero p) ∙ div-one c)

pub rest_digit : (p c i rest r : ℕ) → r ≡ rest % p → rest ≡ c / p ^ i → r ≡ digit_of p c i
unfolding digit_of
rest_digit p c i rest r f e = f ∙ ap (λ x. x % p) e

pub rest_turn : (p c i rest r : ℕ) → r ≡ rest / p → rest ≡ c / p ^ i → r ≡ c / p ^ (i + 1)
rest_turn p c i rest r f e = f ∙ ap (λ x. x / p) e ∙ next_digit p i c

pub digits_written : (p c i : ℕ) (out₀ out : List ℕ) → i ≤ length out₀ → length out₀ ≤ i → out ≡ painted out₀ (digit_of p c) i
    → out ≡ digits p (length out₀) c
unfolding digit_of
digits_written p c i out₀ out l l' e = painted-range (digit_of p c) (length out₀) i out₀ out refl l (omega arith) e ∙ sym (digits-range p (length out₀) c)
