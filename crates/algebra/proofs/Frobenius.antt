-- In a commutative ring with p·1 = 0 for a prime p, the map a ↦ a^p preserves sums and fixes the numerals: in the binomial theorem for
-- (a + b)^p every term but a^p and b^p has a multiple of p for its coefficient.
use mathlib.Core.Path.{◌≡◌, sym, ◌∙◌, ap, ap₂}
use mathlib.Core.List.{List, [], ◌∷◌}
use Prim.Native.Nat.{ℕ, zero, suc, ◌+◌, ◌-◌, ◌^◌, ◌%◌}
use native.Mathlib.Nat.{mod-add-div, pow-zero, pow-suc}
use native.Mathlib.Omega.{arith}
use Rattle.algebra.specs.Lists.{All}
use Rattle.algebra.specs.Prime.{Prime}
use Rattle.algebra.specs.Ring.{CommutativeRing, numeral, power, value}
use Rattle.algebra.proofs.Binomial.{binomial, binomial-zero, expansion, binomial_theorem, prime_divides_binomial}
use Rattle.algebra.proofs.RingLaws.{add-zero, zero-add, mul-one, one-mul, zero-mul, numeral-zero, numeral-one, numeral-suc, numeral-add, numeral-mul, power_zero, power-one, power_of_one, power_of_zero, power-mul, power_product}

-- m = m % p + p·(m / p).
pub numeral-mod : {A : Type 0} (R : CommutativeRing A) (p m : ℕ) → numeral R p ≡ R.zero → numeral R (m % p) ≡ numeral R m
numeral-mod R p m h =
    simp (numeral-add, numeral-mul, h, zero-mul, add-zero) at (ap (numeral R) (mod-add-div m p))

module _ {A : Type 0} (R : CommutativeRing A) (p : ℕ) (prime : Prime p) (characteristic : numeral R p ≡ R.zero) where
  coefficient_vanishes : (i j : ℕ) → suc i + suc j ≡ p → numeral R (binomial (suc i) (suc j)) ≡ R.zero
  coefficient_vanishes i j e =
      sym (numeral-mod R p (binomial (suc i) (suc j)) characteristic) ∙ ap (numeral R) (prime_divides_binomial p i j prime e) ∙ numeral-zero R

  -- Of the terms with a positive power of b only b^p is left.
  expansion_vanishes : (a b : A) (i j : ℕ) → i + suc j ≡ p → expansion R a b (suc i) (suc j) ≡ power R b p
  unfolding expansion binomial
  expansion_vanishes a b zero j e =
      let row : suc j ≡ p = omega arith in
      simp (numeral-one, power_zero, one-mul, add-zero) (ap (power R b) row)
  expansion_vanishes a b (suc i) j e =
      ap (λ c. R.add (R.mul c (R.mul (power R a (suc i)) (power R b (suc j)))) (expansion R a b (suc i) (suc (suc j)))) (coefficient_vanishes i j e)
      ∙ simp (zero-mul, zero-add) (expansion_vanishes a b i (suc j) (omega arith))

  pub frobenius_add : (a b : A) → power R (R.add a b) p ≡ R.add (power R a p) (power R b p)
  unfolding expansion
  frobenius_add a b =
      let q : p - 1 + 1 ≡ p = omega arith in
      let r : suc (p - 1) ≡ p = omega arith in
      binomial_theorem R a b p
      ∙ ap₂ (λ m x. R.add (R.mul (numeral R m) (R.mul (power R a p) (power R b 0))) x) (binomial-zero p)
      (ap (λ n. expansion R a b n 1) (sym r) ∙ expansion_vanishes a b (p - 1) 0 q)
      ∙ simp (numeral-one, one-mul, power_zero, mul-one)

  pub frobenius_zero : power R R.zero p ≡ R.zero
  frobenius_zero =
      let r : suc (p - 1) ≡ p = omega arith in
      ap (power R R.zero) (sym r) ∙ power_of_zero R (p - 1)

  pub frobenius_numeral : (c : ℕ) → power R (numeral R c) p ≡ numeral R c
  frobenius_numeral zero = simp numeral-zero frobenius_zero
  frobenius_numeral (suc c) = simp (numeral-suc, frobenius_add, power_of_one, frobenius_numeral c)

  -- f(a)^p = f(a^p) for coefficients that the map fixes.
  pub frobenius_value : (f : List A) (a : A) → All (λ c. power R c p ≡ c) f → power R (value R f a) p ≡ value R f (power R a p)
  unfolding value
  frobenius_value [] a h = frobenius_zero
  frobenius_value (c ∷ f) a h =
      frobenius_add c (R.mul a (value R f a)) ∙ ap₂ R.add h.0 (power_product R a (value R f a) p ∙ ap (R.mul (power R a p)) (frobenius_value f a h.1))

  pub frobenius_power-add : (a b : A) (k : ℕ) → power R (R.add a b) (p ^ k) ≡ R.add (power R a (p ^ k)) (power R b (p ^ k))
  frobenius_power-add a b zero = simp (pow-zero, power-one)
  frobenius_power-add a b (suc k) = simp (pow-suc, power-mul, frobenius_power-add a b k, frobenius_add)
