-- Every e ≥ 2 has a prime divisor: the smallest of its divisors from 2 on. So a divisor d of n other than n divides n/q for a prime q that divides n.
use mathlib.Core.Path.{◌≡◌, sym, ap, ◌∙◌, subst}
use Prim.Native.Nat.{ℕ, zero, suc, ◌+◌, ◌*◌, ◌/◌, ◌%◌, ◌≤◌, ◌<◌}
use native.Mathlib.Decide.{ℕ_discrete}
use native.Mathlib.Nat.{div-add-mod, div-eq_of_eq-mul_right, dvd_trans, dvd_of_mod-eq-zero, mod-eq-zero_of_dvd, mod_self, mul-mod_right, mul-one, mul-zero}
use native.Mathlib.Omega.{arith}
use Rattle.algebra.specs.Prime.{Prime}

module _ (e : ℕ) where
  abbrev PrimeDivisor : Type 0
  PrimeDivisor = (q : ℕ) × Prime q × (e % q ≡ 0)

  abbrev NoneBelow : ℕ → Type 0
  NoneBelow q = (d : ℕ) → 2 ≤ d → d < q → e % d ≡ 0 → ⊥

  -- a divisor of q would be a smaller divisor of e
  smallest : (q : ℕ) → 2 ≤ q → NoneBelow q → e % q ≡ 0 → PrimeDivisor
  smallest q low none h = (q, (low, λ d l g f. none d l g (mod-eq-zero_of_dvd d (dvd_trans d (dvd_of_mod-eq-zero d f) (dvd_of_mod-eq-zero q h)))), h)

  search_from : (rest q : ℕ) → 2 ≤ q → q + rest ≡ e → NoneBelow q → PrimeDivisor
  search_from zero q low end none = smallest q low none (let same : q ≡ e = omega arith in subst (λ d. e % d ≡ 0) (sym same) (mod_self e))
  search_from (suc rest) q low end none = by_remainder (ℕ_discrete (e % q) 0) (search_from rest (suc q) (omega arith) (omega arith))
    where
      next : (e % q ≡ 0 → ⊥) → NoneBelow (suc q)
      next h d l g f = by_place (ℕ_discrete d q)
        where
          by_place : Dec (d ≡ q) → ⊥
          by_place (yes same) = h (subst (λ c. e % c ≡ 0) same f)
          by_place (no other) = none d l (omega arith) f

      by_remainder : Dec (e % q ≡ 0) → (NoneBelow (suc q) → PrimeDivisor) → PrimeDivisor
      by_remainder (yes h) further = smallest q low none h
      by_remainder (no h) further = further (next h)

prime_divisor : (e : ℕ) → 2 ≤ e → PrimeDivisor e
prime_divisor zero big = absurd (omega arith)
prime_divisor (suc zero) big = absurd (omega arith)
prime_divisor (suc (suc e)) big = search_from (suc (suc e)) e 2 (omega arith) (omega arith) (λ d l g f. omega arith)

abbrev pub PrimeQuotient : ℕ → ℕ → Type 0
PrimeQuotient d n = (q : ℕ) × Prime q × (n % q ≡ 0) × (f : ℕ) × (n / q ≡ d * f)

-- n = d·e, a prime q divides e, and n/q = d·(e/q)
pub prime_quotient : (d n : ℕ) → d < n → n % d ≡ 0 → PrimeQuotient d n
prime_quotient d n less divides = by_quotient (n / d) (omega (arith, div-add-mod n d))
  where
    by_prime : (e : ℕ) → d * e ≡ n → PrimeDivisor e → PrimeQuotient d n
    by_prime e whole (q, prime, h) =
        let f : ℕ = e / q in
        let parts : q * f ≡ e = omega (arith, div-add-mod e q) in
        let regroup : d * (q * f) ≡ q * (d * f) = omega arith in
        let multiple : n ≡ q * (d * f) = sym whole ∙ ap (λ k. d * k) (sym parts) ∙ regroup in
        (q, prime, ap (λ k. k % q) multiple ∙ mul-mod_right q (d * f), f, div-eq_of_eq-mul_right (omega (arith, prime.0)) multiple)

    by_quotient : (e : ℕ) → d * e ≡ n → PrimeQuotient d n
    by_quotient zero whole = absurd (omega (arith, mul-zero d))
    by_quotient (suc zero) whole = absurd (omega (arith, mul-one d))
    by_quotient (suc (suc e)) whole = by_prime (suc (suc e)) whole (prime_divisor (suc (suc e)) (omega arith))
