-- The finder's number where 1 to 4 do not apply: 5 first, then 6 and 7 by the tests of the two moduli; and the sizes that the finder takes.
use mathlib.Core.Path.{◌≡◌, refl, sym, ap}
use mathlib.Core.Bool.{Bool, true, false, not}
use mathlib.Core.List.{List}
use mathlib.Core.Logic.{inl, inr}
use Prim.Native.Nat.{ℕ, ◌-◌, ◌%◌, ◌^◌, ◌≤◌}
use native.Mathlib.Omega.{arith}
use Rattle.algebra.specs.Prime.{Prime}
use Rattle.quotient.specs.DivisorTest.{has_divisor}
use Rattle.refusal.specs.Refusal.{refuse}
use Rattle.roots.specs.Roots.{Admissible}
use Rattle.galois.specs.Tower.{exponent}
use Rattle.galois.proofs.Exponent.{exponent_is}
use Rattle.finder.specs.Construct.{Size}
use Rattle.finder.specs.Finder.{refuse_find}
use Rattle.finder.proofs.Findable.{findable-true, findable-false}

-- sizes

module _ (p n : ℕ) where
  pub admissible : Prime p → p ≤ 2 ^ 20 → 1 ≤ n → n ≤ 16 → (p - 1) % n ≡ 0 → Admissible p n
  admissible prime small low high divides = record { prime = prime; small = small; low = low; high = high; divides = divides }

  pub first_size : Admissible p n → Size p n
  first_size h = record { prime = h.prime; small = h.small; low = h.low; high = h.high; findable = inl h.divides }

  module _ (k : ℕ) (positive : 1 ≤ k) (e : k ≡ exponent p n) where
    pub exponent_size : n ≡ p ^ k
    exponent_size = rw e (exponent_is p n (λ z. omega arith)).1

    pub second_size : Prime p → p ≤ 2 ^ 20 → 1 ≤ n → n ≤ 16 → Size p n
    second_size prime small low high = record { prime = prime; small = small; low = low; high = high; findable = inr (k, positive, exponent_size) }

-- the number

module _ (p n : ℕ) (t1 t2 : List ℕ) where
  pub number_from : Size p n → {c d : Bool} → has_divisor p t1 ≡ c → has_divisor p t2 ≡ d → refuse_find p n t1 t2 ≡ refuse 6 c (refuse 7 d 0)
  number_from h e1 e2 = rw (findable-true p n h.prime.0 h.findable, e1, e2)

  pub refused_degree : ((p - 1) % n ≡ 0 → ⊥) → exponent p n ≡ 0 → 5 ≡ refuse_find p n t1 t2
  refused_degree other none =
      sym (ap (λ b. refuse 5 (not b) (refuse 6 (has_divisor p t1) (refuse 7 (has_divisor p t2) 0))) (findable-false p n other none))

  module _ (h : Size p n) where
    pub six : has_divisor p t1 ≡ true → 6 ≡ refuse_find p n t1 t2
    six some = sym (number_from h some refl)

    pub seven : has_divisor p t1 ≡ false → has_divisor p t2 ≡ true → 7 ≡ refuse_find p n t1 t2
    seven none some = sym (number_from h none some)
