-- The powers x^(p^k) of one element: where x^(p^d) = x, they repeat with period d, and those before the least period are distinct.
use mathlib.Core.Path.{◌≡◌, sym, ap, ◌∙◌}
use Prim.Native.Nat.{ℕ, zero, suc, ◌+◌, ◌*◌, ◌/◌, ◌%◌, ◌^◌, ◌≤◌, ◌<◌}
use native.Mathlib.Nat.{pow-zero, pow-suc, add-zero, mul-zero, div-add-mod, mod-lt, pos_of_ne-zero, le_dest}
use native.Mathlib.Decide.{ℕ_discrete}
use native.Mathlib.Omega.{arith}
use Rattle.algebra.specs.Ring.{CommutativeRing, power}
use Rattle.algebra.proofs.Injective.{injective_below}
use Rattle.algebra.proofs.RingLaws.{power-mul, power-one}

module _ {A : Type 0} (R : CommutativeRing A) (p : ℕ) where
  -- x^(p^(j + k)) = (x^(p^j))^(p^k)
  pub power-power : (x : A) (j k : ℕ) → power R x (p ^ (j + k)) ≡ power R (power R x (p ^ j)) (p ^ k)
  power-power x j zero = ap (λ e. power R x (p ^ e)) (add-zero j) ∙ sym (ap (power R (power R x (p ^ j))) (pow-zero p) ∙ power-one R (power R x (p ^ j)))
  power-power x j (suc k) =
      let step : j + suc k ≡ suc (j + k) = omega arith in
      ap (λ e. power R x (p ^ e)) step ∙ ap (power R x) (pow-suc p (j + k)) ∙ power-mul R x (p ^ (j + k)) p ∙ ap (λ y. power R y p) (power-power x j k)
      ∙ sym (ap (power R (power R x (p ^ j))) (pow-suc p k) ∙ power-mul R (power R x (p ^ j)) (p ^ k) p)

  module _ (x : A) (d : ℕ) (period : power R x (p ^ d) ≡ x) where
    pub period_multiple : (k : ℕ) → power R x (p ^ (d * k)) ≡ x
    period_multiple zero = ap (λ e. power R x (p ^ e)) (mul-zero d) ∙ ap (power R x) (pow-zero p) ∙ power-one R x
    period_multiple (suc k) =
        let step : d * suc k ≡ d * k + d = omega arith in
        ap (λ e. power R x (p ^ e)) step ∙ power-power x (d * k) d ∙ ap (λ y. power R y (p ^ d)) (period_multiple k) ∙ period

    -- the least period divides every other
    pub period_divides : 0 < d → ((k : ℕ) → 0 < k → k < d → power R x (p ^ k) ≡ x → ⊥) → (n : ℕ) → power R x (p ^ n) ≡ x → n % d ≡ 0
    period_divides pos least n e = by_remainder (ℕ_discrete (n % d) 0)
      where
        rest : power R x (p ^ (n % d)) ≡ x
        rest =
            ap (λ y. power R y (p ^ (n % d))) (sym (period_multiple (n / d))) ∙ sym (power-power x (d * (n / d)) (n % d))
            ∙ ap (λ k. power R x (p ^ k)) (div-add-mod n d) ∙ e

        by_remainder : Dec (n % d ≡ 0) → n % d ≡ 0
        by_remainder (yes h) = h
        by_remainder (no h) = absurd (least (n % d) (pos_of_ne-zero h) (mod-lt n pos) rest)

    -- below the least period they are distinct
    module _ (least : (k : ℕ) → 0 < k → k < d → power R x (p ^ k) ≡ x → ⊥) where
      pub period_distinct : (j k : ℕ) → j < d → k < d → power R x (p ^ j) ≡ power R x (p ^ k) → j ≡ k
      period_distinct = injective_below (λ k. power R x (p ^ k)) d apart
        where
          -- x^(p^j) = x^(p^(j + c)), raised to p^r with j + r = d
          apart : (j c : ℕ) → j + suc c < d → power R x (p ^ j) ≡ power R x (p ^ (j + suc c)) → ⊥
          apart j c l e =
              let less : j ≤ d = omega arith in
              let (r, h) = le_dest less in
              let around : d + suc c ≡ j + suc c + r = omega arith in
              least (suc c) (omega arith) (omega arith)
              (ap (λ y. power R y (p ^ suc c)) (sym period) ∙ sym (power-power x d (suc c)) ∙ ap (λ i. power R x (p ^ i)) around
              ∙ power-power x (j + suc c) r ∙ ap (λ y. power R y (p ^ r)) (sym e) ∙ sym (power-power x j r) ∙ ap (λ i. power R x (p ^ i)) h ∙ period)
