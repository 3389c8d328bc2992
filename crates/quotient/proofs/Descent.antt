-- Every T has a divisor of degree 1 to n that has itself no divisor of lower degree but constants: go down from T to a divisor of the
-- divisor as long as there is one; its degree becomes less each time.
--   IrreducibleDivisor p n t   such a divisor
use mathlib.Core.List.{List}
use Prim.Native.Nat.{ℕ, zero, suc, ◌≤◌}
use native.Mathlib.Nat.{le_refl}
use native.Mathlib.Omega.{arith}
use Rattle.array.specs.Words.{Words}
use Rattle.quotient.specs.Divisor.{Divides, HasDivisor}
use Rattle.array.proofs.Words.{words_length}
use Rattle.quotient.proofs.Divisor.{divides_itself, divides_transitive}
use Rattle.quotient.proofs.Decision.{has_divisor?}

abbrev pub IrreducibleDivisor : ℕ → ℕ → List ℕ → Type 0
IrreducibleDivisor p n t = (m : ℕ) × (d : List ℕ) × (m ≤ n) × Words p (suc m) d × Divides p d t × (HasDivisor p d → ⊥)

module _ (p n : ℕ) (t : List ℕ) (big : 2 ≤ p) where
  abbrev Descent : ℕ → Type 0
  Descent fuel = (m : ℕ) (d : List ℕ) → m ≤ fuel → m ≤ n → Words p (suc m) d → Divides p d t → IrreducibleDivisor p n t

  descend : (fuel : ℕ) → Descent fuel
  descend zero m d f l wd h = (m, d, l, wd, h, λ s. let e = words_length wd in let a = s.1 in let b = s.2 in omega arith)
  descend (suc fuel) m d f l wd h = by_divisor (has_divisor? big wd) (descend fuel)
    where
      by_divisor : Dec (HasDivisor p d) → Descent fuel → IrreducibleDivisor p n t
      by_divisor (no s) smaller = (m, d, l, wd, h, s)
      by_divisor (yes (zero, pos, k, c, wc, g)) smaller = absurd (omega arith)
      by_divisor (yes (suc i, pos, k, c, wc, g)) smaller =
          let e = words_length wd in
          smaller i c (omega arith) (omega arith) wc (divides_transitive big wc d t g h)

  pub irreducible_divisor : Words p (suc n) t → IrreducibleDivisor p n t
  irreducible_divisor wt = descend n n t (le_refl n) (le_refl n) wt (divides_itself big wt)
