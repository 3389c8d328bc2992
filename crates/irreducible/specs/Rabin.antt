-- Rabin's criterion: when a modulus T of degree n has no monic divisor of degree 1 to n − 1. It is a theorem; no contract of a public call rests on its words.
--   conjugate_of_x p t k   X^(p^k) modulo T
--   difference p t k       X^(p^k) − X modulo T
--   Passes p n t q         if q divides n, X^(p^(n/q)) − X has an inverse modulo T
--   Rabin p t              X^(p^n) = X modulo T, and for each prime q that divides n, X^(p^(n/q)) − X has an inverse modulo T
--   RabinsCriterion        for every prime p, every n ≥ 1 and every monic T of degree n: T has no such divisor exactly when it satisfies Rabin's conditions
use Rattle.std.specs.Prelude.{◌≡◌, List, ◌↔◌, ℕ, suc, ◌-◌, ◌/◌, ◌%◌, length}
use Rattle.algebra.specs.Prime.{Prime}
use Rattle.array.specs.Words.{Words}
use Rattle.quotient.specs.Divisor.{HasDivisor}
use Rattle.quotient.specs.Residue.{sum, scale, conjugate, residue_of_x, HasInverse}

abbrev pub conjugate_of_x : ℕ → List ℕ → ℕ → List ℕ
conjugate_of_x p t k = conjugate p t (residue_of_x p t) k

unfoldable pub difference : ℕ → List ℕ → ℕ → List ℕ
difference p t k = sum p (conjugate_of_x p t k) (scale p (p - 1) (residue_of_x p t))

unfoldable pub Passes : ℕ → ℕ → List ℕ → ℕ → Type 0
Passes p n t q = n % q ≡ 0 → HasInverse p t (difference p t (n / q))

pub record Rabin (p : ℕ) (t : List ℕ) : Type 0 where
  pub fixed : conjugate_of_x p t (length t) ≡ residue_of_x p t
  pub inverses : (q : ℕ) → Prime q → Passes p (length t) t q

abbrev pub RabinsCriterion : Type 0
RabinsCriterion = (p n : ℕ) (t : List ℕ) → Prime p → Words p (suc n) t → (HasDivisor p t → ⊥) ↔ Rabin p t
