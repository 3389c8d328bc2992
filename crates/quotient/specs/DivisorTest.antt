-- The test for divisors: whether T has a monic divisor of degree 1 to n − 1, by trying every monic D of such a degree.
--   divides_test p d t   whether the monic polynomial of d divides that of t: its remainder, the value of T at X modulo D, is 0
--   has_divisor p t      whether T has a divisor of degree 1 to n − 1: not every D of such a degree leaves a remainder
--   DivisorTestIsExact   it has one exactly when the test says so
use Rattle.std.specs.Prelude.{◌≡◌, Bool, true, not, List, ◌↔◌, ℕ, ◌-◌, ◌≤◌, eqb, length}
use Rattle.algebra.specs.Lists.{all, range}
use Rattle.array.specs.Words.{Words}
use Rattle.quotient.specs.Residue.{residues, residue_of_x, modulus_at}
use Rattle.quotient.specs.Divisor.{HasDivisor}

unfoldable pub divides_test : ℕ → List ℕ → List ℕ → Bool
divides_test p d t = all (λ a. eqb a 0) (modulus_at p d (residue_of_x p d) t)

unfoldable pub has_divisor : ℕ → List ℕ → Bool
has_divisor p t = not (all (λ m. all (λ d. not (divides_test p d t)) (residues p m)) (range 1 (length t - 1)))

abbrev pub DivisorTestIsExact : Type 0
DivisorTestIsExact = (p n : ℕ) (t : List ℕ) → 2 ≤ p → Words p n t → (has_divisor p t ≡ true) ↔ HasDivisor p t
