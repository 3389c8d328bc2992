-- Gauss's formula: m times the number of models of degree m without proper divisors, summed over the divisors m of n, is p^n. It counts the models of a size without a search; no call
-- rests on it.
--   divisors n        the numbers from 1 to n that divide n
--   degrees_of p ms   the sum of m·N(m) over the m of ms, where N(m) is the number of `models` of degree m modulo p
--   GaussFormula      for every prime p and every n ≥ 1 that sum over the divisors of n is p^n
use Rattle.std.specs.Prelude.{◌≡◌, List, [], ◌∷◌, ℕ, suc, ◌+◌, ◌*◌, ◌%◌, ◌^◌, eqb, length}
use Rattle.algebra.specs.Lists.{filter, range}
use Rattle.algebra.specs.Prime.{Prime}
use Rattle.catalogue.specs.Catalogue.{models}

unfoldable pub divisors : ℕ → List ℕ
divisors n = filter (λ m. eqb (n % m) 0) (range 1 n)

unfoldable pub degrees_of : ℕ → List ℕ → ℕ
degrees_of p [] = 0
degrees_of p (m ∷ ms) = m * length (models p m) + degrees_of p ms

abbrev pub GaussFormula : Type 0
GaussFormula = (p n : ℕ) → Prime p → degrees_of p (divisors (suc n)) ≡ p ^ suc n
