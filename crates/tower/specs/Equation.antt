-- The equation v^p = v + a modulo T as a linear system.
--   without_constant u      u with 0 in place of its constant coefficient
--   Differences p n t c     c is the matrix of u ↦ u^p − u on the residues modulo T, made from that of u ↦ u^p
--   Solved p n t a v        the array v holds the solution with constant coefficient 0
--   Unsolved p n t a        where there is such a solution, T has a monic divisor of degree 1 to
--                           n − 1
use Rattle.std.specs.Prelude.{◌≡◌, true, List, [], ◌∷◌, ℕ, take}
use Rattle.array.specs.Array.{Holds}
use Rattle.quotient.specs.DivisorTest.{has_divisor}
use Rattle.matrix.specs.Matrix.{Frobenius}
use Rattle.galois.specs.Tower.{ArtinSchreier}
use Rattle.scalar.specs.Shifted.{Shifted}

unfoldable pub without_constant : List ℕ → List ℕ
without_constant [] = []
without_constant (a ∷ u) = 0 ∷ u

pub record Differences (p n : ℕ) (t c : List ℕ) : Type 0 where
  pub m : List ℕ
  pub frobenius : Frobenius p n t m
  pub shifted : Shifted p n 1 m c

pub record Solved (p n : ℕ) (t a v : List ℕ) : Type 0 where
  pub holds : Holds p n v
  pub solution : ArtinSchreier p n t a (take n v)

abbrev pub Unsolved : ℕ → ℕ → List ℕ → List ℕ → Type 0
Unsolved p n t a = (w : List ℕ) → ArtinSchreier p n t a w → has_divisor p t ≡ true
