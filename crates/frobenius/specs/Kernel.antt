-- The eigenvector of the p-th power as the code finds it: in the kernel of u ↦ u^p − z·u.
--   Stretched p n z m u         u is not 0, and the matrix m takes it to z·u
--   TrivialKernel p n t z       only 0 satisfies u^p = z·u modulo T
--   Kernel p n t z v            the array v holds a residue that satisfies it and is not 0
--   Divided p n t v u b         the array u holds v divided by its first coefficient that is not
--                               zero, and its n-th power modulo T is the constant b
--   NoConstant p n t v          the n-th power of that quotient is no constant
--   EigenvectorFound p n t z v b   T has no monic divisor of degree 1 to n − 1, the array v holds
--                                  an eigenvector whose first coefficient that is not zero is 1,
--                                  and b is its n-th power
use Rattle.std.specs.Prelude.{◌≡◌, false, List, ℕ, ◌<◌, take}
use Rattle.array.specs.Array.{Holds}
use Rattle.modular.specs.Inverse.{inverse}
use Rattle.quotient.specs.DivisorTest.{has_divisor}
use Rattle.array.specs.Words.{Words}
use Rattle.quotient.specs.Residue.{scale, constant, power}
use Rattle.matrix.specs.Matrix.{matrix_product}
use Rattle.galois.specs.Eigenvector.{first_non_zero, Normalised}

pub record Stretched (p n z : ℕ) (m u : List ℕ) : Type 0 where
  pub not_zero : u ≡ constant n 0 → ⊥
  pub product_is : matrix_product p n m u ≡ scale p z u

abbrev pub TrivialKernel : ℕ → ℕ → List ℕ → ℕ → Type 0
TrivialKernel p n t z = (u : List ℕ) → Words p n u → power p t u p ≡ scale p z u → u ≡ constant n 0

pub record Kernel (p n : ℕ) (t : List ℕ) (z : ℕ) (v : List ℕ) : Type 0 where
  pub holds : Holds p n v
  pub not_zero : take n v ≡ constant n 0 → ⊥
  pub power_is : power p t (take n v) p ≡ scale p z (take n v)

pub record Divided (p n : ℕ) (t v u : List ℕ) (b : ℕ) : Type 0 where
  pub holds : Holds p n u
  pub below : b < p
  pub quotient_is : take n u ≡ scale p (inverse p (first_non_zero v)) v
  pub power_is : power p t (take n u) n ≡ constant n b

abbrev pub NoConstant : ℕ → ℕ → List ℕ → List ℕ → Type 0
NoConstant p n t v = (c : ℕ) → power p t (scale p (inverse p (first_non_zero v)) v) n ≡ constant n c → ⊥

pub record EigenvectorFound (p n : ℕ) (t : List ℕ) (z : ℕ) (v : List ℕ) (b : ℕ) : Type 0 where
  pub irreducible : has_divisor p t ≡ false
  pub holds : Holds p n v
  pub normalised : Normalised p n t z (take n v) b
