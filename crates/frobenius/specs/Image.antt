-- A polynomial in one residue taken to the same polynomial in another, on matrices of powers.
--   Expression p n t m r    let the columns of m be the powers of a1 modulo T, which are independent, whatever a1 is: then the array r holds the polynomial P of degree below n
--                           with P(a1) = X modulo T
--   Image p n t m1 m2 r   let the columns of m1 be the powers of a1 modulo T, which are independent, and those of m2 the powers of a2 modulo T2, whatever a1,
--                         a2 and T2 are: then the array r holds P(a2) modulo T2, where P is the polynomial of degree below n with P(a1) = X modulo T
use Rattle.std.specs.Prelude.{◌≡◌, List, ℕ, take}
use Rattle.array.specs.Array.{padded, Holds}
use Rattle.array.specs.Words.{Words}
use Rattle.quotient.specs.Residue.{substitute}
use Rattle.matrix.specs.Matrix.{Powers}
use Rattle.galois.specs.Express.{express, Independent}

pub record Expression (p n : ℕ) (t m r : List ℕ) : Type 0 where
  pub holds : Holds p n r
  pub expression_is : (a1 : List ℕ) → Words p n a1 → Powers p n t a1 m → Independent p n t a1 → take n r ≡ express p t a1

pub record Image (p n : ℕ) (t m1 m2 r : List ℕ) : Type 0 where
  pub image_is :
      (a1 t2 a2 : List ℕ) → Words p n a1 → Powers p n t a1 m1 → Independent p n t a1 → Words p n t2 → Words p n a2 → Powers p n t2 a2 m2
      → r ≡ padded (substitute p t2 a2 (express p t a1))
