-- The rounds of Algorithm 4.1 on arrays.
--   Reached p n t j a v              the arrays a and v hold a and α after j rounds
--   GeneratorFound p n t k v   T has no monic divisor of degree 1 to n − 1, and the array v holds
--                              α after k rounds
use Rattle.std.specs.Prelude.{◌≡◌, false, List, ℕ, take}
use Rattle.array.specs.Array.{padded, Holds}
use Rattle.quotient.specs.DivisorTest.{has_divisor}
use Rattle.galois.specs.Tower.{rounds, Rounds}

pub record Reached (p n : ℕ) (t : List ℕ) (j : ℕ) (a v : List ℕ) : Type 0 where
  pub a_holds : Holds p n a
  pub v_holds : Holds p n v
  pub after : Rounds p n t j (take n a) (take n v)

pub record GeneratorFound (p n : ℕ) (t : List ℕ) (k : ℕ) (v : List ℕ) : Type 0 where
  pub irreducible : has_divisor p t ≡ false
  pub alpha_is : v ≡ padded (rounds p n t k).1
