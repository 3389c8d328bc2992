-- The pair from α1 and α2, and the finder's answer, on arrays.
--   Size p n                         p is a prime up to 2^20, n is 1 to 16, and the finder takes them
--   Choices p n t1 t2 x y            neither modulus has a monic divisor of degree 1 to n − 1, and x and y are α1 and α2
--   FoundPair p n t1 t2 number s r   this number; where it is 0, s and r are S and R
use Rattle.std.specs.Prelude.{◌≡◌, false, List, ℕ, ◌^◌, ◌≤◌}
use Rattle.algebra.specs.Prime.{Prime}
use Rattle.quotient.specs.DivisorTest.{has_divisor}
use Rattle.array.specs.Array.{padded}
use Rattle.finder.specs.Finder.{Findable, generator, find_s, find_r, refuse_find}

pub record Size (p n : ℕ) : Type 0 where
  pub prime : Prime p
  pub small : p ≤ 2 ^ 20
  pub low : 1 ≤ n
  pub high : n ≤ 16
  pub findable : Findable p n

pub record Choices (p n : ℕ) (t1 t2 x y : List ℕ) : Type 0 where
  pub irreducible1 : has_divisor p t1 ≡ false
  pub irreducible2 : has_divisor p t2 ≡ false
  pub alpha1_is : x ≡ padded (generator p n t1)
  pub alpha2_is : y ≡ padded (generator p n t2)

pub record FoundPair (p n : ℕ) (t1 t2 : List ℕ) (number : ℕ) (s r : List ℕ) : Type 0 where
  pub number_is : number ≡ refuse_find p n t1 t2
  pub forward_is : number ≡ 0 → s ≡ padded (find_s p n t1 t2)
  pub backward_is : number ≡ 0 → r ≡ padded (find_r p n t1 t2)
