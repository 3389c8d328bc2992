-- A model, two models of one size, and a pair for them (document 01, "Models and residues"): what 1 to 4 do not refuse.
--   Model p n t        p is a prime up to 1,048,575, n is 1 to 16, and t is n words below p
--   Models p n t1 t2   p is a prime up to 1,048,575, n is 1 to 16, and t1 and t2 are n words below p each
--   Given p n t1 t2 s r    also s and r are n words below p each
use Rattle.std.specs.Prelude.{List, ℕ, ◌≤◌}
use Rattle.algebra.specs.Prime.{Prime}
use Rattle.array.specs.Words.{Words}
use Rattle.modular.specs.Prime.{largest_prime}
use Rattle.refusal.specs.Refusal.{largest_degree}

pub record Model (p n : ℕ) (t : List ℕ) : Type 0 where
  pub prime : Prime p
  pub small : p ≤ largest_prime
  pub degree : (1 ≤ n) × (n ≤ largest_degree)
  pub modulus : Words p n t

pub record Models (p n : ℕ) (t1 t2 : List ℕ) : Type 0 where
  pub prime : Prime p
  pub small : p ≤ largest_prime
  pub degree : (1 ≤ n) × (n ≤ largest_degree)
  pub modulus1 : Words p n t1
  pub modulus2 : Words p n t2

pub record Given (p n : ℕ) (t1 t2 s r : List ℕ) : Type 0 where
  pub models : Models p n t1 t2
  pub words_s : Words p n s
  pub words_r : Words p n r
