-- Degrees 2 and 4 modulo 2 by hand, for request S-7, which lists none: X² + X + 1 to itself, X⁴ + X + 1 to X⁴ + X³ + 1, and a modulus that is a square. Lists are constant first.
--   TowerValues p n k t1 t2 a1 a2 alpha1 alpha2 s r   a and α of both models after k rounds, S and R, and that the finder returns them
use Rattle.std.specs.Prelude.{◌≡◌, List, [], ◌∷◌, ℕ, length}
use Rattle.array.specs.Words.{Words}
use Rattle.galois.specs.Tower.{rounds}
use Rattle.finder.specs.Finder.{find_s, find_r, find_number}

pub record TowerValues (p n k : ℕ) (t1 t2 a1 a2 alpha1 alpha2 s r : List ℕ) : Type 0 where
  pub first_is : ((rounds p n t1 k).0 ≡ a1) × ((rounds p n t1 k).1 ≡ alpha1)
  pub second_is : ((rounds p n t2 k).0 ≡ a2) × ((rounds p n t2 k).1 ≡ alpha2)
  pub s_is : find_s p n t1 t2 ≡ s
  pub r_is : find_r p n t1 t2 ≡ r
  pub number_is : (lent_s lent_r : List ℕ) → length lent_s ≡ n → length lent_r ≡ n → find_number p n t1 t2 lent_s lent_r ≡ 0

pub record TowerExamples : Type 0 where
  -- p 2, n 2, T1 and T2 [1,1]: a [1,0] and α [0,1] in both; S [0,1], R [0,1]
  pub two : TowerValues 2 2 1 (1 ∷ 1 ∷ []) (1 ∷ 1 ∷ []) (1 ∷ 0 ∷ []) (1 ∷ 0 ∷ []) (0 ∷ 1 ∷ []) (0 ∷ 1 ∷ []) (0 ∷ 1 ∷ []) (0 ∷ 1 ∷ [])
  -- p 2, n 4, T1 [1,1,0,0], T2 [1,0,0,1]: after two rounds a1 [0,1,1,0], α1 [0,1,0,0], a2 [0,1,0,1], α2 [0,0,1,1]; S [0,0,1,1], R [1,0,0,1]
  pub four :
      TowerValues 2 4 2 (1 ∷ 1 ∷ 0 ∷ 0 ∷ []) (1 ∷ 0 ∷ 0 ∷ 1 ∷ []) (0 ∷ 1 ∷ 1 ∷ 0 ∷ []) (0 ∷ 1 ∷ 0 ∷ 1 ∷ []) (0 ∷ 1 ∷ 0 ∷ 0 ∷ []) (0 ∷ 0 ∷ 1 ∷ 1 ∷ []) (0 ∷ 0 ∷ 1 ∷ 1 ∷ []) (1 ∷ 0 ∷ 0 ∷ 1 ∷ [])
  -- p 2, T1 [0,0], which is X²: 6, whatever T2
  pub square :
      (t2 lent_s lent_r : List ℕ) → Words 2 2 t2 → length lent_s ≡ 2 → length lent_r ≡ 2 → find_number 2 2 (0 ∷ 0 ∷ []) t2 lent_s lent_r ≡ 6
