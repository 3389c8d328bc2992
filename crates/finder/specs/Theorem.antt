-- Demand 3, whole. Of this crate read this file first; Finder.antt beside it has the finder's values, Theorem.antt of the crate pair the checker's half,
-- Residue.antt, Map.antt and Divisor.antt of the crate quotient the residues, the maps and the divisors, and Prime.antt of the crate
-- algebra the primes.
-- For every prime p up to 1,048,575, every n from 1 to 16 and all monic T1 and T2 of degree n:
-- (a) an accepted pair's two maps preserve sums, products and one, and each undoes the other on every residue;
-- (b) if n divides p − 1, or n = p^k with k ≥ 1, the finder, lent two lists of n words, returns a pair exactly when neither modulus has a monic divisor of
--     degree 1 to n − 1, refuses with 6 exactly when T1 has one, and with 7 exactly when T1 has none and T2 has one; the pair that it
--     returns is the one of Algorithm 2.1, and for n = p^k that of Algorithm 4.1, with the documents' choices, and the checker accepts it.
--   Models p n t1 t2 (of refusal)      p is a prime up to 1,048,575, n is 1 to 16, and t1 and t2 are n words below p each
--   Smallest P p k (of algebra)        k is the smallest integer from 1 to p − 1 that satisfies P
--   Alpha p n t z a u (of galois)      u is not zero, u^p = z·u and u^n = a modulo T, and of all such residues its first coefficient that is not zero is smallest
--   Rounds p n t k a u (of galois)     a and u are a and α after k rounds of Algorithm 4.1 in the model T, with constant coefficient 0 in every round
--   PowerOf p n (of galois)            n = p^k for some k ≥ 1
--   Findable p n (of Finder.antt)      n divides p − 1, or n = p^k with k ≥ 1
--   PairOf p n t1 t2 x y s r    S = P1(y) modulo T2 with P1(x) = X modulo T1, and R(S) = X modulo T2; P1 and R of degree below n
--   EigenvectorPair p n t1 t2 s r   n divides p − 1, and S and R are the polynomials of Algorithm 2.1 with the choices of document 01, normalised as document 02, S-6, says; c is 1,
--                                   so that S = P1(c·α2) is P1(α2)
--   TowerPair p n t1 t2 s r         n = p^k with k ≥ 1, and S and R are the polynomials of Algorithm 4.1, with the solution that document 02, S-7, chooses in every round
--   ChosenPair p n t1 t2 s r        one of the two
use Rattle.std.specs.Prelude.{◌≡◌, List, ◌↔◌, ◌⊎◌, ℕ, ◌-◌, ◌/◌, ◌%◌, ◌^◌, ◌≤◌, ◌<◌, length}
use Rattle.pair.specs.Pair.{check_number}
use Rattle.refusal.specs.Models.{Models}
use Rattle.pair.specs.Theorem.{Isomorphisms}
use Rattle.quotient.specs.Divisor.{HasDivisor}
use Rattle.array.specs.Words.{Words}
use Rattle.quotient.specs.Residue.{residue_of_x, substitute}
use Rattle.algebra.specs.Search.{Smallest}
use Rattle.galois.specs.Eigenvector.{Alpha}
use Rattle.galois.specs.Tower.{Rounds}
use Rattle.finder.specs.Finder.{Findable, find_number, find_output_s, find_output_r}

pub record PairOf (p n : ℕ) (t1 t2 x y s r : List ℕ) : Type 0 where
  pub p1 : List ℕ
  pub p1_is : Words p n p1 × (substitute p t1 x p1 ≡ residue_of_x p t1)
  pub s_is : s ≡ substitute p t2 y p1
  pub r_is : Words p n r × (substitute p t2 s r ≡ residue_of_x p t2)

pub record EigenvectorPair (p n : ℕ) (t1 t2 s r : List ℕ) : Type 0 where
  pub divides : (p - 1) % n ≡ 0
  pub z : ℕ
  pub a : ℕ
  pub alpha1 : List ℕ
  pub alpha2 : List ℕ
  pub z_is : Smallest (λ k. (k ^ n % p ≡ 1) × ((m : ℕ) → 1 ≤ m → m < n → k ^ m % p ≡ 1 → ⊥)) p z
  pub a_is : Smallest (λ k. k ^ ((p - 1) / n) % p ≡ z) p a
  pub alpha1_is : Alpha p n t1 z a alpha1
  pub alpha2_is : Alpha p n t2 z a alpha2
  pub pair_is : PairOf p n t1 t2 alpha1 alpha2 s r

pub record TowerPair (p n : ℕ) (t1 t2 s r : List ℕ) : Type 0 where
  pub k : ℕ
  pub a1 : List ℕ
  pub a2 : List ℕ
  pub alpha1 : List ℕ
  pub alpha2 : List ℕ
  pub k_is : (1 ≤ k) × (n ≡ p ^ k)
  pub alpha1_is : Rounds p n t1 k a1 alpha1
  pub alpha2_is : Rounds p n t2 k a2 alpha2
  pub pair_is : PairOf p n t1 t2 alpha1 alpha2 s r

abbrev pub ChosenPair : ℕ → ℕ → List ℕ → List ℕ → List ℕ → List ℕ → Type 0
ChosenPair p n t1 t2 s r = EigenvectorPair p n t1 t2 s r ⊎ TowerPair p n t1 t2 s r

pub record Demand3 (p n : ℕ) (t1 t2 : List ℕ) : Type 0 where
  pub accepted : (s r : List ℕ) → check_number p n t1 t2 s r ≡ 0 → Isomorphisms p n t1 t2 s r
  pub returns :
      Findable p n → (lent_s lent_r : List ℕ) → length lent_s ≡ n → length lent_r ≡ n
      → (find_number p n t1 t2 lent_s lent_r ≡ 0) ↔ ((HasDivisor p t1 → ⊥) × (HasDivisor p t2 → ⊥))
  pub six :
      Findable p n → (lent_s lent_r : List ℕ) → length lent_s ≡ n → length lent_r ≡ n
      → (find_number p n t1 t2 lent_s lent_r ≡ 6) ↔ HasDivisor p t1
  pub seven :
      Findable p n → (lent_s lent_r : List ℕ) → length lent_s ≡ n → length lent_r ≡ n
      → (find_number p n t1 t2 lent_s lent_r ≡ 7) ↔ ((HasDivisor p t1 → ⊥) × HasDivisor p t2)
  pub found :
      (lent_s lent_r : List ℕ) → find_number p n t1 t2 lent_s lent_r ≡ 0
      → ChosenPair p n t1 t2 (find_output_s p n t1 t2 lent_s lent_r) (find_output_r p n t1 t2 lent_s lent_r)
      × (check_number p n t1 t2 (find_output_s p n t1 t2 lent_s lent_r) (find_output_r p n t1 t2 lent_s lent_r) ≡ 0)
  pub only_one : (s r s' r' : List ℕ) → ChosenPair p n t1 t2 s r → ChosenPair p n t1 t2 s' r' → (s ≡ s') × (r ≡ r')

abbrev pub Demand3Theorem : Type 0
Demand3Theorem = (p n : ℕ) (t1 t2 : List ℕ) → Models p n t1 t2 → Demand3 p n t1 t2
