-- The finder's values (document 01, "The finder", with the normalisation of document 02, S-6, and the second method of S-7), each by search over what its sentence ranges
-- over, in the order of the documents. Those that are made of no other of these stand in Roots.antt of the crate roots (zeta, radicand) and in Eigenvector.antt, Tower.antt and
-- Express.antt of galois.
--   zeta p n             the smallest integer from 1 to p − 1 with ζ^n = 1 mod p and no ζ^m = 1 for 1 ≤ m < n
--   radicand p n z       a, the smallest integer from 1 to p − 1 with a^((p − 1)/n) = ζ mod p
--   alpha p n t z a      not zero, α^p = ζ·α and α^n = a modulo T; among its n scalings the one whose first coefficient that is not zero is smallest
--   exponent p n         the k ≥ 1 with n = p^k; 0 where there is none
--   rounds p n t k       a and α after k rounds of Algorithm 4.1, with constant coefficient 0 in every round
--   divides p n          whether n divides p − 1
--   generator p n t      α of the model T, which depends on p, n and T only: where n divides p − 1, the one of Algorithm 2.1, else that of Algorithm 4.1
--   express p t a        the polynomial P of degree below n with P(a) = X modulo T
--   find_s p n t1 t2     S = P1(c·α2) mod T2, with P1(α1) = X mod T1; c is 1
--   find_r p n t1 t2     the one polynomial R of degree below n with R(S) = X mod T2
--   Findable p n             what the finder takes: n divides p − 1, or n = p^k with k ≥ 1; findable is the same as a test
--   refuse_find p n t1 t2    what comes after 4 for the finder: 5 where n is not findable, 6 and 7 where T1 and T2 have a monic divisor of
--                            degree 1 to n − 1; 0 otherwise
--   find_number …            the finder's answer: 1 to 4, then these, or 0 where it returns the pair
--   find_output_s …, find_output_r …   what the lists lent for S and R hold after the call
use Rattle.std.specs.Prelude.{◌≡◌, Bool, true, false, not, ◌||◌, List, [], ◌∷◌, ◌⊎◌, ℕ, ◌-◌, ◌%◌, eqb}
use Rattle.refusal.specs.Refusal.{refuse, refuse_sent, written}
use Rattle.quotient.specs.DivisorTest.{has_divisor}
use Rattle.quotient.specs.Residue.{substitute}
use Rattle.roots.specs.Roots.{zeta, radicand}
use Rattle.galois.specs.Eigenvector.{alpha}
use Rattle.galois.specs.Tower.{PowerOf, exponent, rounds}
use Rattle.galois.specs.Express.{express}

unfoldable pub divides : ℕ → ℕ → Bool
divides p n = eqb ((p - 1) % n) 0

unfoldable pub generator : ℕ → ℕ → List ℕ → List ℕ
generator p n t = elim (divides p n) [ true ↦ alpha p n t (zeta p n) (radicand p n (zeta p n)) | false ↦ (rounds p n t (exponent p n)).1 ]

unfoldable pub find_s : ℕ → ℕ → List ℕ → List ℕ → List ℕ
find_s p n t1 t2 = substitute p t2 (generator p n t2) (express p t1 (generator p n t1))

unfoldable pub find_r : ℕ → ℕ → List ℕ → List ℕ → List ℕ
find_r p n t1 t2 = express p t2 (find_s p n t1 t2)

abbrev pub Findable : ℕ → ℕ → Type 0
Findable p n = ((p - 1) % n ≡ 0) ⊎ PowerOf p n

unfoldable pub findable : ℕ → ℕ → Bool
findable p n = divides p n || not (eqb (exponent p n) 0)

abbrev pub refuse_find : ℕ → ℕ → List ℕ → List ℕ → ℕ
refuse_find p n t1 t2 = refuse 5 (not (findable p n)) (refuse 6 (has_divisor p t1) (refuse 7 (has_divisor p t2) 0))

unfoldable pub find_number : ℕ → ℕ → List ℕ → List ℕ → List ℕ → List ℕ → ℕ
find_number p n t1 t2 lent_s lent_r = refuse_sent p n (t1 ∷ t2 ∷ lent_s ∷ lent_r ∷ []) (t1 ∷ t2 ∷ []) (refuse_find p n t1 t2)

unfoldable pub find_output_s : ℕ → ℕ → List ℕ → List ℕ → List ℕ → List ℕ → List ℕ
find_output_s p n t1 t2 lent_s lent_r = written (find_number p n t1 t2 lent_s lent_r) (find_s p n t1 t2) lent_s

unfoldable pub find_output_r : ℕ → ℕ → List ℕ → List ℕ → List ℕ → List ℕ → List ℕ
find_output_r p n t1 t2 lent_s lent_r = written (find_number p n t1 t2 lent_s lent_r) (find_r p n t1 t2) lent_r
