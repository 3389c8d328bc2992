-- The pair and its checker (document 01, "The pair and its checker"). S and R are lists of n words, each below p.
--   forward p t2 s u               the forward map sends u to u(S) mod T2
--   backward p t1 r u              the backward map sends u to u(R) mod T1
--   Congruences p t1 t2 s r        T1(S) = 0 mod T2, T2(R) = 0 mod T1, S(R) = X mod T1, R(S) = X mod T2
--   congruences_hold p t1 t2 s r   the same four as a test
--   refuse_pair p t1 t2 s r        what comes after 4 for a pair (request S-3: "Use 6 and 7, between 4 and 8"): 6 where T1 has a monic divisor of degree
--                                  1 to n − 1, 7 where T2 has one, 8 where a congruence fails, else 0
--   check_number p n t1 t2 s r     the checker's answer: 1, 2, 3, 4, 6, 7, 8, or 0 where it accepts
--   check_number_or b p n t1 t2 s r   the same where 3 also covers b: an output list has not its exact length
use Rattle.std.specs.Prelude.{◌≡◌, Bool, false, ◌&&◌, not, List, [], ◌∷◌, ℕ, length}
use Rattle.algebra.specs.Lists.{equal}
use Rattle.refusal.specs.Refusal.{refuse, refuse_sent_or}
use Rattle.quotient.specs.DivisorTest.{has_divisor}
use Rattle.quotient.specs.Residue.{constant, residue_of_x, substitute, modulus_at}

unfoldable pub forward : ℕ → List ℕ → List ℕ → List ℕ → List ℕ
forward p t2 s u = substitute p t2 s u

unfoldable pub backward : ℕ → List ℕ → List ℕ → List ℕ → List ℕ
backward p t1 r u = substitute p t1 r u

pub record Congruences (p : ℕ) (t1 t2 s r : List ℕ) : Type 0 where
  pub root_of_t1 : modulus_at p t2 s t1 ≡ constant (length t2) 0
  pub root_of_t2 : modulus_at p t1 r t2 ≡ constant (length t1) 0
  pub s_of_r : substitute p t1 r s ≡ residue_of_x p t1
  pub r_of_s : substitute p t2 s r ≡ residue_of_x p t2

unfoldable pub congruences_hold : ℕ → List ℕ → List ℕ → List ℕ → List ℕ → Bool
congruences_hold p t1 t2 s r =
    equal (modulus_at p t2 s t1) (constant (length t2) 0)
    && equal (modulus_at p t1 r t2) (constant (length t1) 0)
    && equal (substitute p t1 r s) (residue_of_x p t1)
    && equal (substitute p t2 s r) (residue_of_x p t2)

abbrev pub refuse_pair : ℕ → List ℕ → List ℕ → List ℕ → List ℕ → ℕ
refuse_pair p t1 t2 s r = refuse 6 (has_divisor p t1) (refuse 7 (has_divisor p t2) (refuse 8 (not (congruences_hold p t1 t2 s r)) 0))

unfoldable pub check_number_or : Bool → ℕ → ℕ → List ℕ → List ℕ → List ℕ → List ℕ → ℕ
check_number_or b p n t1 t2 s r = refuse_sent_or b p n (t1 ∷ t2 ∷ s ∷ r ∷ []) (t1 ∷ t2 ∷ s ∷ r ∷ []) (refuse_pair p t1 t2 s r)

abbrev pub check_number : ℕ → ℕ → List ℕ → List ℕ → List ℕ → List ℕ → ℕ
check_number p n t1 t2 s r = check_number_or false p n t1 t2 s r
