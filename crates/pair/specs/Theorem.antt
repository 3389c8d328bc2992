-- The checker's half of demand 3: what the answer 0 of `check` means. Of this crate read this file first; every name in it is explained here, in Pair.antt
-- beside it, in Residue.antt, Map.antt and Divisor.antt of the crate quotient, in Words.antt of the crate array, in Models.antt of the crate refusal, or in
-- Prime.antt of the crate algebra. For every p, n and all lists: the answer is 0 exactly when p is a prime up to 1,048,575, n is 1 to 16, the four lists are n words below p, neither
-- modulus has a monic divisor of degree 1 to n − 1 and the four congruences hold; and then every residue but 0 has an inverse on both sides, the two maps
-- preserve sums, products and one on all residues, and each undoes the other.
--   Models p n t1 t2             (of refusal) p is a prime up to 1,048,575, n is 1 to 16, t1 and t2 are n words below p each
--   Given p n t1 t2 s r          (of refusal) also s and r are n words below p each: what 1 to 4 do not refuse
--   Fields p n t1 t2             neither modulus has a monic divisor of degree 1 to n − 1, and every residue but 0 has an inverse
--   Isomorphisms p n t1 t2 s r   both maps preserve sums, products and one, and each undoes the other
--   CheckerTheorem               what the answer 0 means
--   CongruencesTheorem           the four congruences alone, over any moduli and for any p ≥ 2 and n ≥ 1, make the two maps inverse isomorphisms of rings
--   DivisorsTogether             where they hold, T1 has a monic divisor of degree 1 to n − 1 exactly when T2 has one; so one test is enough
--   DegreeOne                    "With n = 1 the residue of X is the constant −t0 mod p"; so for T1 = X + a and T2 = X + b exactly S = −a, R = −b is accepted
use Rattle.std.specs.Prelude.{◌≡◌, true, List, [], ◌∷◌, ◌↔◌, ℕ, ◌-◌, ◌%◌, ◌≤◌, ◌<◌}
use Rattle.quotient.specs.Divisor.{HasDivisor}
use Rattle.quotient.specs.Map.{Preserves, Undoes}
use Rattle.array.specs.Words.{Words}
use Rattle.refusal.specs.Models.{Given}
use Rattle.pair.specs.Pair.{forward, backward, Congruences, congruences_hold, check_number}
use Rattle.quotient.specs.Residue.{residue_of_x, Inverses}

pub record Isomorphisms (p n : ℕ) (t1 t2 s r : List ℕ) : Type 0 where
  pub forward_preserves : Preserves p t1 t2 (forward p t2 s)
  pub backward_preserves : Preserves p t2 t1 (backward p t1 r)
  pub back_undoes_forth : Undoes p n (backward p t1 r) (forward p t2 s)
  pub forth_undoes_back : Undoes p n (forward p t2 s) (backward p t1 r)

pub record Fields (p n : ℕ) (t1 t2 : List ℕ) : Type 0 where
  pub no_divisor1 : HasDivisor p t1 → ⊥
  pub no_divisor2 : HasDivisor p t2 → ⊥
  pub inverses1 : Inverses p n t1
  pub inverses2 : Inverses p n t2

abbrev pub CheckerTheorem : Type 0
CheckerTheorem =
    (p n : ℕ) (t1 t2 s r : List ℕ)
    → (check_number p n t1 t2 s r ≡ 0 → Given p n t1 t2 s r × Fields p n t1 t2 × Congruences p t1 t2 s r × Isomorphisms p n t1 t2 s r)
    × (Given p n t1 t2 s r → (HasDivisor p t1 → ⊥) → (HasDivisor p t2 → ⊥) → Congruences p t1 t2 s r → check_number p n t1 t2 s r ≡ 0)

abbrev pub CongruencesTheorem : Type 0
CongruencesTheorem =
    (p n : ℕ) (t1 t2 s r : List ℕ) → 2 ≤ p → 1 ≤ n → Words p n t1 → Words p n t2 → Words p n s → Words p n r
    → Congruences p t1 t2 s r → Isomorphisms p n t1 t2 s r

abbrev pub DivisorsTogether : Type 0
DivisorsTogether =
    (p n : ℕ) (t1 t2 s r : List ℕ) → Given p n t1 t2 s r → Congruences p t1 t2 s r → HasDivisor p t1 ↔ HasDivisor p t2

abbrev pub DegreeOne : Type 0
DegreeOne =
    (p a b c d : ℕ) → 2 ≤ p → a < p → b < p → c < p → d < p
    → (residue_of_x p (a ∷ []) ≡ (p - a) % p ∷ [])
    × ((congruences_hold p (a ∷ []) (b ∷ []) (c ∷ []) (d ∷ []) ≡ true) ↔ ((c ≡ (p - a) % p) × (d ≡ (p - b) % p)))
