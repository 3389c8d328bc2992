-- What is proved of residues: for every p ≥ 2 (a prime where it says so), every n ≥ 1 and every monic T of degree n, given by its n
-- lower words t. Each statement is a type here, and proofs/Theorem.antt has its proof.
--   ResiduesAreARing        sum and product make the residues a commutative ring
--   ModulusVanishes         T(X) = 0 modulo T
--   ProductIsRemainder      u·v modulo T is the remainder of the polynomial u·v on division by T, and there is only one remainder
--   SubstitutionIsSum       u(S) modulo T is the sum of the u_i·S^i, the powers by repeated product
--   SubstitutionPreserves   if T1(S) = 0 modulo T2, then u ↦ u(S) modulo T2 preserves sums, products and one
--   ResiduesAreListed       the list of all residues has each of them, in ascending order, none twice, p^n in all
--   FieldExactly            p prime: every residue but 0 has an inverse exactly when T has no divisor of degree 1 to n − 1
--   PowerOfUnit             for such T, u^(p^n − 1) = 1 for every residue u but 0
--   IrreducibleDivisor      p prime: T has a monic divisor of degree 1 to n that has itself no divisor of lower degree but constants
--   FrobeniusIsLinear       p prime: (u + v)^p = u^p + v^p and (c·u)^p = c·u^p
use Rattle.std.specs.Prelude.{◌≡◌, List, [], ◌∷◌, ◌↔◌, ℕ, suc, ◌-◌, ◌^◌, ◌≤◌, ◌<◌, length}
use Rattle.algebra.specs.Lists.{Member, Distinct}
use Rattle.algebra.specs.Prime.{Prime}
use Rattle.algebra.specs.Ring.{CommutativeRing}
use Rattle.quotient.specs.Divisor.{Divides, HasDivisor, Remainder, polynomial_product}
use Rattle.quotient.specs.Map.{Preserves}
use Rattle.array.specs.Ascending.{Ascending}
use Rattle.array.specs.Words.{Words}
use Rattle.quotient.specs.Residue.{Residue, residues, sum, scale, constant, product, power, residue_of_x, substitute, modulus_at, Inverses}

pub record RingOfResidues (p n : ℕ) (t : List ℕ) : Type 0 where
  pub ring : CommutativeRing (Residue p n)
  pub zero_is : ring.zero.0 ≡ constant n 0
  pub one_is : ring.one.0 ≡ constant n 1
  pub add_is : (u v : Residue p n) → (ring.add u v).0 ≡ sum p u.0 v.0
  pub mul_is : (u v : Residue p n) → (ring.mul u v).0 ≡ product p t u.0 v.0

abbrev pub ResiduesAreARing : Type 0
ResiduesAreARing = (p n : ℕ) (t : List ℕ) → 2 ≤ p → Words p (suc n) t → RingOfResidues p (suc n) t

abbrev pub ModulusVanishes : Type 0
ModulusVanishes = (p n : ℕ) (t : List ℕ) → 2 ≤ p → Words p (suc n) t → modulus_at p t (residue_of_x p t) t ≡ constant (suc n) 0

abbrev pub ProductIsRemainder : Type 0
ProductIsRemainder =
    (p n : ℕ) (t u v : List ℕ) → 2 ≤ p → Words p (suc n) t → Words p (suc n) u → Words p (suc n) v
    → Remainder p t (polynomial_product p u v) (product p t u v)
    × ((r : List ℕ) → Remainder p t (polynomial_product p u v) r → r ≡ product p t u v)

-- u_0·S^k + u_1·S^(k + 1) + …
unfoldable pub sum_of_powers : ℕ → List ℕ → List ℕ → ℕ → List ℕ → List ℕ
sum_of_powers p t s k [] = constant (length t) 0
sum_of_powers p t s k (c ∷ u) = sum p (scale p c (power p t s k)) (sum_of_powers p t s (suc k) u)

abbrev pub SubstitutionIsSum : Type 0
SubstitutionIsSum =
    (p n : ℕ) (t s u : List ℕ) → 2 ≤ p → Words p (suc n) t → Words p (suc n) s → substitute p t s u ≡ sum_of_powers p t s 0 u

abbrev pub SubstitutionPreserves : Type 0
SubstitutionPreserves =
    (p m n : ℕ) (t1 t2 s : List ℕ) → 2 ≤ p → Words p (suc m) t1 → Words p (suc n) t2 → Words p (suc n) s
    → modulus_at p t2 s t1 ≡ constant (suc n) 0 → Preserves p t1 t2 (substitute p t2 s)

abbrev pub ResiduesAreListed : Type 0
ResiduesAreListed =
    (p n : ℕ) → Ascending (residues p n) × Distinct (residues p n) × (length (residues p n) ≡ p ^ n)
    × ((u : List ℕ) → Words p n u → Member u (residues p n)) × ((u : List ℕ) → Member u (residues p n) → Words p n u)

abbrev pub FieldExactly : Type 0
FieldExactly = (p n : ℕ) (t : List ℕ) → Prime p → Words p (suc n) t → Inverses p (suc n) t ↔ (HasDivisor p t → ⊥)

abbrev pub PowerOfUnit : Type 0
PowerOfUnit =
    (p n : ℕ) (t u : List ℕ) → Prime p → Words p (suc n) t → (HasDivisor p t → ⊥) → Words p (suc n) u → (u ≡ constant (suc n) 0 → ⊥)
    → power p t u (p ^ suc n - 1) ≡ constant (suc n) 1

abbrev pub IrreducibleDivisor : Type 0
IrreducibleDivisor =
    (p n : ℕ) (t : List ℕ) → Prime p → Words p (suc n) t
    → (m : ℕ) × (d : List ℕ) × (m ≤ n) × Words p (suc m) d × Divides p d t × (HasDivisor p d → ⊥)

abbrev pub FrobeniusIsLinear : Type 0
FrobeniusIsLinear =
    (p n c : ℕ) (t u v : List ℕ) → Prime p → c < p → Words p (suc n) t → Words p (suc n) u → Words p (suc n) v
    → (power p t (sum p u v) p ≡ sum p (power p t u p) (power p t v p)) × (power p t (scale p c u) p ≡ scale p c (power p t u p))
