-- Eigenvectors of the p-th power on the residues modulo T, and which of them is α (document 01, "The finder"; document 02, S-6).
--   first_non_zero u         the first coefficient that is not zero, counted from the constant; 0 where there is none
--   Eigenvector p n t z u    u is a residue of n words, not zero, and u^p = z·u modulo T
--   scalings p n t z a       the residues u that are not zero and satisfy u^p = z·u and u^n = a modulo T
--   alpha p n t z a          α: among these the one whose first coefficient that is not zero is smallest
--   Alpha p n t z a u        the same as a statement: u is such a residue, and no other has a smaller first coefficient that is not zero
-- What the contracts on eigenvectors cite:
--   Normalised p n t z v b   v is an eigenvector, its first coefficient that is not zero is 1, and v^n = b modulo T
use Rattle.std.specs.Prelude.{◌≡◌, true, false, ◌&&◌, not, List, [], ◌∷◌, ℕ, ◌≤◌, eqb, leb}
use Rattle.algebra.specs.Lists.{all, equal, filter, first}
use Rattle.array.specs.Words.{Words}
use Rattle.quotient.specs.Residue.{residues, scale, constant, power}

unfoldable pub first_non_zero : List ℕ → ℕ
first_non_zero [] = 0
first_non_zero (a ∷ u) = elim (eqb a 0) [ true ↦ first_non_zero u | false ↦ a ]

unfoldable pub scalings : ℕ → ℕ → List ℕ → ℕ → ℕ → List (List ℕ)
scalings p n t z a =
    filter (λ u. not (equal u (constant n 0)) && equal (power p t u p) (scale p z u) && equal (power p t u n) (constant n a)) (residues p n)

unfoldable pub alpha : ℕ → ℕ → List ℕ → ℕ → ℕ → List ℕ
alpha p n t z a = first (λ u. all (λ v. leb (first_non_zero u) (first_non_zero v)) (scalings p n t z a)) (constant n 0) (scalings p n t z a)

pub record Eigenvector (p n : ℕ) (t : List ℕ) (z : ℕ) (u : List ℕ) : Type 0 where
  pub words : Words p n u
  pub not_zero : u ≡ constant n 0 → ⊥
  pub power_is : power p t u p ≡ scale p z u

pub record Alpha (p n : ℕ) (t : List ℕ) (z a : ℕ) (u : List ℕ) : Type 0 where
  pub eigenvector : Eigenvector p n t z u
  pub root_is : power p t u n ≡ constant n a
  pub smallest : (v : List ℕ) → Eigenvector p n t z v → power p t v n ≡ constant n a → first_non_zero u ≤ first_non_zero v

pub record Normalised (p n : ℕ) (t : List ℕ) (z : ℕ) (v : List ℕ) (b : ℕ) : Type 0 where
  pub eigenvector : Eigenvector p n t z v
  pub first_non_zero_is : first_non_zero v ≡ 1
  pub power_is : power p t v n ≡ constant n b
