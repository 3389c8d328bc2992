-- Maps between residues modulo T1 and residues modulo T2 (document 01, "The pair and its checker").
--   Preserves p t1 t2 f   f takes residues modulo T1 to residues modulo T2 and preserves sums, products and one; each sum and product is the
--                         one of the model that it stands in
--   Undoes p n g f        g after f gives back every residue
use Rattle.std.specs.Prelude.{◌≡◌, List, ℕ, length}
use Rattle.array.specs.Words.{Words}
use Rattle.quotient.specs.Residue.{sum, constant, product}

pub record Preserves (p : ℕ) (t1 t2 : List ℕ) (f : List ℕ → List ℕ) : Type 0 where
  pub residues : (u : List ℕ) → Words p (length t1) u → Words p (length t2) (f u)
  pub sums : (u v : List ℕ) → Words p (length t1) u → Words p (length t1) v → f (sum p u v) ≡ sum p (f u) (f v)
  pub products : (u v : List ℕ) → Words p (length t1) u → Words p (length t1) v → f (product p t1 u v) ≡ product p t2 (f u) (f v)
  pub one : f (constant (length t1) 1) ≡ constant (length t2) 1

abbrev pub Undoes : ℕ → ℕ → (List ℕ → List ℕ) → (List ℕ → List ℕ) → Type 0
Undoes p n g f = (u : List ℕ) → Words p n u → g (f u) ≡ u
