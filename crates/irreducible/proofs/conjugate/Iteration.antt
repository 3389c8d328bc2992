-- The matrix of u ↦ u^p takes X^(p^i) to X^(p^(i + 1)).
use mathlib.Core.Path.{◌≡◌, sym, ap, ap₂, ◌∙◌}
use mathlib.Core.List.{List}
use Prim.Native.Nat.{ℕ, ◌+◌, ◌-◌, ◌≤◌}
use native.Mathlib.Omega.{arith}
use lib.ListN.{take}
use Rattle.algebra.specs.Prime.{Prime}
use Rattle.array.specs.Array.{padded, Holds}
use Rattle.array.specs.Words.{Words}
use Rattle.array.proofs.Padded.{front_is, holds_is}
use Rattle.matrix.specs.Matrix.{Frobenius, matrix_product}
use Rattle.matrix.proofs.FrobeniusMatrix.{conjugate_holds, conjugate_next}
use Rattle.quotient.specs.Residue.{sum, scale, residue_of_x}
use Rattle.quotient.proofs.Conjugates.{conjugate_words, conjugate-zero}
use Rattle.quotient.proofs.Operations.{residue_of_x_words}
use Rattle.irreducible.specs.Rabin.{conjugate_of_x, difference}

module _ (p n : ℕ) (t : List ℕ) (prime : Prime p) (ht : Holds p n t) where
  abbrev T : List ℕ
  T = take n t

  x_words : Words p n (residue_of_x p T)
  x_words = residue_of_x_words prime.0 ht.words

  pub x_holds : (x : List ℕ) → x ≡ padded (residue_of_x p T) → Holds p n x
  x_holds x e = holds_is e x_words

  pub conjugate_starts : (x : List ℕ) → x ≡ padded (residue_of_x p T) → x ≡ padded (conjugate_of_x p T 0)
  conjugate_starts x e = e ∙ ap padded (sym (conjugate-zero prime.0 ht.words x_words))

  module _ (k : ℕ) (u : List ℕ) (e : u ≡ padded (conjugate_of_x p T k)) where
    pub conjugate_of_x_holds : Holds p n u
    conjugate_of_x_holds = conjugate_holds p n t (residue_of_x p T) prime ht x_words k u e

    pub conjugate_of_x_next : (m w : List ℕ) → Frobenius p n T m → w ≡ padded (matrix_product p n m (take n u)) → w ≡ padded (conjugate_of_x p T (k + 1))
    conjugate_of_x_next m w h f = conjugate_next p n t (residue_of_x p T) prime ht x_words k u e m w h f

    pub conjugate_done : (i : ℕ) → k ≤ i → i ≤ k → u ≡ padded (conjugate_of_x p T i)
    conjugate_done i l l' = let same : k ≡ i = omega arith in e ∙ ap (λ j. padded (conjugate_of_x p T j)) same

pub difference_made : (p n : ℕ) (t : List ℕ) → Prime p → Holds p n t → (k : ℕ) (u x w : List ℕ) → u ≡ padded (conjugate_of_x p (take n t) k) → x ≡ padded (residue_of_x p (take n t))
    → w ≡ padded (sum p (take n u) (scale p (p - 1) (take n x))) → w ≡ padded (difference p (take n t) k)
unfolding difference
difference_made p n t prime ht k u x w e f g =
    g ∙ ap padded (ap₂ (λ a b. sum p a (scale p (p - 1) b)) (front_is e (conjugate_words prime.0 ht.words (residue_of_x_words prime.0 ht.words) k)) (front_is f (residue_of_x_words prime.0 ht.words)))
