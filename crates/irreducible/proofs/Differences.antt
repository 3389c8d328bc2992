-- The differences X^(p^k) − X: on lists, and in the ring of residues.
use mathlib.Core.Path.{◌≡◌, sym, ap₂, ◌∙◌}
use mathlib.Core.List.{List}
use Prim.Native.Nat.{ℕ, ◌-◌, ◌^◌, ◌≤◌}
use Rattle.algebra.specs.Ring.{CommutativeRing}
use Rattle.algebra.specs.Ring as Ring
use Rattle.array.specs.Words.{Words}
use Rattle.quotient.specs.Residue.{Residue, sum}
use Rattle.quotient.proofs.Conjugates.{conjugate_is, conjugate_words}
use Rattle.quotient.proofs.Operations.{residue_of_x_words, scale_words, sum_words}
use Rattle.quotient.proofs.Reduction.{add_is, neg_is}
use Rattle.quotient.proofs.Ring.{residue_ring, x_residue}
use Rattle.irreducible.specs.Rabin.{conjugate_of_x, difference}

module _ {p n : ℕ} {t : List ℕ} (big : 2 ≤ p) (wt : Words p n t) where
  abbrev K : CommutativeRing (Residue p n)
  K = residue_ring big wt

  abbrev x : Residue p n
  x = x_residue big wt

  pub conjugate_of_x_is : (k : ℕ) → conjugate_of_x p t k ≡ (Ring.power K x (p ^ k)).0
  unfolding x_residue
  conjugate_of_x_is k = conjugate_is big wt x k

  pub difference_is : (k : ℕ) → difference p t k ≡ (K.add (Ring.power K x (p ^ k)) (K.neg x)).0
  unfolding difference x_residue
  difference_is k = ap₂ (sum p) (conjugate_of_x_is k) (sym (neg_is big wt x)) ∙ sym (add_is big wt (Ring.power K x (p ^ k)) (K.neg x))

  pub difference_words : (k : ℕ) → Words p n (difference p t k)
  unfolding difference
  difference_words k = sum_words (conjugate_words big wt (residue_of_x_words big wt) k) (scale_words (p - 1) (residue_of_x_words big wt))
