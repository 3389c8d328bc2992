-- The ring of residues modulo T on lists, and polynomials modulo T: f modulo T is f(x), x the residue of X. Reduction preserves sums and
-- products, takes a residue to itself and T to 0.
--   reduce f   the polynomial f modulo T
use mathlib.Core.Path.{◌≡◌, refl, sym, ap, ◌∙◌}
use mathlib.Core.List.{List, [], ◌∷◌}
use Prim.Native.Nat.{ℕ, suc, ◌-◌, ◌≤◌}
use lib.ListN.{replicate}
use Rattle.algebra.specs.Ring.{numeral}
use Rattle.algebra.proofs.RingLaws.{numeral-one, mul-zero}
use Rattle.array.specs.Words.{Words}
use Rattle.quotient.specs.Residue.{Residue, sum, scale, constant, product, residue_of_x, modulus_at}
use Rattle.quotient.specs.Divisor.{Same, polynomial_product, monic}
use Rattle.quotient.proofs.Evaluation.{evaluate, evaluate-nil, evaluate-cons, evaluate-sum, evaluate-scale, evaluate_product, evaluate_same, repeated_is}
use Rattle.quotient.proofs.Ring.{residue_ring, residue_module, one_residue, zero_residue, constant_residue, add_residue, mul_residue, act_one, repeated-scale, x_residue, numeral_vanishes, modulus_vanishes}
use Rattle.quotient.proofs.Operations.{residue_path, constant-zero}
use Rattle.quotient.proofs.Substitution.{modulus_at_is, evaluate_x}

module _ {p n : ℕ} {t : List ℕ} (big : 2 ≤ p) (wt : Words p n t) where
  open residue_ring big wt use {zero as 𝟎, one as 𝟏, add as ◌⊕◌, neg as ⊖◌, mul as ◌⊗◌}

  infixl 60 ◌⊕◌
  infixl 70 ◌⊗◌
  infix 80 ⊖◌
  pub zero_is : 𝟎.0 ≡ constant n 0
  unfolding residue_ring zero_residue constant_residue
  zero_is = refl

  pub one_is : 𝟏.0 ≡ constant n 1
  unfolding residue_ring one_residue constant_residue
  one_is = refl

  pub add_is : (u v : Residue p n) → (u ⊕ v).0 ≡ sum p u.0 v.0
  unfolding residue_ring add_residue
  add_is u v = refl

  pub neg_is : (u : Residue p n) → (⊖ u).0 ≡ scale p (p - 1) u.0
  unfolding residue_ring residue_module
  neg_is u = refl

  pub mul_is : (u v : Residue p n) → (u ⊗ v).0 ≡ product p t u.0 v.0
  unfolding residue_ring mul_residue
  mul_is u v = refl

  pub zero_of_zeros : (u : Residue p n) → u.0 ≡ replicate n 0 → u ≡ 𝟎
  zero_of_zeros u h = residue_path (h ∙ sym (constant-zero n) ∙ sym zero_is)

  pub scale_is : (c : ℕ) (u : Residue p n) → (numeral (residue_ring big wt) c ⊗ u).0 ≡ scale p c u.0
  unfolding residue_ring
  scale_is c u = ap (λ v. v.0) (sym (repeated_is (residue_ring big wt) c u)) ∙ repeated-scale big c u

  -- p·1 = 0
  pub characteristic : numeral (residue_ring big wt) p ≡ 𝟎
  unfolding residue_ring
  characteristic = numeral_vanishes big wt

  unfoldable pub reduce : List ℕ → Residue p n
  reduce f = evaluate (residue_ring big wt) f (x_residue big wt)

  pub reduce-sum : (f g : List ℕ) → reduce (sum p f g) ≡ reduce f ⊕ reduce g
  unfolding reduce
  reduce-sum f g = evaluate-sum (residue_ring big wt) p characteristic (x_residue big wt) f g

  pub reduce-scale : (c : ℕ) (f : List ℕ) → reduce (scale p c f) ≡ numeral (residue_ring big wt) c ⊗ reduce f
  unfolding reduce
  reduce-scale c f = evaluate-scale (residue_ring big wt) p characteristic (x_residue big wt) c f

  pub reduce_product : (f g : List ℕ) → reduce (polynomial_product p f g) ≡ reduce f ⊗ reduce g
  unfolding reduce
  reduce_product f g = evaluate_product (residue_ring big wt) p characteristic (x_residue big wt) f g

  pub reduce_same : (f g : List ℕ) → Same p f g → reduce f ≡ reduce g
  unfolding reduce
  reduce_same f g h = evaluate_same (residue_ring big wt) p characteristic (x_residue big wt) f g h

  pub reduce-one : reduce (1 ∷ []) ≡ 𝟏
  unfolding reduce
  reduce-one = simp (evaluate-cons, evaluate-nil, numeral-one, mul-zero, (residue_ring big wt).add-zero)

  -- a residue is its own remainder
  pub reduce_residue : (u : Residue p n) → reduce u.0 ≡ u
  unfolding reduce
  reduce_residue u = evaluate_x big wt u.0 ∙ act_one big wt u

  -- M modulo T is M(x)
  pub reduce-monic : (m : List ℕ) → (reduce (monic m)).0 ≡ modulus_at p t (residue_of_x p t) m
  unfolding reduce x_residue
  reduce-monic m = sym (modulus_at_is big wt (x_residue big wt) m)

pub reduce_modulus : {p n : ℕ} {t : List ℕ} (big : 2 ≤ p) (wt : Words p (suc n) t) → reduce big wt (monic t) ≡ (residue_ring big wt).zero
unfolding reduce residue_ring
reduce_modulus {t = t} big wt = evaluate_x big wt (monic t) ∙ modulus_vanishes big wt (one_residue big)
