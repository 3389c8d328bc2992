-- The residues modulo T are a commutative ring. X·u makes them a module over the polynomials, the product is the action, u·v = u(X)·v, and
-- u = u(X)·1. So the product is commutative because polynomials in X commute, and associative because u ↦ u·w is linear.
--   add_residue, mul_residue                      sum and product of residues
--   constant_residue, zero_residue, one_residue   the constants; 0 and 1
--   x_residue                                     X modulo T
--   residue_module                                the residues as a module, X acting as times_x
--   residue_ring                                  the residues as a commutative ring
use mathlib.Core.Path.{◌≡◌, refl, sym, ap, ap₂, subst, fun_ext, ◌∙◌}
use mathlib.Core.HLevel.{hedberg}
use mathlib.Core.List.{List, [], ◌∷◌, ◌++◌, append-nil}
use Prim.Native.Nat.{ℕ, zero, suc, ◌+◌, ◌-◌, ◌%◌, ◌<◌, ◌≤◌}
use native.Mathlib.Nat as Nat
use native.Mathlib.Omega.{arith}
use lib.ListN.{replicate}
use Rattle.algebra.specs.Ring.{CommutativeRing, numeral}
use Rattle.algebra.specs.Ring as Ring
use Rattle.array.specs.Words.{Words, none, more}
use Rattle.quotient.specs.Residue.{Residue, sum, scale, constant, top, times_x, product, power, residue_of_x}
use Rattle.quotient.specs.Divisor.{monic, polynomial_product}
use Rattle.quotient.specs.Theorem.{RingOfResidues}
use Rattle.quotient.proofs.Action.{PolynomialModule, repeated, multiple, multiple-one, add_cancel, Linear, linear_act, linear_zero, act, act-add, act_comm, act_linear, act_product}
use Rattle.quotient.proofs.Sums
use Rattle.quotient.proofs.TimesX
use Rattle.array.proofs.Words
use Rattle.quotient.proofs.Operations

module _ {p n : ℕ} where
  unfoldable pub add_residue : Residue p n → Residue p n → Residue p n
  add_residue u v = (sum p u.0 v.0, Operations.sum_words u.1 v.1)

  unfoldable pub constant_residue : (c : ℕ) → c < p → Residue p n
  constant_residue c h = (constant n c, Operations.constant_words n h)

  module _ (big : 2 ≤ p) where
    unfoldable pub zero_residue : Residue p n
    zero_residue = constant_residue 0 (Nat.le_of_suc-le big)

    unfoldable pub one_residue : Residue p n
    one_residue = constant_residue 1 big

    -- c·u is a repeated sum
    pub repeated-scale : (c : ℕ) (u : Residue p n) → (repeated zero_residue add_residue c u).0 ≡ scale p c u.0
    unfolding repeated zero_residue add_residue constant_residue
    repeated-scale zero u = sym (Sums.scale-zero u.1)
    repeated-scale (suc c) u = ap (sum p u.0) (repeated-scale c u) ∙ sym (Sums.scale-suc c u.1)

module _ {p n : ℕ} {t : List ℕ} (big : 2 ≤ p) (wt : Words p n t) where
  unfoldable pub residue_module : PolynomialModule p (Residue p n)
  unfolding add_residue zero_residue constant_residue
  residue_module = record {
    zero = zero_residue big;
    add = add_residue;
    neg = λ u. (scale p (p - 1) u.0, Operations.scale_words (p - 1) u.1);
    times_x = λ u. (times_x p t u.0, Operations.times_x_words big wt u.1);
    add_assoc = λ u v w. Operations.residue_path (Sums.sum_assoc u.1 v.1 w.1);
    add_comm = λ u v. Operations.residue_path (Sums.sum_comm u.1 v.1);
    add-zero = λ u. Operations.residue_path (Sums.sum-zero u.1);
    add-neg = λ u. Operations.residue_path (Sums.sum_negation big u.1);
    vanishes = λ u. Operations.residue_path (repeated-scale big p u ∙ Sums.scale_modulus u.1);
    times_x-add = λ u v. Operations.residue_path (TimesX.times_x-sum big wt u.1 v.1);
  }

  pub multiple_is : (c : ℕ) (u : Residue p n) → (multiple residue_module c u).0 ≡ scale p c u.0
  unfolding multiple residue_module
  multiple_is c u = repeated-scale big c u

  pub multiple_one_is : (c : ℕ) → (multiple residue_module c (one_residue big)).0 ≡ constant n (c % p)
  unfolding one_residue constant_residue
  multiple_one_is c = multiple_is c (one_residue big) ∙ Sums.scale-constant p n c 1 ∙ simp Nat.mul-one

  -- u·1 = u, also where u is a shorter list
  pub act_one_padded : {k : ℕ} {u : List ℕ} → Words p k u → (j : ℕ) → k + j ≡ n → (act residue_module u (one_residue big)).0 ≡ u ++ replicate j 0
  unfolding act residue_module zero_residue one_residue constant_residue add_residue multiple
  act_one_padded none j h = Operations.constant-zero n ∙ ap (λ i. replicate i 0) (sym h ∙ Nat.zero-add j)
  act_one_padded (more {a = a} {n = k} {u = u} l w) j h =
      let e : k + suc j ≡ n = omega arith in
      let pos : 0 < p = omega arith in
      let w' : Words p n (0 ∷ u ++ replicate j 0) = rw h at (Words.padded_words pos (more pos w) j) in
      ap₂ (sum p) (multiple_one_is a ∙ ap (constant n) (Nat.mod-eq_of_lt l))
      (ap (times_x p t) (act_one_padded w (suc j) e) ∙ TimesX.times_x_zeros wt u j w')
      ∙ Sums.sum-constant l w'

  -- the product is the action
  pub product-act : (u : List ℕ) (v : Residue p n) → product p t u v.0 ≡ (act residue_module u v).0
  unfolding product act residue_module add_residue zero_residue constant_residue multiple
  product-act [] v = rw (Words.words_length wt)
  product-act (c ∷ u) v = ap₂ (λ x y. sum p x (times_x p t y)) (sym (multiple_is c v)) (product-act u v)

  unfoldable pub mul_residue : Residue p n → Residue p n → Residue p n
  mul_residue u v = (product p t u.0 v.0, Operations.product_words big wt u.0 v.1)

  pub mul_act : (u v : Residue p n) → mul_residue u v ≡ act residue_module u.0 v
  unfolding mul_residue
  mul_act u v = Operations.residue_path (product-act u.0 v)

  pub act_one : (u : Residue p n) → act residue_module u.0 (one_residue big) ≡ u
  act_one u = Operations.residue_path (act_one_padded u.1 0 (Nat.add-zero n) ∙ append-nil u.0)

  pub mul-one : (u : Residue p n) → mul_residue u (one_residue big) ≡ u
  mul-one u = mul_act u (one_residue big) ∙ act_one u

  -- u·v is the polynomial u·v modulo T
  pub product_reduced : (u : List ℕ) (v : Residue p n) → product p t u v.0 ≡ (act residue_module (polynomial_product p u v.0) (one_residue big)).0
  product_reduced u v =
      product-act u v ∙ ap (λ x. x.0) (ap (act residue_module u) (sym (act_one v)) ∙ sym (act_product residue_module u v.0 (one_residue big)))

  -- u·v = u(X)·v(X)·1
  pub mul_comm : (u v : Residue p n) → mul_residue u v ≡ mul_residue v u
  mul_comm u v =
      mul_act u v ∙ ap (act residue_module u.0) (sym (act_one v))
      ∙ act_comm residue_module u.0 v.0 (one_residue big)
      ∙ ap (act residue_module v.0) (act_one u) ∙ sym (mul_act v u)

  -- u ↦ u·w is linear
  pub mul_linear : (w : Residue p n) → Linear residue_module residue_module (λ u. mul_residue u w)
  mul_linear w = subst (Linear residue_module residue_module) (fun_ext (λ u. sym (mul_act w u) ∙ mul_comm w u)) (act_linear residue_module w.0)

  pub mul_assoc : (u v w : Residue p n) → mul_residue (mul_residue u v) w ≡ mul_residue u (mul_residue v w)
  mul_assoc u v w =
      ap (λ x. mul_residue x w) (mul_act u v) ∙ linear_act (mul_linear w) u.0 v ∙ sym (mul_act u (mul_residue v w))

  unfoldable pub residue_ring : CommutativeRing (Residue p n)
  unfolding residue_module
  residue_ring = record {
    zero = zero_residue big;
    one = one_residue big;
    add = add_residue;
    neg = residue_module.neg;
    mul = mul_residue;
    is_set = hedberg (Operations.residue_discrete p n);
    add_assoc = residue_module.add_assoc;
    add_comm = residue_module.add_comm;
    add-zero = residue_module.add-zero;
    add-neg = residue_module.add-neg;
    mul_assoc = mul_assoc;
    mul_comm = mul_comm;
    mul-one = mul-one;
    mul-add = λ u v w. simp mul_act (act-add residue_module u.0 v w);
  }

  pub residues_are_a_ring : RingOfResidues p n t
  unfolding residue_ring mul_residue add_residue zero_residue one_residue constant_residue
  residues_are_a_ring = record { ring = residue_ring; zero_is = refl; one_is = refl; add_is = λ u v. refl; mul_is = λ u v. refl }

  unfoldable pub x_residue : Residue p n
  x_residue = (residue_of_x p t, Operations.residue_of_x_words big wt)

  pub x_is : x_residue ≡ residue_module.times_x (one_residue big)
  unfolding x_residue residue_of_x residue_module one_residue constant_residue
  x_is = Operations.residue_path (ap (λ k. times_x p t (constant k 1)) (Words.words_length wt))

  -- multiplication by X is times_x
  pub mul_x : (u : Residue p n) → mul_residue x_residue u ≡ residue_module.times_x u
  mul_x u =
      ap (λ x. mul_residue x u) x_is ∙ (mul_linear u).times_x (one_residue big) ∙ ap residue_module.times_x (mul_comm (one_residue big) u ∙ mul-one u)

  pub power_is : (u : Residue p n) (k : ℕ) → power p t u.0 k ≡ (Ring.power residue_ring u k).0
  unfolding power Ring.power residue_ring one_residue constant_residue mul_residue
  power_is u zero = rw (Words.words_length wt)
  power_is u (suc k) = ap (product p t u.0) (power_is u k)

  numeral-multiple : (c : ℕ) → numeral residue_ring c ≡ multiple residue_module c (one_residue big)
  unfolding numeral multiple repeated residue_ring residue_module
  numeral-multiple zero = refl
  numeral-multiple (suc c) = ap (add_residue (one_residue big)) (numeral-multiple c)

  pub numeral_is : (c : ℕ) → (numeral residue_ring c).0 ≡ constant n (c % p)
  numeral_is c = ap (λ x. x.0) (numeral-multiple c) ∙ multiple_one_is c

  pub numeral_vanishes : numeral residue_ring p ≡ residue_ring.zero
  unfolding residue_ring zero_residue constant_residue
  numeral_vanishes = Operations.residue_path (numeral_is p ∙ ap (constant n) (Nat.mod_self p))

-- T(X) = 0

module _ {p n : ℕ} {t : List ℕ} (big : 2 ≤ p) (wt : Words p (suc n) t) where
  -- with e = X^n, whose top word is 1: X·e = (X·e modulo T) + 1·T, and both X·e are the same residue
  modulus_at_one : act (residue_module big wt) (monic t) (one_residue big) ≡ zero_residue big
  unfolding residue_module
  modulus_at_one =
      let e : Residue p (suc n) = (replicate n 0 ++ 1 ∷ [], Words.snoc_words (Words.zeros_words n (omega arith)) big) in
      let o : top 0 e.0 ≡ 1 = TimesX.top_last 0 (replicate n 0) 1 in
      let K : PolynomialModule p (Residue p (suc n)) = residue_module big wt in
      sym (multiple-one K _) ∙ ap (λ j. multiple K j (act K (monic t) (one_residue big))) (sym o)
      ∙ add_cancel K (act K (times_x p t e.0) (one_residue big)) _ _ (
      sym (TimesX.act-times_x K big wt e.1 (one_residue big)) ∙ ap K.times_x (act_one big wt e) ∙ sym (act_one big wt (K.times_x e))
      ∙ sym (K.add-zero _))

  pub modulus_vanishes : (v : Residue p (suc n)) → act (residue_module big wt) (monic t) v ≡ zero_residue big
  unfolding residue_module
  modulus_vanishes v =
      ap (act (residue_module big wt) (monic t)) (sym (act_one big wt v)) ∙ act_comm (residue_module big wt) (monic t) v.0 (one_residue big)
      ∙ ap (act (residue_module big wt) v.0) modulus_at_one ∙ linear_zero (act_linear (residue_module big wt) v.0)
