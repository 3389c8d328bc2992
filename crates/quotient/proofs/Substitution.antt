-- Substitution: u(S) is the value of u at S in the ring of residues. If T1(S) = 0 modulo T2, then u ↦ u(S) commutes with X, hence preserves
-- products; a homomorphism takes u(S) to u of the image of S; and u(X) = u. So two substitutions with S(R) = X undo each other.
--   Homomorphism R S f   f preserves sums, products and one
use mathlib.Core.Path.{subst, ◌≡◌, refl, sym, ap, ap₂, ◌∙◌}
use mathlib.Core.List.{List, [], ◌∷◌}
use Prim.Native.Nat.{ℕ, zero, suc, ◌≤◌}
use lib.ListN.{length, replicate}
use Rattle.algebra.specs.Ring.{CommutativeRing, numeral}
use Rattle.algebra.specs.Ring as Ring
use Rattle.algebra.proofs.RingLaws as Laws
use Rattle.array.specs.Words.{Words}
use Rattle.quotient.specs.Residue.{Residue, sum, constant, top, times_x, product, residue_of_x, substitute, modulus_at}
use Rattle.quotient.specs.Divisor.{monic}
use Rattle.quotient.specs.Map.{Preserves, Undoes}
use Rattle.quotient.proofs.Action
use Rattle.quotient.proofs.Action.{PolynomialModule, Linear, multiple, act}
use Rattle.quotient.proofs.Evaluation as Evaluation
use Rattle.quotient.proofs.Evaluation.{evaluate, module_at}
use Rattle.quotient.proofs.Ring as Residues
use Rattle.quotient.proofs.Ring.{residue_module, residue_ring, x_residue, mul_residue, one_residue, zero_residue, add_residue, constant_residue}
use Rattle.quotient.proofs.Sums
use Rattle.quotient.proofs.TimesX
use Rattle.array.proofs.Words
use Rattle.quotient.proofs.Operations

pub record Homomorphism {A B : Type 0} (R : CommutativeRing A) (S : CommutativeRing B) (f : A → B) : Type 0 where
  pub add : (a b : A) → f (R.add a b) ≡ S.add (f a) (f b)
  pub mul : (a b : A) → f (R.mul a b) ≡ S.mul (f a) (f b)
  pub one : f R.one ≡ S.one

module _ {A B : Type 0} {R : CommutativeRing A} {S : CommutativeRing B} {f : A → B} (h : Homomorphism R S f) where
  pub homomorphism_zero : f R.zero ≡ S.zero
  homomorphism_zero = Laws.add_left_cancel S (f R.zero) _ _ (sym (h.add R.zero R.zero) ∙ ap f (R.add-zero R.zero) ∙ sym (S.add-zero _))

  pub homomorphism_numeral : (c : ℕ) → f (numeral R c) ≡ numeral S c
  unfolding numeral
  homomorphism_numeral zero = homomorphism_zero
  homomorphism_numeral (suc c) = h.add _ _ ∙ ap₂ S.add h.one (homomorphism_numeral c)

  pub homomorphism_power : (a : A) (k : ℕ) → f (Ring.power R a k) ≡ Ring.power S (f a) k
  homomorphism_power a zero = ap f (Laws.power_zero R a) ∙ h.one ∙ sym (Laws.power_zero S (f a))
  homomorphism_power a (suc k) =
      ap f (Laws.power-suc R a k) ∙ h.mul a (Ring.power R a k) ∙ ap (S.mul (f a)) (homomorphism_power a k) ∙ sym (Laws.power-suc S (f a) k)

  -- f(u(a)) = u(f(a))
  pub homomorphism_evaluate : (u : List ℕ) (a : A) → f (evaluate R u a) ≡ evaluate S u (f a)
  homomorphism_evaluate [] a = simp Evaluation.evaluate-nil homomorphism_zero
  homomorphism_evaluate (c ∷ u) a = simp (Evaluation.evaluate-cons, h.add, h.mul, homomorphism_numeral c, homomorphism_evaluate u a)

module _ {p n : ℕ} {t : List ℕ} (big : 2 ≤ p) (wt : Words p n t) where
  -- u(S) and M(S) of the specification are values in the ring of residues
  pub substitute_is : (s : Residue p n) (u : List ℕ) → substitute p t s.0 u ≡ (evaluate (residue_ring big wt) u s).0
  unfolding substitute evaluate Ring.value residue_ring add_residue mul_residue zero_residue constant_residue
  substitute_is s [] = rw (Words.words_length wt)
  substitute_is s (c ∷ u) =
      rw (Words.words_length wt) (ap (λ x. sum p (constant n c) (product p t s.0 x)) (substitute_is s u)
      ∙ Sums.sum-constant-mod c (Operations.product_words big wt s.0 (evaluate (residue_ring big wt) u s).1)
      ∙ ap (λ x. sum p x (product p t s.0 (evaluate (residue_ring big wt) u s).0)) (sym (Residues.numeral_is big wt c)))

  pub modulus_at_is : (s : Residue p n) (m : List ℕ) → modulus_at p t s.0 m ≡ (evaluate (residue_ring big wt) (monic m) s).0
  unfolding modulus_at residue_ring add_residue
  modulus_at_is s m =
      ap₂ (sum p) (Residues.power_is big wt s (length m)) (substitute_is s m)
      ∙ ap (λ x. x.0) (sym (Evaluation.evaluate-monic (residue_ring big wt) p (Residues.numeral_vanishes big wt) s m))

  -- f(X) is f modulo T
  pub evaluate_x : (f : List ℕ) → evaluate (residue_ring big wt) f (x_residue big wt) ≡ act (residue_module big wt) f (one_residue big)
  unfolding module_at residue_ring residue_module
  evaluate_x f =
      let same : Linear (residue_module big wt) (module_at (residue_ring big wt) p (Residues.numeral_vanishes big wt) (x_residue big wt)) (λ v. v)
      = record { add = λ a b. refl; times_x = λ v. sym (Residues.mul_x big wt v) } in
      Evaluation.evaluate_acts (residue_ring big wt) p (Residues.numeral_vanishes big wt) (x_residue big wt) f ∙ sym (Action.linear_act same f (one_residue big))

-- u ↦ u(s) for a root s of T in a ring where p·1 = 0

module _ {p n : ℕ} {t : List ℕ} (big : 2 ≤ p) (wt : Words p n t) {A : Type 0} (S : CommutativeRing A) (vanishes : numeral S p ≡ S.zero) (s : A)
    (root : evaluate S (monic t) s ≡ S.zero) where
  -- X·u goes to s·u(s): what the top word of u brings in is a multiple of T(s)
  evaluate_linear : Linear (residue_module big wt) (module_at S p vanishes s) (λ u. evaluate S u.0 s)
  unfolding module_at residue_module add_residue
  evaluate_linear =
      let M : PolynomialModule p A = module_at S p vanishes s in
      let acts : (f : List ℕ) → evaluate S f s ≡ act M f S.one = Evaluation.evaluate_acts S p vanishes s in
      record {
        add = λ u v. Evaluation.evaluate-sum S p vanishes s u.0 v.0;
        times_x = λ u.
            acts (times_x p t u.0) ∙ sym (S.add-zero _)
            ∙ ap (S.add _) (sym (Action.multiple_at_zero M (top 0 u.0)) ∙ ap (multiple M (top 0 u.0)) (sym root ∙ acts (monic t)))
            ∙ sym (TimesX.act-times_x M big wt u.1 S.one)
            ∙ ap (S.mul s) (sym (acts u.0));
      }

  pub evaluate-mul : (u v : Residue p n) → evaluate S (mul_residue big wt u v).0 s ≡ S.mul (evaluate S u.0 s) (evaluate S v.0 s)
  evaluate-mul u v =
      ap (λ w. evaluate S w.0 s) (Residues.mul_act big wt u v) ∙ Action.linear_act evaluate_linear u.0 v
      ∙ Evaluation.act_is S p vanishes s u.0 (evaluate S v.0 s)

pub evaluate_zeros : {A : Type 0} (S : CommutativeRing A) (n : ℕ) (s : A) → evaluate S (replicate n 0) s ≡ S.zero
evaluate_zeros S zero s = Evaluation.evaluate-nil S s
evaluate_zeros S (suc n) s = simp (Evaluation.evaluate-cons, Laws.numeral-zero, evaluate_zeros S n s, Laws.mul-zero, S.add-zero)

pub evaluate_homomorphism : {p n : ℕ} {t : List ℕ} (big : 2 ≤ p) (wt : Words p (suc n) t) {A : Type 0} (S : CommutativeRing A) → numeral S p ≡ S.zero
    → (s : A) → evaluate S (monic t) s ≡ S.zero → Homomorphism (residue_ring big wt) S (λ u. evaluate S u.0 s)
unfolding residue_ring add_residue one_residue constant_residue constant
evaluate_homomorphism {p} {n} big wt S vanishes s root = record {
  add = λ u v. Evaluation.evaluate-sum S p vanishes s u.0 v.0;
  mul = evaluate-mul big wt S vanishes s root;
  one = simp (Evaluation.evaluate-cons, Laws.numeral-one, evaluate_zeros, Laws.mul-zero, S.add-zero);
}

-- the residue of X has the value s
pub evaluate_of_x : {p n : ℕ} {t : List ℕ} (big : 2 ≤ p) (wt : Words p (suc n) t) {A : Type 0} (S : CommutativeRing A) (char : numeral S p ≡ S.zero)
    → (s : A) → evaluate S (monic t) s ≡ S.zero → evaluate S (residue_of_x p t) s ≡ s
unfolding x_residue residue_ring module_at
evaluate_of_x big wt S char s root =
    ap (λ u. evaluate S u.0 s) (Residues.x_is big wt) ∙ (evaluate_linear big wt S char s root).times_x (one_residue big)
    ∙ ap (S.mul s) (evaluate_homomorphism big wt S char s root).one ∙ S.mul-one s

-- 0 at S is 0
pub zero-substitute : {p n : ℕ} {t s : List ℕ} → 2 ≤ p → Words p n t → Words p n s → (k : ℕ) → substitute p t s (constant k 0) ≡ constant n 0
unfolding residue_ring zero_residue constant_residue
zero-substitute {s = s} big wt ws k =
    substitute_is big wt (s, ws) (constant k 0)
    ∙ ap (λ x. x.0) (ap (λ u. evaluate (residue_ring big wt) u (s, ws)) (Operations.constant-zero k) ∙ evaluate_zeros (residue_ring big wt) k (s, ws))

-- u(X) = u and T(X) = 0

pub substitute_x : {p n : ℕ} {t : List ℕ} (big : 2 ≤ p) (wt : Words p n t) {u : List ℕ} → Words p n u → substitute p t (residue_of_x p t) u ≡ u
unfolding x_residue
substitute_x big wt {u} w = substitute_is big wt (x_residue big wt) u ∙ ap (λ x. x.0) (evaluate_x big wt u ∙ Residues.act_one big wt (u, w))

pub modulus_at_x : {p n : ℕ} {t : List ℕ} (big : 2 ≤ p) (wt : Words p (suc n) t) → modulus_at p t (residue_of_x p t) t ≡ constant (suc n) 0
unfolding x_residue zero_residue constant_residue
modulus_at_x {t = t} big wt =
    modulus_at_is big wt (x_residue big wt) t ∙ ap (λ x. x.0) (evaluate_x big wt (monic t) ∙ Residues.modulus_vanishes big wt (one_residue big))

-- maps on lists of words and homomorphisms of the rings of residues

module _ {p m n : ℕ} {t1 t2 : List ℕ} (big : 2 ≤ p) (w1 : Words p m t1) (w2 : Words p n t2) (f : List ℕ → List ℕ) where
  homomorphism_preserves : (φ : Residue p m → Residue p n) → Homomorphism (residue_ring big w1) (residue_ring big w2) φ
      → ((u : Residue p m) → f u.0 ≡ (φ u).0) → Preserves p t1 t2 f
  unfolding residue_ring add_residue mul_residue one_residue constant_residue
  homomorphism_preserves φ h is = record {
    residues = λ u wu.
        let a : Residue p m = (u, Words.of_length w1 wu) in
        Words.to_length w2 (subst (Words p n) (sym (is a)) (φ a).1);
    sums = λ u v wu wv.
        let a : Residue p m = (u, Words.of_length w1 wu) in
        let b : Residue p m = (v, Words.of_length w1 wv) in
        is ((residue_ring big w1).add a b) ∙ ap (λ x. x.0) (h.add a b) ∙ ap₂ (sum p) (sym (is a)) (sym (is b));
    products = λ u v wu wv.
        let a : Residue p m = (u, Words.of_length w1 wu) in
        let b : Residue p m = (v, Words.of_length w1 wv) in
        is (mul_residue big w1 a b) ∙ ap (λ x. x.0) (h.mul a b) ∙ ap₂ (product p t2) (sym (is a)) (sym (is b));
    one = rw (Words.words_length w1, Words.words_length w2) (is (one_residue big) ∙ ap (λ x. x.0) h.one);
  }

  module _ (h : Preserves p t1 t2 f) where
    closed : (u : List ℕ) → Words p m u → Words p n (f u)
    closed u w = Words.of_length w2 (h.residues u (Words.to_length w1 w))

    preserves_homomorphism : Homomorphism (residue_ring big w1) (residue_ring big w2) (λ u. (f u.0, closed u.0 u.1))
    unfolding residue_ring add_residue mul_residue one_residue constant_residue
    preserves_homomorphism = record {
      add = λ u v. Operations.residue_path (h.sums u.0 v.0 (Words.to_length w1 u.1) (Words.to_length w1 v.1));
      mul = λ u v. Operations.residue_path (h.products u.0 v.0 (Words.to_length w1 u.1) (Words.to_length w1 v.1));
      one = Operations.residue_path (rw (Words.words_length w1, Words.words_length w2) at h.one);
    }

    -- f(u(R)) = u(f(R))
    pub preserves_substitute : {r : List ℕ} → Words p m r → (u : List ℕ) → f (substitute p t1 r u) ≡ substitute p t2 (f r) u
    preserves_substitute {r} w u =
        ap f (substitute_is big w1 (r, w) u) ∙ ap (λ x. x.0) (homomorphism_evaluate preserves_homomorphism u (r, w))
        ∙ sym (substitute_is big w2 (f r, closed r w) u)

    -- f(M(R)) = M(f(R))
    pub preserves_modulus_at : {r : List ℕ} → Words p m r → (u : List ℕ) → f (modulus_at p t1 r u) ≡ modulus_at p t2 (f r) u
    preserves_modulus_at {r} w u =
        ap f (modulus_at_is big w1 (r, w) u) ∙ ap (λ x. x.0) (homomorphism_evaluate preserves_homomorphism (monic u) (r, w))
        ∙ sym (modulus_at_is big w2 (f r, closed r w) u)

module _ {p m n : ℕ} {t1 t2 s : List ℕ} (big : 2 ≤ p) (w1 : Words p (suc m) t1) (w2 : Words p n t2) (ws : Words p n s)
    (root : modulus_at p t2 s t1 ≡ constant n 0) where
  pub substitution_preserves : Preserves p t1 t2 (substitute p t2 s)
  unfolding residue_ring zero_residue constant_residue
  substitution_preserves =
      homomorphism_preserves big w1 w2 (substitute p t2 s) (λ u. evaluate (residue_ring big w2) u.0 (s, ws))
      (evaluate_homomorphism big w1 (residue_ring big w2) (Residues.numeral_vanishes big w2) (s, ws)
      (Operations.residue_path (sym (modulus_at_is big w2 (s, ws) t1) ∙ root)))
      (λ u. substitute_is big w2 (s, ws) u.0)

  -- (u(R))(S) = u(R(S))
  pub substitute-substitute : {r : List ℕ} → Words p (suc m) r → (u : List ℕ)
      → substitute p t2 s (substitute p t1 r u) ≡ substitute p t2 (substitute p t2 s r) u
  substitute-substitute w u =
      preserves_substitute big w1 w2 (substitute p t2 s) substitution_preserves w u

  -- if R(S) = X modulo T2, then u ↦ u(S) undoes u ↦ u(R)
  pub substitution_undoes : {r : List ℕ} → Words p (suc m) r → substitute p t2 s r ≡ residue_of_x p t2
      → Undoes p n (substitute p t2 s) (substitute p t1 r)
  substitution_undoes w inverse u wu =
      substitute-substitute w u ∙ ap (λ x. substitute p t2 x u) inverse ∙ substitute_x big w2 wu

  -- X(S) = S
  pub x_substitute : substitute p t2 s (residue_of_x p t1) ≡ s
  unfolding residue_ring zero_residue constant_residue
  x_substitute =
      substitute_is big w2 (s, ws) (residue_of_x p t1)
      ∙ ap (λ x. x.0) (evaluate_of_x big w1 (residue_ring big w2) (Residues.numeral_vanishes big w2) (s, ws)
      (Operations.residue_path (sym (modulus_at_is big w2 (s, ws) t1) ∙ root)))
