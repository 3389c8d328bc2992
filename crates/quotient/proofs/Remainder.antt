-- Division with remainder by a monic polynomial T. The remainder of f is f modulo T, that is, f acting on 1 in the residues. The quotient
-- collects the top words that X brings out, so that f = T·q + r holds in every module; the module of series then shows that the coefficients
-- agree. There is only one remainder, since T acts as 0 on the residues.
--   Series p            series in X with coefficients below p
--   series              the module of series: polynomials that act alike on the series 1 are equal
--   quotient big wt f   the quotient of f on division by T
use mathlib.Core.Path.{◌≡◌, refl, sym, ap, ap₂, fun_ext, ◌∙◌}
use mathlib.Core.List.{List, [], ◌∷◌}
use Prim.Native.Nat.{ℕ, zero, suc, ◌%◌, ◌≤◌}
use native.Mathlib.Nat as Nat
use lib.ListN.{get_or}
use Rattle.array.specs.Words.{Words, none, more}
use Rattle.quotient.specs.Residue.{Residue, sum, constant, top, times_x}
use Rattle.quotient.specs.Divisor.{Same, Remainder, polynomial_product, monic}
use Rattle.quotient.proofs.Action
use Rattle.quotient.proofs.Action.{PolynomialModule, repeated, multiple, act}
use Rattle.quotient.proofs.Ring as Residues
use Rattle.quotient.proofs.Ring.{residue_module, one_residue, zero_residue, add_residue, constant_residue}
use Rattle.quotient.proofs.TimesX
use Rattle.array.proofs.Words

abbrev Series : ℕ → Type 0
Series p = ℕ → Residue p 1

-- the words of a one place higher, behind c
raise : {G : Type 0} → G → (ℕ → G) → ℕ → G
raise c a zero = c
raise c a (suc i) = a i

module _ {p : ℕ} (big : 2 ≤ p) where
  -- the numbers modulo p as residues of one word
  words : PolynomialModule p (Residue p 1)
  words = residue_module big (more (Nat.le_of_suc-le big) none)

  repeated_at : (k : ℕ) (a : Series p) (i : ℕ) → repeated (λ j. words.zero) (λ a b j. words.add (a j) (b j)) k a i ≡ multiple words k (a i)
  unfolding repeated multiple
  repeated_at zero a i = refl
  repeated_at (suc k) a i = ap (words.add (a i)) (repeated_at k a i)

  raise-add : (a b : Series p) (i : ℕ)
      → raise words.zero (λ j. words.add (a j) (b j)) i ≡ words.add (raise words.zero a i) (raise words.zero b i)
  unfolding raise
  raise-add a b zero = sym (words.add-zero words.zero)
  raise-add a b (suc i) = refl

  series : PolynomialModule p (Series p)
  unfolding multiple
  series = record {
    zero = λ i. words.zero;
    add = λ a b i. words.add (a i) (b i);
    neg = λ a i. words.neg (a i);
    times_x = raise words.zero;
    add_assoc = λ a b c. fun_ext (λ i. words.add_assoc (a i) (b i) (c i));
    add_comm = λ a b. fun_ext (λ i. words.add_comm (a i) (b i));
    add-zero = λ a. fun_ext (λ i. words.add-zero (a i));
    add-neg = λ a. fun_ext (λ i. words.add-neg (a i));
    vanishes = λ a. fun_ext (λ i. repeated_at p a i ∙ words.vanishes (a i));
    times_x-add = λ a b. fun_ext (raise-add a b);
  }

  one_series : Series p
  one_series = raise (one_residue big) (λ i. words.zero)

  coefficient : (f : List ℕ) (i : ℕ) → act series f one_series i ≡ multiple words (get_or f i 0) (one_residue big)
  unfolding act multiple series one_series raise
  coefficient [] i = sym (Action.multiple-zero words _)
  coefficient (c ∷ f) zero = words.add-zero _ ∙ repeated_at c one_series 0
  coefficient (c ∷ f) (suc i) =
      ap₂ words.add (repeated_at c one_series (suc i) ∙ Action.multiple_at_zero words c) (coefficient f i) ∙ Action.zero-add words _

  coefficient_is : (f : List ℕ) (i : ℕ) → (act series f one_series i).0 ≡ get_or f i 0 % p ∷ []
  unfolding words constant
  coefficient_is f i = ap (λ a. a.0) (coefficient f i) ∙ Residues.multiple_one_is big (more (Nat.le_of_suc-le big) none) (get_or f i 0)

  -- polynomials that act alike in every module are equal
  pub same_of_actions : (f g : List ℕ) → ((G : Type 0) (M : PolynomialModule p G) (u : G) → act M f u ≡ act M g u) → Same p f g
  same_of_actions f g h i =
      ap (λ u. get_or u 0 0) (sym (coefficient_is f i) ∙ ap (λ a. (a i).0) (h (Series p) series one_series) ∙ coefficient_is g i)

module _ {p n : ℕ} {t : List ℕ} (big : 2 ≤ p) (wt : Words p (suc n) t) where
  unfoldable pub quotient : List ℕ → List ℕ
  quotient [] = []
  quotient (c ∷ f) = top 0 (act (residue_module big wt) f (one_residue big)).0 ∷ quotient f

  -- the constant c acts as c
  act-multiple_one : {G : Type 0} (M : PolynomialModule p G) (c : ℕ) (v : G)
      → act M (multiple (residue_module big wt) c (one_residue big)).0 v ≡ multiple M c v
  unfolding one_residue constant_residue
  act-multiple_one M c v =
      ap (λ u. act M u v) (Residues.multiple_is big wt c (one_residue big)) ∙ Action.act-scale M c (constant (suc n) 1) v
      ∙ ap (multiple M c) (Action.act-constant-one M n v)

  -- X·(T·q + r) = T·(k + X·q) + (X·r modulo T), where k is the top word of r
  times_x_division : {G : Type 0} (M : PolynomialModule p G) (q : List ℕ) (r : Residue p (suc n)) (v : G)
      → M.times_x (M.add (act M (monic t) (act M q v)) (act M r.0 v))
      ≡ M.add (act M (monic t) (act M (top 0 r.0 ∷ q) v)) (act M (times_x p t r.0) v)
  times_x_division M q r v =
      M.times_x-add _ _
      ∙ ap₂ M.add (sym ((Action.act_linear M (monic t)).times_x (act M q v)))
      (TimesX.act-times_x M big wt r.1 v)
      ∙ simp (Action.act-cons M, Action.act-add M, Action.linear_multiple (Action.act_linear M (monic t)))
      (simp (M.add_assoc, M.add_comm, Action.add_left_comm M))

  -- f = T·q + r in every module
  pub division : {G : Type 0} (M : PolynomialModule p G) (f : List ℕ) (v : G)
      → act M f v ≡ M.add (act M (monic t) (act M (quotient f) v)) (act M (act (residue_module big wt) f (one_residue big)).0 v)
  unfolding quotient act residue_module zero_residue add_residue constant_residue constant
  division M [] v = sym (ap₂ M.add (Action.linear_zero (Action.act_linear M (monic t))) (Action.act_zeros M (suc n) v) ∙ M.add-zero _)
  division M (c ∷ f) v =
      let r : Residue p (suc n) = act (residue_module big wt) f (one_residue big) in
      ap₂ M.add (sym (act-multiple_one M c v)) (ap M.times_x (division M f v) ∙ times_x_division M (quotient f) r v)
      ∙ Action.add_left_comm M _ _ _ ∙ ap (M.add _) (sym (Action.act-sum M _ _ v))

  pub remainder_is : (f : List ℕ) → Remainder p t f (act (residue_module big wt) f (one_residue big)).0
  remainder_is f =
      let r : Residue p (suc n) = act (residue_module big wt) f (one_residue big) in
      let sum_acts : (G : Type 0) (M : PolynomialModule p G) (v : G) → act M (sum p (polynomial_product p (monic t) (quotient f)) r.0) v ≡ act M f v
      = λ G M v. simp (Action.act-sum M, Action.act_product M) (sym (division M f v)) in
      (quotient f, Words.to_length wt r.1, same_of_actions big (sum p (polynomial_product p (monic t) (quotient f)) r.0) f sum_acts)

  pub remainder_unique : (f r : List ℕ) → Remainder p t f r → r ≡ (act (residue_module big wt) f (one_residue big)).0
  unfolding residue_module
  remainder_unique f r (q, w, same) =
      let K : PolynomialModule p (Residue p (suc n)) = residue_module big wt in
      let one : Residue p (suc n) = one_residue big in
      ap (λ u. u.0) (sym (Residues.act_one big wt (r, Words.of_length wt w)) ∙ sym (Action.zero-add K _)
      ∙ ap (λ a. K.add a (act K r one)) (sym (Residues.modulus_vanishes big wt (act K q one)) ∙ sym (Action.act_product K (monic t) q one))
      ∙ sym (Action.act-sum K (polynomial_product p (monic t) q) r one) ∙ Action.act_same K _ f same one)
