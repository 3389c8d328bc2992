-- Modules over the polynomials modulo p: an abelian group in which p·u = 0, with an additive operator X. A list f of coefficients acts on it
-- by Horner's rule. A map that preserves sums and X preserves the action of every polynomial; all else follows from that.
--   repeated o add k u     u + u + … + u, k times
--   PolynomialModule p G   such a module on G
--   multiple M k u         k·u
--   act M f u              f(X)·u
--   iterate M k u          X^k·u
--   Linear M N F           F preserves sums and X
use mathlib.Core.Path.{◌≡◌, refl, sym, ap, ◌∙◌}
use mathlib.Core.List.{List, [], ◌∷◌, ◌++◌}
use Prim.Native.Nat.{ℕ, zero, suc, ◌+◌, ◌*◌, ◌/◌, ◌%◌}
use native.Mathlib.Nat as Nat
use lib.ListN.{length, replicate}
use Rattle.quotient.specs.Residue.{sum, scale, constant}
use Rattle.quotient.specs.Divisor.{Same, polynomial_product, monic}

unfoldable pub repeated : {G : Type 0} → G → (G → G → G) → ℕ → G → G
repeated o add zero u = o
repeated o add (suc k) u = add u (repeated o add k u)

pub record PolynomialModule (p : ℕ) (G : Type 0) : Type 0 where
  pub zero : G
  pub add : G → G → G
  pub neg : G → G
  pub times_x : G → G
  pub add_assoc : (a b c : G) → add (add a b) c ≡ add a (add b c)
  pub add_comm : (a b : G) → add a b ≡ add b a
  pub add-zero : (a : G) → add a zero ≡ a
  pub add-neg : (a : G) → add a (neg a) ≡ zero
  pub vanishes : (a : G) → repeated zero add p a ≡ zero
  pub times_x-add : (a b : G) → times_x (add a b) ≡ add (times_x a) (times_x b)

module _ {p : ℕ} {G : Type 0} (M : PolynomialModule p G) where
  unfoldable pub multiple : ℕ → G → G
  multiple k u = repeated M.zero M.add k u

  unfoldable pub act : List ℕ → G → G
  act [] u = M.zero
  act (c ∷ f) u = M.add (multiple c u) (M.times_x (act f u))

  unfoldable pub iterate : ℕ → G → G
  iterate zero u = u
  iterate (suc k) u = M.times_x (iterate k u)

pub record Linear {p : ℕ} {G H : Type 0} (M : PolynomialModule p G) (N : PolynomialModule p H) (f : G → H) : Type 0 where
  pub add : (a b : G) → f (M.add a b) ≡ N.add (f a) (f b)
  pub times_x : (a : G) → f (M.times_x a) ≡ N.times_x (f a)

module _ {p : ℕ} {G : Type 0} (M : PolynomialModule p G) where
  pub add_left_comm : (a b c : G) → M.add a (M.add b c) ≡ M.add b (M.add a c)
  add_left_comm a b c = sym (M.add_assoc a b c) ∙ ap (λ x. M.add x c) (M.add_comm a b) ∙ M.add_assoc b a c

  pub zero-add : (a : G) → M.add M.zero a ≡ a
  zero-add a = M.add_comm M.zero a ∙ M.add-zero a

  -- (a + b) + (c + d) = (a + c) + (b + d)
  pub add_cross : (a b c d : G) → M.add (M.add a b) (M.add c d) ≡ M.add (M.add a c) (M.add b d)
  add_cross a b c d = simp (M.add_assoc, add_left_comm)

  neg_add : (a b : G) → M.add (M.neg a) (M.add a b) ≡ b
  neg_add a b = simp (← M.add_assoc, M.add_comm (M.neg a) a, M.add-neg, zero-add)

  pub add_cancel : (a b c : G) → M.add a b ≡ M.add a c → b ≡ c
  add_cancel a b c h = sym (neg_add a b) ∙ ap (M.add (M.neg a)) h ∙ neg_add a c

  pub multiple-zero : (u : G) → multiple M 0 u ≡ M.zero
  unfolding multiple repeated
  multiple-zero u = refl

  pub multiple-suc : (k : ℕ) (u : G) → multiple M (suc k) u ≡ M.add u (multiple M k u)
  unfolding multiple repeated
  multiple-suc k u = refl

  pub multiple-one : (u : G) → multiple M 1 u ≡ u
  multiple-one u = multiple-suc 0 u ∙ ap (M.add u) (multiple-zero u) ∙ M.add-zero u

  pub multiple_at_zero : (k : ℕ) → multiple M k M.zero ≡ M.zero
  multiple_at_zero zero = multiple-zero M.zero
  multiple_at_zero (suc k) = multiple-suc k M.zero ∙ zero-add _ ∙ multiple_at_zero k

  pub multiple-add : (k : ℕ) (u v : G) → multiple M k (M.add u v) ≡ M.add (multiple M k u) (multiple M k v)
  multiple-add zero u v = simp (multiple-zero, M.add-zero)
  multiple-add (suc k) u v = simp (multiple-suc, multiple-add k u v) (add_cross u v (multiple M k u) (multiple M k v))

  -- (j + k)·u = j·u + k·u
  pub multiple_sum : (j k : ℕ) (u : G) → multiple M (j + k) u ≡ M.add (multiple M j u) (multiple M k u)
  multiple_sum zero k u = simp (Nat.zero-add, multiple-zero, zero-add)
  multiple_sum (suc j) k u = simp (Nat.suc-add, multiple-suc, M.add_assoc, multiple_sum j k u)

  -- (j·k)·u = j·(k·u)
  pub multiple-mul : (j k : ℕ) (u : G) → multiple M (j * k) u ≡ multiple M j (multiple M k u)
  multiple-mul zero k u = simp (Nat.zero-mul, multiple-zero)
  multiple-mul (suc j) k u = simp (Nat.suc-mul, multiple-suc, multiple_sum, multiple-mul j k u) (M.add_comm _ _)

  -- p·u = 0, so only the remainder of k modulo p counts
  pub multiple-mod : (k : ℕ) (u : G) → multiple M (k % p) u ≡ multiple M k u
  unfolding multiple
  multiple-mod k u =
      sym (zero-add _) ∙ ap (λ x. M.add x (multiple M (k % p) u)) (sym (M.vanishes (multiple M (k / p) u)) ∙ sym (multiple-mul p (k / p) u))
      ∙ sym (multiple_sum (p * (k / p)) (k % p) u) ∙ ap (λ j. multiple M j u) (Nat.div-add-mod k p)

module _ {p : ℕ} {G H : Type 0} {M : PolynomialModule p G} {N : PolynomialModule p H} {f : G → H} (F : Linear M N f) where
  pub linear_zero : f M.zero ≡ N.zero
  linear_zero = add_cancel N (f M.zero) _ _ (sym (F.add M.zero M.zero) ∙ ap f (M.add-zero M.zero) ∙ sym (N.add-zero _))

  pub linear_multiple : (k : ℕ) (u : G) → f (multiple M k u) ≡ multiple N k (f u)
  linear_multiple zero u = simp multiple-zero linear_zero
  linear_multiple (suc k) u = simp (multiple-suc, F.add, linear_multiple k u)

  -- a map that preserves sums and X preserves the action of every polynomial
  pub linear_act : (g : List ℕ) (u : G) → f (act M g u) ≡ act N g (f u)
  unfolding act
  linear_act [] u = linear_zero
  linear_act (c ∷ g) u = simp (F.add, F.times_x, linear_multiple c u, linear_act g u)

module _ {p : ℕ} {G : Type 0} (M : PolynomialModule p G) where
  pub times_x_linear : Linear M M M.times_x
  times_x_linear = record { add = M.times_x-add; times_x = λ a. refl }

  pub act-nil : (u : G) → act M [] u ≡ M.zero
  unfolding act
  act-nil u = refl

  pub act-cons : (c : ℕ) (f : List ℕ) (u : G) → act M (c ∷ f) u ≡ M.add (multiple M c u) (M.times_x (act M f u))
  unfolding act
  act-cons c f u = refl

  pub act-add : (f : List ℕ) (u v : G) → act M f (M.add u v) ≡ M.add (act M f u) (act M f v)
  act-add [] u v = simp (act-nil, M.add-zero)
  act-add (c ∷ f) u v = simp (act-cons, multiple-add, act-add f u v, M.times_x-add) (add_cross M _ _ _ _)

  -- every polynomial acts as a linear map
  pub act_linear : (f : List ℕ) → Linear M M (act M f)
  act_linear f = record { add = act-add f; times_x = λ u. sym (linear_act times_x_linear f u) }

  pub act_comm : (f g : List ℕ) (u : G) → act M f (act M g u) ≡ act M g (act M f u)
  act_comm f g u = linear_act (act_linear f) g u

  -- (f + g)·u = f·u + g·u
  pub act-sum : (f g : List ℕ) (u : G) → act M (sum p f g) u ≡ M.add (act M f u) (act M g u)
  unfolding sum
  act-sum [] g u = simp (act-nil, zero-add)
  act-sum (a ∷ f) [] u = simp (act-nil, M.add-zero)
  act-sum (a ∷ f) (b ∷ g) u =
      simp (act-cons, multiple-mod, multiple_sum, act-sum f g u, M.times_x-add) (add_cross M _ _ _ _)

  -- (c·f)·u = c·(f·u)
  pub act-scale : (c : ℕ) (f : List ℕ) (u : G) → act M (scale p c f) u ≡ multiple M c (act M f u)
  unfolding scale
  act-scale c [] u = simp (act-nil, multiple_at_zero)
  act-scale c (a ∷ f) u = simp (act-cons, multiple-mod, multiple-mul, act-scale c f u, multiple-add, linear_multiple times_x_linear)

  -- (f·g)·u = f·(g·u)
  pub act_product : (f g : List ℕ) (u : G) → act M (polynomial_product p f g) u ≡ act M f (act M g u)
  unfolding polynomial_product
  act_product [] g u = simp act-nil
  act_product (c ∷ f) g u = simp (act-sum, act-cons, act-scale, act_product f g u, multiple-zero, zero-add)

  -- the list g behind f, of k words, acts as X^k·g
  pub act-append : (f g : List ℕ) (u : G) → act M (f ++ g) u ≡ M.add (act M f u) (iterate M (length f) (act M g u))
  unfolding iterate
  act-append [] g u = simp (act-nil, zero-add)
  act-append (a ∷ f) g u = simp (act-cons, act-append f g u, M.times_x-add, M.add_assoc)

  pub act_word : (a : ℕ) (u : G) → act M (a ∷ []) u ≡ multiple M a u
  act_word a u = simp (act-cons, act-nil, linear_zero times_x_linear, M.add-zero)

  -- the polynomial X^n + t acts as X^n and t together
  pub act-monic : (t : List ℕ) (u : G) → act M (monic t) u ≡ M.add (act M t u) (iterate M (length t) u)
  unfolding monic
  act-monic t u = act-append t (1 ∷ []) u ∙ ap (λ v. M.add (act M t u) (iterate M (length t) v)) (act_word 1 u ∙ multiple-one M u)

  -- X^k·(g·u) = g·(X^k·u)
  pub iterate-act : (k : ℕ) (g : List ℕ) (u : G) → iterate M k (act M g u) ≡ act M g (iterate M k u)
  unfolding iterate
  iterate-act zero g u = refl
  iterate-act (suc k) g u = ap M.times_x (iterate-act k g u) ∙ linear_act times_x_linear g (iterate M k u)

  -- 0 and 1 as lists of any length
  pub act_zeros : (n : ℕ) (u : G) → act M (replicate n 0) u ≡ M.zero
  act_zeros zero u = act-nil u
  act_zeros (suc n) u = simp (act-cons, multiple-zero, act_zeros n u, linear_zero times_x_linear, M.add-zero)

  pub act-constant-one : (n : ℕ) (u : G) → act M (constant (suc n) 1) u ≡ u
  unfolding constant
  act-constant-one n u = simp (act-cons, multiple-one, act_zeros, linear_zero times_x_linear, M.add-zero)

  multiple_same : (j k : ℕ) → j % p ≡ k % p → (u : G) → multiple M j u ≡ multiple M k u
  multiple_same j k h u = sym (multiple-mod M j u) ∙ ap (λ i. multiple M i u) h ∙ multiple-mod M k u

  -- polynomials with equal coefficients modulo p act alike
  pub act_same : (f g : List ℕ) → Same p f g → (u : G) → act M f u ≡ act M g u
  act_same [] [] h u = refl
  act_same [] (b ∷ g) h u =
      act-nil u ∙ sym (act_zeros 1 u) ∙ simp (act-cons, act_same [] g (λ i. h (suc i)) u, multiple_same 0 b (h 0) u)
  act_same (a ∷ f) [] h u =
      simp (act-cons, act_same f [] (λ i. h (suc i)) u, multiple_same a 0 (h 0) u) (sym (act-cons 0 [] u) ∙ act_zeros 1 u ∙ sym (act-nil u))
  act_same (a ∷ f) (b ∷ g) h u = simp (act-cons, act_same f g (λ i. h (suc i)) u, multiple_same a b (h 0) u)
