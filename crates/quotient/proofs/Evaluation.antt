-- Values of polynomials modulo p in a commutative ring in which p·1 = 0. For an element s the ring is a module over the polynomials, X
-- acting as multiplication by s; f acts as multiplication by f(s), so the laws of f(s) are those of the action. Over a field a monic polynomial has at most as many roots as
-- its degree says.
--   evaluate R f s   f(s), the coefficients read as multiples of 1
--   module_at s      the ring as a module, X acting as multiplication by s
use mathlib.Core.Path.{◌≡◌, refl, sym, ap, ap₂, ◌∙◌}
use mathlib.Core.List.{List, [], ◌∷◌, map}
use Prim.Native.Nat.{ℕ, zero, suc, ◌≤◌}
use lib.ListN.{length, length-map}
use Rattle.algebra.specs.Lists.{Member, Distinct}
use Rattle.algebra.specs.Ring.{CommutativeRing, Field, numeral, power, value}
use Rattle.algebra.proofs.Lists.{member_all}
use Rattle.algebra.proofs.Polynomials.{monic_roots}
use Rattle.algebra.proofs.RingLaws.{zero-mul, one-mul, add-mul, numeral-zero, numeral-suc}
use Rattle.quotient.specs.Residue.{sum, scale}
use Rattle.quotient.specs.Divisor.{Same, polynomial_product, monic}
use Rattle.quotient.proofs.Action.{PolynomialModule, repeated, multiple, act, iterate, act-nil, act-cons, act-sum, act-scale, act_product, act-monic, act_same}

unfoldable pub evaluate : {A : Type 0} → CommutativeRing A → List ℕ → A → A
evaluate R f s = value R (map (numeral R) f) s

module _ {A : Type 0} (R : CommutativeRing A) where
  pub evaluate-nil : (s : A) → evaluate R [] s ≡ R.zero
  unfolding evaluate value
  evaluate-nil s = refl

  pub evaluate-cons : (c : ℕ) (f : List ℕ) (s : A) → evaluate R (c ∷ f) s ≡ R.add (numeral R c) (R.mul s (evaluate R f s))
  unfolding evaluate value
  evaluate-cons c f s = refl

  pub repeated_is : (k : ℕ) (a : A) → repeated R.zero R.add k a ≡ R.mul (numeral R k) a
  unfolding repeated
  repeated_is zero a = sym (ap (λ x. R.mul x a) (numeral-zero R) ∙ zero-mul R a)
  repeated_is (suc k) a =
      ap₂ R.add (sym (one-mul R a)) (repeated_is k a) ∙ sym (add-mul R R.one (numeral R k) a) ∙ ap (λ x. R.mul x a) (sym (numeral-suc R k))

module _ {A : Type 0} (R : CommutativeRing A) (p : ℕ) (vanishes : numeral R p ≡ R.zero) where
  unfoldable pub module_at : A → PolynomialModule p A
  module_at s =
      record {
        zero = R.zero;
        add = R.add;
        neg = R.neg;
        times_x = R.mul s;
        add_assoc = R.add_assoc;
        add_comm = R.add_comm;
        add-zero = R.add-zero;
        add-neg = R.add-neg;
        vanishes = λ a. repeated_is R p a ∙ ap (λ x. R.mul x a) vanishes ∙ zero-mul R a;
        times_x-add = R.mul-add s;
      }

  module _ (s : A) where
    multiple_is : (k : ℕ) (a : A) → multiple (module_at s) k a ≡ R.mul (numeral R k) a
    unfolding multiple module_at
    multiple_is k a = repeated_is R k a

    iterate_is : (k : ℕ) → iterate (module_at s) k R.one ≡ power R s k
    unfolding iterate module_at power
    iterate_is zero = refl
    iterate_is (suc k) = ap (R.mul s) (iterate_is k)

    -- f acts as multiplication by f(s)
    pub act_is : (f : List ℕ) (a : A) → act (module_at s) f a ≡ R.mul (evaluate R f s) a
    unfolding module_at
    act_is [] a = act-nil (module_at s) a ∙ sym (ap (λ x. R.mul x a) (evaluate-nil R s) ∙ zero-mul R a)
    act_is (c ∷ f) a = simp (act-cons (module_at s), multiple_is, act_is f a, evaluate-cons, add-mul R, R.mul_assoc)

    pub evaluate_acts : (f : List ℕ) → evaluate R f s ≡ act (module_at s) f R.one
    evaluate_acts f = sym (act_is f R.one ∙ R.mul-one (evaluate R f s))

    pub evaluate_same : (f g : List ℕ) → Same p f g → evaluate R f s ≡ evaluate R g s
    evaluate_same f g h = evaluate_acts f ∙ act_same (module_at s) f g h R.one ∙ sym (evaluate_acts g)

    pub evaluate-sum : (f g : List ℕ) → evaluate R (sum p f g) s ≡ R.add (evaluate R f s) (evaluate R g s)
    unfolding module_at
    evaluate-sum f g = evaluate_acts (sum p f g) ∙ act-sum (module_at s) f g R.one ∙ ap₂ R.add (sym (evaluate_acts f)) (sym (evaluate_acts g))

    pub evaluate-scale : (c : ℕ) (f : List ℕ) → evaluate R (scale p c f) s ≡ R.mul (numeral R c) (evaluate R f s)
    evaluate-scale c f = evaluate_acts (scale p c f) ∙ act-scale (module_at s) c f R.one ∙ multiple_is c _ ∙ ap (R.mul (numeral R c)) (sym (evaluate_acts f))

    pub evaluate_product : (f g : List ℕ) → evaluate R (polynomial_product p f g) s ≡ R.mul (evaluate R f s) (evaluate R g s)
    evaluate_product f g = evaluate_acts (polynomial_product p f g) ∙ act_product (module_at s) f g R.one ∙ act_is f _ ∙ ap (R.mul (evaluate R f s)) (sym (evaluate_acts g))

    pub evaluate-monic : (f : List ℕ) → evaluate R (monic f) s ≡ R.add (power R s (length f)) (evaluate R f s)
    unfolding module_at
    evaluate-monic f = evaluate_acts (monic f) ∙ act-monic (module_at s) f R.one ∙ ap₂ R.add (sym (evaluate_acts f)) (iterate_is (length f)) ∙ R.add_comm _ _

pub monic_roots_at_most : {A : Type 0} (F : Field A) (p : ℕ) → numeral F.ring p ≡ F.ring.zero → (t : List ℕ) (rs : List A) → Distinct rs
    → ((s : A) → Member s rs → evaluate F.ring (monic t) s ≡ F.ring.zero) → length rs ≤ length t
unfolding evaluate
monic_roots_at_most F p vanishes t rs distinct roots =
    monic_roots F (length t) (evaluate F.ring t) (map (numeral F.ring) t, length-map t (numeral F.ring), λ s. refl) rs distinct
    (member_all (λ s. F.ring.add (evaluate F.ring t s) (power F.ring s (length t)) ≡ F.ring.zero) rs
    (λ s m. F.ring.add_comm _ _ ∙ sym (evaluate-monic F.ring p vanishes s t) ∙ roots s m))
