-- The α of two models, made by the same rounds of Algorithm 4.1, satisfy one monic relation. After k rounds a and α lie in a subring of p^(p^k) elements: the
-- constants at the start, and a round adjoins its α. So does the pair u of the two α, in the product of the two rings of residues. With n = p^k the p^n values
-- Q(u), Q monic of degree n, lie in that subring of p^n elements, and are distinct because the powers of the first α are independent: so 0 is among them.
use mathlib.Core.Path.{◌≡◌, refl, sym, ap, ◌∙◌}
use mathlib.Core.HLevel.{×_discrete}
use mathlib.Core.List.{List, [], ◌∷◌}
use Prim.Native.Nat.{ℕ, zero, suc, ◌-◌, ◌*◌, ◌^◌, ◌≤◌}
use native.Mathlib.Nat.{mul-suc, mul-zero, pow-zero, pow-suc}
use native.Mathlib.Omega.{arith}
use lib.ListN.{length}
use lib.Pow.{pow-add}
use Rattle.algebra.specs.Lists.{Member}
use Rattle.algebra.specs.Prime.{Prime}
use Rattle.algebra.specs.Ring.{CommutativeRing, numeral, power}
use Rattle.algebra.proofs.Counting.{injective_fills}
use Rattle.algebra.proofs.Lists.{member_equal}
use Rattle.algebra.proofs.Products.{pair_ring, pair_path}
use Rattle.algebra.proofs.RingLaws.{add_left_cancel}
use Rattle.algebra.proofs.PrimePowers.{pow-one}
use Rattle.algebra.proofs.Subrings.{Subring, numeral_in, power_in, constants, constants-length, constants_subring, extended, extended-length, adjoin_root}
use Rattle.array.specs.Words.{Words}
use Rattle.array.proofs.Words.{words_length}
use Rattle.quotient.specs.Divisor.{monic}
use Rattle.quotient.specs.Residue.{Residue, residues, constant, modulus_at}
use Rattle.quotient.proofs.Evaluation.{evaluate, evaluate-nil, evaluate-cons, evaluate-monic}
use Rattle.quotient.proofs.Listing.{residues_sound, residues_distinct, residues-length}
use Rattle.quotient.proofs.Operations.{residue_discrete}
use Rattle.quotient.proofs.Reduction.{characteristic, zero_is}
use Rattle.quotient.proofs.Ring.{residue_ring}
use Rattle.quotient.proofs.Substitution.{Homomorphism, homomorphism_numeral, homomorphism_power, homomorphism_evaluate, modulus_at_is, substitute_is}
use Rattle.galois.specs.Express.{Independent}
use Rattle.galois.proofs.Tower.{Tower}

pow-mul : (m j k : ℕ) → m ^ (j * k) ≡ (m ^ j) ^ k
pow-mul m j zero = simp (mul-zero, pow-zero)
pow-mul m j (suc k) = simp (mul-suc, pow-add, pow-suc, pow-mul m j k)

-- the rounds in a finite subring
module _ {A : Type 0} (R : CommutativeRing A) (p : ℕ) (big : 2 ≤ p) (vanishes : numeral R p ≡ R.zero) where
  tower_subring : (k : ℕ) (a α : A) → Tower R p k a α → (xs : List A) × Subring R xs × (length xs ≡ p ^ (p ^ k)) × Member a xs × Member α xs
  tower_subring zero a α (e, f) =
      let s : Subring R (constants R p) = constants_subring R p big vanishes in
      let size : length (constants R p) ≡ p ^ (p ^ 0) = constants-length R p ∙ sym (ap (λ l. p ^ l) (pow-zero p) ∙ pow-one p) in
      (constants R p, s, size, member_equal (constants R p) (sym e) s.one_in, member_equal (constants R p) (sym f) s.one_in)
  tower_subring (suc k) a α (b, β, t, e, f) =
      let (xs, s, size, mb, mβ) = tower_subring k b β t in
      let ma : Member a xs = member_equal xs (sym e) (s.mul_in b (power R β (p - 1)) mb (power_in s β mβ (p - 1))) in
      let (r, within, mα) = adjoin_root R xs α s p big a ma f in
      (extended R xs α p, r, extended-length R xs α p ∙ ap (λ l. l ^ p) size ∙ sym (pow-mul p (p ^ k) p) ∙ ap (λ l. p ^ l) (sym (pow-suc p k)), within a ma, mα)

-- the rounds in two rings at once
module _ {A B : Type 0} (R : CommutativeRing A) (S : CommutativeRing B) where
  first_component : Homomorphism (pair_ring R S) R (λ x. x.0)
  unfolding pair_ring
  first_component = record { add = λ x y. refl; mul = λ x y. refl; one = refl }

  second_component : Homomorphism (pair_ring R S) S (λ x. x.1)
  unfolding pair_ring
  second_component = record { add = λ x y. refl; mul = λ x y. refl; one = refl }

  pair_numeral : (c : ℕ) → numeral (pair_ring R S) c ≡ (numeral R c, numeral S c)
  pair_numeral c = pair_path (homomorphism_numeral first_component c) (homomorphism_numeral second_component c)

  pair_power : (x : A × B) (k : ℕ) → power (pair_ring R S) x k ≡ (power R x.0 k, power S x.1 k)
  pair_power x k = pair_path (homomorphism_power first_component x k) (homomorphism_power second_component x k)

  pair_tower : (p k : ℕ) (a α : A) (b β : B) → Tower R p k a α → Tower S p k b β → Tower (pair_ring R S) p k (a, b) (α, β)
  unfolding pair_ring
  pair_tower p zero a α b β (ea, eα) (eb, eβ) = (pair_path ea eb, pair_path eα eβ)
  pair_tower p (suc k) a α b β (c, γ, s, ea, eα) (d, δ, t, eb, eβ) = (
    (c, d),
    (γ, δ),
    pair_tower p k c γ d δ s t,
    pair_path ea eb ∙ ap ((pair_ring R S).mul (c, d)) (sym (pair_power (γ, δ) (p - 1))),
    pair_power (α, β) p ∙ pair_path eα eβ,
  )

-- a monic relation by counting
module _ {A : Type 0} (R : CommutativeRing A) {xs : List A} (subring : Subring R xs) (u : A) (m : Member u xs) where
  evaluate_in : (f : List ℕ) → Member (evaluate R f u) xs
  evaluate_in [] = member_equal xs (sym (evaluate-nil R u)) subring.zero_in
  evaluate_in (c ∷ f) =
      member_equal xs (sym (evaluate-cons R c f u))
      (subring.add_in (numeral R c) (R.mul u (evaluate R f u)) (numeral_in subring c) (subring.mul_in u (evaluate R f u) m (evaluate_in f)))

  relation_exists : Discrete A → (p n : ℕ) → length xs ≡ p ^ n
      → ((f g : List ℕ) → Words p n f → Words p n g → evaluate R (monic f) u ≡ evaluate R (monic g) u → f ≡ g)
      → (q : List ℕ) × Words p n q × (evaluate R (monic q) u ≡ R.zero)
  relation_exists same p n size injective =
      let (q, l, e) =
      injective_fills same (λ f. evaluate R (monic f) u) (residues p n) xs (residues_distinct p n) (λ f _. evaluate_in (monic f))
      (λ f g l k e. injective f g (residues_sound p n f l) (residues_sound p n g k) e) (omega (arith, residues-length p n)) R.zero subring.zero_in in
      (q, residues_sound p n q l, sym e)

-- f ↦ u^n + f(u) is injective where the powers of u are independent
module _ {p n : ℕ} {t : List ℕ} (prime : Prime p) (wt : Words p (suc n) t) (u : Residue p (suc n)) where
  abbrev K : CommutativeRing (Residue p (suc n))
  K = residue_ring prime.0 wt

  root_is : (q : List ℕ) → evaluate K (monic q) u ≡ K.zero → modulus_at p t u.0 q ≡ constant (suc n) 0
  root_is q e = modulus_at_is prime.0 wt u q ∙ ap (λ x. x.0) e ∙ zero_is prime.0 wt

  monic_value : {f : List ℕ} → Words p (suc n) f → evaluate K (monic f) u ≡ K.add (power K u (suc n)) (evaluate K f u)
  monic_value {f} wf = evaluate-monic K p (characteristic prime.0 wt) u f ∙ ap (λ k. K.add (power K u k) (evaluate K f u)) (words_length wf)

  monic_injective : Independent p (suc n) t u.0 → (f g : List ℕ) → Words p (suc n) f → Words p (suc n) g → evaluate K (monic f) u ≡ evaluate K (monic g) u → f ≡ g
  monic_injective independent f g wf wg e =
      independent f g wf wg (substitute_is prime.0 wt u f
      ∙ ap (λ x. x.0) (add_left_cancel K (power K u (suc n)) (evaluate K f u) (evaluate K g u) (sym (monic_value wf) ∙ e ∙ monic_value wg))
      ∙ sym (substitute_is prime.0 wt u g))

module _ {p n : ℕ} {t1 t2 : List ℕ} (prime : Prime p) (w1 : Words p (suc n) t1) (w2 : Words p (suc n) t2) where
  abbrev K1 : CommutativeRing (Residue p (suc n))
  K1 = residue_ring prime.0 w1

  abbrev K2 : CommutativeRing (Residue p (suc n))
  K2 = residue_ring prime.0 w2

  pair_vanishes : numeral (pair_ring K1 K2) p ≡ (pair_ring K1 K2).zero
  unfolding pair_ring
  pair_vanishes = pair_numeral K1 K2 p ∙ pair_path (characteristic prime.0 w1) (characteristic prime.0 w2)

  module _ (u1 u2 : Residue p (suc n)) where
    value1 : (f : List ℕ) → (evaluate (pair_ring K1 K2) f (u1, u2)).0 ≡ evaluate K1 f u1
    value1 f = homomorphism_evaluate (first_component K1 K2) f (u1, u2)

    -- a root in the product of the two rings is one in each
    pair_root : (q : List ℕ) → evaluate (pair_ring K1 K2) (monic q) (u1, u2) ≡ (pair_ring K1 K2).zero
        → (modulus_at p t1 u1.0 q ≡ constant (suc n) 0) × (modulus_at p t2 u2.0 q ≡ constant (suc n) 0)
    unfolding pair_ring
    pair_root q e = (
      root_is prime w1 u1 q (sym (value1 (monic q)) ∙ ap (λ x. x.0) e),
      root_is prime w2 u2 q (sym (homomorphism_evaluate (second_component K1 K2) (monic q) (u1, u2)) ∙ ap (λ x. x.1) e),
    )

  pub common_relation : (k : ℕ) → suc n ≡ p ^ k → (a1 u1 a2 u2 : Residue p (suc n)) → Tower K1 p k a1 u1 → Tower K2 p k a2 u2 → Independent p (suc n) t1 u1.0
      → (q : List ℕ) × Words p (suc n) q × (modulus_at p t1 u1.0 q ≡ constant (suc n) 0) × (modulus_at p t2 u2.0 q ≡ constant (suc n) 0)
  common_relation k degree a1 u1 a2 u2 tower1 tower2 independent =
      let (xs, subring, size, _, m) =
      tower_subring (pair_ring K1 K2) p prime.0 pair_vanishes k (a1, a2) (u1, u2) (pair_tower K1 K2 p k a1 u1 a2 u2 tower1 tower2) in
      let (q, wq, e) =
      relation_exists (pair_ring K1 K2) subring (u1, u2) m (×_discrete (residue_discrete p (suc n)) (residue_discrete p (suc n))) p (suc n)
      (size ∙ ap (λ l. p ^ l) (sym degree))
      (λ f g wf wg e. monic_injective prime w1 u1 independent f g wf wg (sym (value1 u1 u2 (monic f)) ∙ ap (λ x. x.0) e ∙ value1 u1 u2 (monic g))) in
      let (root1, root2) = pair_root u1 u2 q e in
      (q, wq, root1, root2)
