-- A polynomial of length d + 1 over a field with more than d distinct roots is zero. By synthetic division f(x) − f(r) = (x − r)·q(x)
-- with q shorter by one, stated without subtraction; every root of f but r is then a root of q, and q = 0 forces f = f(r) = 0.
--   f(a)             value R f a, for the list f of coefficients, constant first
--   quotient R r g   q for f = c + X·g: the values at r of g, of g without its constant, …
--   Zero R f         every coefficient of f is 0
--   Root F f r       f(r) = 0
use mathlib.Core.Path.{◌≡◌, refl, sym, ap, ◌∙◌, ◌≡⟨◌⟩◌, ◌∎}
use mathlib.Core.List.{List, [], ◌∷◌}
use mathlib.Core.Logic.{⊎_elim}
use Prim.Native.Nat.{suc, ◌≤◌, ◌<◌}
use native.Mathlib.Nat.{lt_of_not-le}
use native.Mathlib.Omega.{arith}
use lib.ListN.{length}
use Rattle.algebra.specs.Lists.{Member, Distinct, All}
use Rattle.algebra.specs.Ring.{CommutativeRing, Field, value}
use Rattle.algebra.proofs.Lists.{all_member, member_all, member_equal}
use Rattle.algebra.proofs.FieldLaws.{mul_right_cases}
use Rattle.algebra.proofs.RingLaws.{ring_laws, add_left_cancel, add-zero, mul-zero, add_assoc}

module _ {A : Type 0} (R : CommutativeRing A) where
  open R use {zero as 𝟎, add as ◌⊕◌, mul as ◌⊗◌}

  infixl 60 ◌⊕◌
  infixl 70 ◌⊗◌
  pub value-nil : (a : A) → value R [] a ≡ 𝟎
  unfolding value
  value-nil a = refl

  pub value-cons : (c : A) (f : List A) (a : A) → value R (c ∷ f) a ≡ c ⊕ a ⊗ value R f a
  unfolding value
  value-cons c f a = refl

  abbrev pub Zero : List A → Type 0
  Zero f = All (λ c. c ≡ 𝟎) f

  pub value-zero : (f : List A) (a : A) → Zero f → value R f a ≡ 𝟎
  value-zero [] a h = value-nil a
  value-zero (c ∷ f) a h = simp (value-cons, h.0, value-zero f a h.1, mul-zero R, add-zero R)

  unfoldable pub quotient : A → List A → List A
  quotient r [] = []
  quotient r (d ∷ g) = value R (d ∷ g) r ∷ quotient r g

  pub quotient-length : (r : A) (g : List A) → length (quotient r g) ≡ length g
  unfolding quotient
  quotient-length r [] = refl
  quotient-length r (d ∷ g) = ap suc (quotient-length r g)

  -- for g = d + X·h: y = h(x), k = h(r), s = g(r), q the value at x of the quotient for h
  factor_step : (x r d y k s q : A) → s ≡ d ⊕ r ⊗ k → x ⊗ y ⊕ r ⊗ q ≡ r ⊗ k ⊕ x ⊗ q → x ⊗ (d ⊕ x ⊗ y) ⊕ r ⊗ (s ⊕ x ⊗ q) ≡ r ⊗ s ⊕ x ⊗ (s ⊕ x ⊗ q)
  factor_step x r d y k s q at_r e =
      x ⊗ (d ⊕ x ⊗ y) ⊕ r ⊗ (s ⊕ x ⊗ q)
      ≡⟨ (simp ring_laws) ⟩ r ⊗ s ⊕ x ⊗ (d ⊕ (x ⊗ y ⊕ r ⊗ q))
      ≡⟨ ap (λ t. r ⊗ s ⊕ x ⊗ (d ⊕ t)) e ⟩ r ⊗ s ⊕ x ⊗ (d ⊕ (r ⊗ k ⊕ x ⊗ q))
      ≡⟨ ap (λ t. r ⊗ s ⊕ x ⊗ t) (sym (add_assoc R d (r ⊗ k) (x ⊗ q)) ∙ ap (λ t. t ⊕ x ⊗ q) (sym at_r)) ⟩ r ⊗ s ⊕ x ⊗ (s ⊕ x ⊗ q)
      ∎

  -- x·g(x) + r·q(x) = r·g(r) + x·q(x)
  pub factor : (r x : A) (g : List A) → x ⊗ value R g x ⊕ r ⊗ value R (quotient r g) x ≡ r ⊗ value R g r ⊕ x ⊗ value R (quotient r g) x
  unfolding quotient
  factor r x [] = simp (value-nil, mul-zero R)
  factor r x (d ∷ h) =
      rw (value-cons d h x, value-cons (value R (d ∷ h) r) (quotient r h) x)
      (factor_step x r d (value R h x) (value R h r) (value R (d ∷ h) r) (value R (quotient r h) x) (value-cons d h r) (factor r x h))

  -- c + X·f has a root and f = 0: then c = 0
  constant-zero : (c : A) (f : List A) (a : A) → Zero f → value R (c ∷ f) a ≡ 𝟎 → c ≡ 𝟎
  constant-zero c f a h e = simp (value-cons, value-zero f a h, mul-zero R, add-zero R) at e

  -- s·q(s) = r·q(s) where f(s) = f(r)
  equal_values : (c : A) (g : List A) (r s : A) → value R (c ∷ g) s ≡ value R (c ∷ g) r
      → s ⊗ value R (quotient r g) s ≡ r ⊗ value R (quotient r g) s
  equal_values c g r s e =
      let q : A = value R (quotient r g) s in
      let tails : s ⊗ value R g s ≡ r ⊗ value R g r = add_left_cancel R c _ _ (sym (value-cons c g s) ∙ e ∙ value-cons c g r) in
      add_left_cancel R (r ⊗ value R g r) (s ⊗ q) (r ⊗ q) (sym (factor r s g) ∙ ap (λ t. t ⊕ r ⊗ q) tails)

  quotient_zero : (r : A) (g : List A) → Zero (quotient r g) → Zero g
  unfolding quotient
  quotient_zero r [] z = tt
  quotient_zero r (d ∷ h) z = let rest : Zero h = quotient_zero r h z.1 in (constant-zero d h r rest z.0, rest)

module _ {A : Type 0} (F : Field A) where
  open F use {ring as R}
  open R use {zero as 𝟎}

  abbrev pub Root : List A → A → Type 0
  Root f r = value R f r ≡ 𝟎

  -- every other root of f is a root of the quotient
  root_of_quotient : (c : A) (g : List A) (r s : A) → Root (c ∷ g) r → Root (c ∷ g) s → (s ≡ r → ⊥) → Root (quotient R r g) s
  root_of_quotient c g r s at_r at_s apart =
      ⊎_elim (λ e. absurd (apart e)) (λ z. z) (mul_right_cases F s r (value R (quotient R r g) s) (equal_values R c g r s (at_s ∙ sym at_r)))

  pub zero_of_roots : (rs f : List A) → Distinct rs → All (Root f) rs → length f ≤ length rs → Zero R f
  zero_of_roots [] [] d roots long = tt
  zero_of_roots [] (c ∷ g) d roots long = absurd (omega arith)
  zero_of_roots (r ∷ rs) [] d roots long = tt
  zero_of_roots (r ∷ rs) (c ∷ g) d roots long =
      let q : List A = quotient R r g in
      let each : (s : A) → Member s rs → Root (c ∷ g) s = all_member (Root (c ∷ g)) rs roots.1 in
      let other : (s : A) → Member s rs → Root q s = λ s m. root_of_quotient c g r s roots.0 (each s m) (λ e. d.0 (member_equal rs e m)) in
      let tail : Zero R g = quotient_zero R r g (zero_of_roots rs q d.1 (member_all (Root q) rs other) (omega (arith, quotient-length R r g))) in
      (constant-zero R c g r tail roots.0, tail)

  -- d + 1 coefficients, not all 0: at most d roots
  pub roots_at_most_degree : (rs f : List A) → (Zero R f → ⊥) → Distinct rs → All (Root f) rs → length rs < length f
  roots_at_most_degree rs f n d roots = lt_of_not-le (λ long. n (zero_of_roots rs f d roots long))
