-- The equation u^k = b in a field with N = k·m elements other than 0. It has at most k solutions, the roots of X^k − b, and at least k if
-- b^m = 1: every u ≠ 0 satisfies 0 = u^N − b^m = (u^k − b)·G(u^k), where G(Z) is the sum of Z^i·b^(m−1−i) for i < m, and G(X^k) has at
-- most N − k roots.
--   shifted R k f         X^k·f
--   geometric R k b i     G(X^(k + 1)) for m = i + 1
use mathlib.Core.Path.{◌≡◌, sym, ap, ◌∙◌, ◌≡⟨◌⟩◌, ◌∎}
use mathlib.Core.List.{List, [], ◌∷◌}
use mathlib.Core.Logic.{⊎_elim}
use Prim.Native.Nat.{ℕ, zero, suc, ◌+◌, ◌*◌, ◌≤◌, ◌<◌}
use native.Mathlib.Nat.{le_trans}
use native.Mathlib.Omega.{arith}
use lib.ListN.{length}
use Rattle.algebra.specs.Lists.{Member, Distinct, All}
use Rattle.algebra.specs.Ring.{CommutativeRing, Field, power, value}
use Rattle.algebra.proofs.Lists.{some_member, all_member, member_all}
use Rattle.algebra.proofs.Counting.{without-length, Chosen, chosen_none, Parted, part}
use Rattle.algebra.proofs.FieldLaws.{mul_right_cases}
use Rattle.algebra.proofs.RingLaws.{ring_laws, add_left_cancel, add-zero, zero-add, mul-zero, add_comm, mul_assoc, mul-one, one-mul, power_zero, power-suc, power-one, power-mul, neg_add}
use Rattle.algebra.proofs.Roots.{value-nil, value-cons, Zero, Root, roots_at_most_degree}
use Rattle.algebra.proofs.Units.{Units, power_units}

module _ {A : Type 0} (R : CommutativeRing A) where
  open R use {zero as 𝟎, one as 𝟏, add as ◌⊕◌, mul as ◌⊗◌}

  infixl 60 ◌⊕◌
  infixl 70 ◌⊗◌
  shifted : ℕ → List A → List A
  shifted zero f = f
  shifted (suc k) f = 𝟎 ∷ shifted k f

  shifted-length : (k : ℕ) (f : List A) → length (shifted k f) ≡ k + length f
  unfolding shifted
  shifted-length zero f = omega arith
  shifted-length (suc k) f = omega (arith, shifted-length k f)

  shifted-value : (k : ℕ) (f : List A) (a : A) → value R (shifted k f) a ≡ power R a k ⊗ value R f a
  unfolding shifted
  shifted-value zero f a = simp (power_zero R, one-mul R)
  shifted-value (suc k) f a = simp (value-cons R, shifted-value k f a, power-suc R, zero-add R, mul_assoc R)

  shifted_zero : (k : ℕ) (f : List A) → Zero R (shifted k f) → Zero R f
  unfolding shifted
  shifted_zero zero f h = h
  shifted_zero (suc k) f h = shifted_zero k f h.1

  value-one : (a : A) → value R (𝟏 ∷ []) a ≡ 𝟏
  value-one a = simp (value-cons R, value-nil R, mul-zero R, add-zero R)

  -- the value of c + X^(k + 1)·f
  constant_value : (c : A) (k : ℕ) (f : List A) (a : A) → value R (c ∷ shifted k f) a ≡ c ⊕ power R a (suc k) ⊗ value R f a
  constant_value c k f a = simp (value-cons R, shifted-value, power-suc R, mul_assoc R)

  geometric : ℕ → A → ℕ → List A
  geometric k b zero = 𝟏 ∷ []
  geometric k b (suc i) = power R b (suc i) ∷ shifted k (geometric k b i)

  geometric-length : (k : ℕ) (b : A) (i : ℕ) → length (geometric k b i) ≡ suc (i * suc k)
  unfolding geometric
  geometric-length k b zero = omega arith
  geometric-length k b (suc i) = omega (arith, shifted-length k (geometric k b i), geometric-length k b i)

  geometric-zero : (k : ℕ) (b : A) (i : ℕ) → Zero R (geometric k b i) → 𝟏 ≡ 𝟎
  unfolding geometric
  geometric-zero k b zero h = h.0
  geometric-zero k b (suc i) h = geometric-zero k b i (shifted_zero k (geometric k b i) h.1)

  geometric_step : (z b s t g : A) → s ⊕ b ⊗ g ≡ t ⊕ z ⊗ g → z ⊗ s ⊕ b ⊗ (t ⊕ z ⊗ g) ≡ b ⊗ t ⊕ z ⊗ (t ⊕ z ⊗ g)
  geometric_step z b s t g e =
      z ⊗ s ⊕ b ⊗ (t ⊕ z ⊗ g)
      ≡⟨ (simp ring_laws) ⟩ b ⊗ t ⊕ z ⊗ (s ⊕ b ⊗ g)
      ≡⟨ ap (λ r. b ⊗ t ⊕ z ⊗ r) e ⟩ b ⊗ t ⊕ z ⊗ (t ⊕ z ⊗ g)
      ∎

  -- Z^m + b·G(Z) = b^m + Z·G(Z) at Z = u^k
  geometric_sum_lem : (k : ℕ) (b : A) (i : ℕ) (u : A)
      → power R (power R u (suc k)) (suc i) ⊕ b ⊗ value R (geometric k b i) u ≡ power R b (suc i) ⊕ power R u (suc k) ⊗ value R (geometric k b i) u
  unfolding geometric
  geometric_sum_lem k b zero u = simp (value-one, power-one R, mul-one R, add_comm R)
  geometric_sum_lem k b (suc i) u =
      let z : A = power R u (suc k) in
      rw (constant_value (power R b (suc i)) k (geometric k b i) u, power-suc R z (suc i), power-suc R b (suc i))
      (geometric_step z b (power R z (suc i)) (power R b (suc i)) (value R (geometric k b i) u) (geometric_sum_lem k b i u))

module _ {A : Type 0} (F : Field A) where
  open F use {ring as R}
  open R use {one as 𝟏, add as ◌⊕◌, neg as ⊖◌, mul as ◌⊗◌}

  infixl 60 ◌⊕◌
  infixl 70 ◌⊗◌
  infix 80 ⊖◌
  -- u^k = b makes u a root of X^k − b
  binomial_root : (k : ℕ) (b u : A) → power R u (suc k) ≡ b → Root F (⊖ b ∷ shifted R k (𝟏 ∷ [])) u
  binomial_root k b u e = constant_value R (⊖ b) k (𝟏 ∷ []) u ∙ simp (value-one R, mul-one R, e, neg_add R)

  pub power_roots_at_most : (k : ℕ) (b : A) (rs : List A) → 0 < k → Distinct rs → All (λ u. power R u k ≡ b) rs → length rs ≤ k
  power_roots_at_most zero b rs pos d h = absurd (omega arith)
  power_roots_at_most (suc k) b rs pos d h =
      let f : List A = ⊖ b ∷ shifted R k (𝟏 ∷ []) in
      let leading : Zero R f → ⊥ = λ z. F.one-ne-zero (shifted_zero R k (𝟏 ∷ []) z.1).0 in
      let few : length rs < length f = roots_at_most_degree F rs f leading d (member_all (Root F f) rs (λ u m. binomial_root k b u (all_member _ rs h u m))) in
      omega (arith, few, shifted-length R k (𝟏 ∷ []))

  module _ (us : List A) (units : Units F us) where
    -- an element whose k-th power is not b makes G(X^k) zero
    geometric_root : (k i : ℕ) → length us ≡ suc k * suc i → (b : A) → power R b (suc i) ≡ 𝟏 → (u : A) → Member u us
        → (power R u (suc k) ≡ b → ⊥) → Root F (geometric R k b i) u
    geometric_root k i count b e u m apart =
        let z : A = power R u (suc k) in
        let g : A = value R (geometric R k b i) u in
        let unit : power R z (suc i) ≡ 𝟏 = sym (power-mul R u (suc k) (suc i)) ∙ ap (power R u) (sym count) ∙ power_units F us units u (units.nonzero u m) in
        let sums : 𝟏 ⊕ b ⊗ g ≡ 𝟏 ⊕ z ⊗ g = ap (λ t. t ⊕ b ⊗ g) (sym unit) ∙ geometric_sum_lem R k b i u ∙ ap (λ t. t ⊕ z ⊗ g) e in
        ⊎_elim (λ h. absurd (apart (sym h))) (λ h. h) (mul_right_cases F b z g (add_left_cancel R 𝟏 (b ⊗ g) (z ⊗ g) sums))

    -- all other elements of us are roots of G(X^k), so at least k of them solve u^k = b
    pub power_roots : (k m : ℕ) → length us ≡ k * m → (b : A) → power R b m ≡ 𝟏 → (rs : Chosen (λ u. power R u k ≡ b) us) × (k ≤ length rs.elements)
    power_roots zero m count b e = (chosen_none (λ u. power R u 0 ≡ b) us, omega arith)
    power_roots (suc k) zero count b e = absurd (omega (arith, count, without-length us 𝟏 (units.complete 𝟏 F.one-ne-zero)))
    power_roots (suc k) (suc i) count b e =
        let r : Parted (λ u. power R u (suc k) ≡ b) us = part (λ u. power R u (suc k) ≡ b) (λ u. F.discrete (power R u (suc k)) b) us in
        let others : List A = r.failing.elements in
        let f : List A = geometric R k b i in
        let root : (u : A) → Member u others → Root F f u =
        λ u m. geometric_root k i count b e u (r.failing.within u m) (all_member _ others r.failing.each u m) in
        let leading : Zero R f → ⊥ = λ z. F.one-ne-zero (geometric-zero R k b i z) in
        let few : length others < length f = roots_at_most_degree F others f leading (r.failing.distinct units.distinct) (member_all (Root F f) others root) in
        (r.passing, omega (arith, few, count, r.lengths, geometric-length R k b i))

    -- one solution
    pub power_root : (k m : ℕ) → 0 < k → length us ≡ k * m → (b : A) → power R b m ≡ 𝟏 → (u : A) × (power R u k ≡ b)
    power_root k m pos count b e =
        let (rs, many) = power_roots k m count b e in
        let (u, l) = some_member rs.elements (le_trans pos many) in
        (u, all_member _ rs.elements rs.each u l)
