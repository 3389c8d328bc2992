-- Functions that polynomials give. They are closed under sums, multiples and products with x + c, and over a field such a function with as
-- many zeros as coefficients is 0 everywhere.
--   Polynomial R m g   g is the function x ↦ f(x) for some list f of m coefficients
use mathlib.Core.Path.{◌≡◌, refl, sym, ap, ap₂, ◌∙◌}
use mathlib.Core.List.{List, [], ◌∷◌, ◌++◌, map}
use mathlib.Core.Logic.{⊎_elim}
use Prim.Native.Nat.{ℕ, zero, suc, ◌≤◌, ◌<◌}
use native.Mathlib.Nat.{eq-or-lt_of_le}
use native.Mathlib.Omega.{arith}
use lib.ListN.{length, length-map, length-append}
use Rattle.algebra.specs.Lists.{Member, Distinct, All}
use Rattle.algebra.specs.Ring.{CommutativeRing, Field, power, value}
use Rattle.algebra.proofs.Lists.{all_member, member_all}
use Rattle.algebra.proofs.RingLaws.{ring_laws, add-zero, zero-add, mul-zero, mul-one, one-mul, add-mul, power_zero, power-suc}
use Rattle.algebra.proofs.Roots.{value-nil, value-cons, value-zero, Zero, Root, zero_of_roots, roots_at_most_degree}
use Rattle.algebra.proofs.Totals.{total, total-zero, total-suc}

module _ {A : Type 0} (R : CommutativeRing A) where
  open R use {zero as 𝟎, one as 𝟏, add as ◌⊕◌, mul as ◌⊗◌}

  infixl 60 ◌⊕◌
  infixl 70 ◌⊗◌
  abbrev pub Polynomial : ℕ → (A → A) → Type 0
  Polynomial m g = (f : List A) × (length f ≡ m) × ((x : A) → g x ≡ value R f x)

  -- f(x) + x^m·h(x), where f has m coefficients
  value-append : (f h : List A) (x : A) → value R (f ++ h) x ≡ value R f x ⊕ power R x (length f) ⊗ value R h x
  value-append [] h x = simp (value-nil R, power_zero R, one-mul R, zero-add R)
  value-append (c ∷ f) h x =
      simp (value-cons R, power-suc R) (ap (λ s. c ⊕ x ⊗ s) (value-append f h x) ∙ spread (value R f x) (power R x (length f)) (value R h x))
    where
      spread : (s y t : A) → c ⊕ x ⊗ (s ⊕ y ⊗ t) ≡ c ⊕ x ⊗ s ⊕ x ⊗ y ⊗ t
      spread s y t = simp ring_laws

  value_scaled : (c : A) (f : List A) (x : A) → value R (map (◌⊗◌ c) f) x ≡ c ⊗ value R f x
  value_scaled c [] x = simp (value-nil R, mul-zero R)
  value_scaled c (d ∷ f) x = simp (value-cons R) (ap (λ s. c ⊗ d ⊕ x ⊗ s) (value_scaled c f x) ∙ spread (value R f x))
    where
      spread : (s : A) → c ⊗ d ⊕ x ⊗ (c ⊗ s) ≡ c ⊗ (d ⊕ x ⊗ s)
      spread s = simp ring_laws

  -- the sum of two lists of coefficients; past the end of one the other goes on
  plus : List A → List A → List A
  plus [] h = h
  plus (c ∷ f) [] = c ∷ f
  plus (c ∷ f) (d ∷ h) = (c ⊕ d) ∷ plus f h

  plus-length : (f h : List A) → length f ≡ length h → length (plus f h) ≡ length f
  unfolding plus
  plus-length [] h e = sym e
  plus-length (c ∷ f) [] e = refl
  plus-length (c ∷ f) (d ∷ h) e = omega (arith, plus-length f h (omega arith))

  value-plus : (f h : List A) (x : A) → value R (plus f h) x ≡ value R f x ⊕ value R h x
  unfolding plus
  value-plus [] h x = simp (value-nil R, zero-add R)
  value-plus (c ∷ f) [] x = simp (value-nil R, add-zero R)
  value-plus (c ∷ f) (d ∷ h) x = simp (value-cons R) (ap (λ s. c ⊕ d ⊕ x ⊗ s) (value-plus f h x) ∙ exchange (value R f x) (value R h x))
    where
      exchange : (s t : A) → c ⊕ d ⊕ x ⊗ (s ⊕ t) ≡ c ⊕ x ⊗ s ⊕ (d ⊕ x ⊗ t)
      exchange s t = simp ring_laws

  pub polynomial_equal : (m : ℕ) (g h : A → A) → ((x : A) → h x ≡ g x) → Polynomial m g → Polynomial m h
  polynomial_equal m g h e (f, l, v) = (f, l, λ x. e x ∙ v x)

  pub polynomial_add : (m : ℕ) (g h : A → A) → Polynomial m g → Polynomial m h → Polynomial m (λ x. g x ⊕ h x)
  polynomial_add m g h (f, l, v) (k, r, w) =
      (plus f k, plus-length f k (l ∙ sym r) ∙ l, λ x. ap₂ ◌⊕◌ (v x) (w x) ∙ sym (value-plus f k x))

  pub polynomial_scale : (m : ℕ) (g : A → A) (c : A) → Polynomial m g → Polynomial m (λ x. c ⊗ g x)
  polynomial_scale m g c (f, l, v) = (map (◌⊗◌ c) f, length-map f (◌⊗◌ c) ∙ l, λ x. ap (◌⊗◌ c) (v x) ∙ sym (value_scaled c f x))

  -- the coefficient 0 at the end
  pub polynomial_grow : (m : ℕ) (g : A → A) → Polynomial m g → Polynomial (suc m) g
  polynomial_grow m g (f, l, v) =
      (f ++ (𝟎 ∷ []), omega (arith, length-append f (𝟎 ∷ []), l), λ x. v x ∙ sym (value-append f (𝟎 ∷ []) x ∙ simp (value-cons R, value-nil R, mul-zero R, add-zero R)))

  pub polynomial_more : (m n : ℕ) (g : A → A) → m ≤ n → Polynomial m g → Polynomial n g
  polynomial_more m zero g less (f, l, v) = (f, omega arith, v)
  polynomial_more m (suc n) g less h =
      ⊎_elim (λ e. (h.0, h.1 ∙ e, h.2)) (λ l. polynomial_grow n g (polynomial_more m n g (omega arith) h)) (eq-or-lt_of_le less)

  pub polynomial_cons : (m : ℕ) (g : A → A) (c : A) → Polynomial m g → Polynomial (suc m) (λ x. c ⊕ x ⊗ g x)
  polynomial_cons m g c (f, l, v) = (c ∷ f, ap suc l, λ x. ap (λ s. c ⊕ x ⊗ s) (v x) ∙ sym (value-cons R c f x))

  pub polynomial_zero : (m : ℕ) → Polynomial m (λ x. 𝟎)
  polynomial_zero zero = ([], refl, λ x. sym (value-nil R x))
  polynomial_zero (suc m) = polynomial_grow m (λ x. 𝟎) (polynomial_zero m)

  pub polynomial_constant : (m : ℕ) (c : A) → 0 < m → Polynomial m (λ x. c)
  polynomial_constant zero c pos = absurd (omega arith)
  polynomial_constant (suc m) c pos =
      polynomial_equal (suc m) (λ x. c ⊕ x ⊗ 𝟎) (λ x. c) (λ x. simp (mul-zero R, add-zero R)) (polynomial_cons m (λ x. 𝟎) c (polynomial_zero m))

  pub polynomial_linear : (m : ℕ) (g : A → A) (c : A) → Polynomial m g → Polynomial (suc m) (λ x. (x ⊕ c) ⊗ g x)
  polynomial_linear m g c h =
      polynomial_equal (suc m) (λ x. 𝟎 ⊕ x ⊗ g x ⊕ c ⊗ g x) (λ x. (x ⊕ c) ⊗ g x) (λ x. simp (zero-add R, add-mul R))
      (polynomial_add (suc m) (λ x. 𝟎 ⊕ x ⊗ g x) (λ x. c ⊗ g x) (polynomial_cons m g 𝟎 h) (polynomial_grow m (λ x. c ⊗ g x) (polynomial_scale m g c h)))

  pub polynomial_linear_power : (c : A) (d m : ℕ) → d < m → Polynomial m (λ x. power R (x ⊕ c) d)
  polynomial_linear_power c d zero less = absurd (omega arith)
  polynomial_linear_power c zero (suc m) less =
      polynomial_equal (suc m) (λ x. 𝟏) (λ x. power R (x ⊕ c) 0) (λ x. power_zero R (x ⊕ c)) (polynomial_constant (suc m) 𝟏 (omega arith))
  polynomial_linear_power c (suc d) (suc m) less =
      polynomial_equal (suc m) (λ x. (x ⊕ c) ⊗ power R (x ⊕ c) d) (λ x. power R (x ⊕ c) (suc d)) (λ x. power-suc R (x ⊕ c) d)
      (polynomial_linear m (λ x. power R (x ⊕ c) d) c (polynomial_linear_power c d m (omega arith)))

  pub polynomial_power : (d m : ℕ) → d < m → Polynomial m (λ x. power R x d)
  polynomial_power d m less =
      polynomial_equal m (λ x. power R (x ⊕ 𝟎) d) (λ x. power R x d) (λ x. ap (λ y. power R y d) (sym (add-zero R x))) (polynomial_linear_power 𝟎 d m less)

  pub polynomial_total : (m : ℕ) (g : ℕ → A → A) (k : ℕ) → ((i : ℕ) → i < k → Polynomial m (g i)) → Polynomial m (λ x. total R (λ i. g i x) k)
  polynomial_total m g zero h = polynomial_equal m (λ x. 𝟎) (λ x. total R (λ i. g i x) 0) (λ x. total-zero R (λ i. g i x)) (polynomial_zero m)
  polynomial_total m g (suc k) h =
      polynomial_equal m (λ x. total R (λ i. g i x) k ⊕ g k x) (λ x. total R (λ i. g i x) (suc k)) (λ x. total-suc R (λ i. g i x) k)
      (polynomial_add m (λ x. total R (λ i. g i x) k) (g k) (polynomial_total m g k (λ i l. h i (omega arith))) (h k (omega arith)))

module _ {A : Type 0} (F : Field A) where
  open F use {ring as R}
  open R use {zero as 𝟎, one as 𝟏, add as ◌⊕◌}

  infixl 60 ◌⊕◌
  pub polynomial_vanishes : (m : ℕ) (g : A → A) → Polynomial R m g → (rs : List A) → Distinct rs → All (λ r. g r ≡ 𝟎) rs → m ≤ length rs → (x : A) → g x ≡ 𝟎
  polynomial_vanishes m g (f, l, v) rs d roots long x =
      v x ∙ value-zero R f x (zero_of_roots F rs f d (member_all (Root F f) rs (λ r h. sym (v r) ∙ all_member _ rs roots r h)) (omega arith))

  -- X^m + g has m + 1 coefficients and is not 0
  leading_one : (f : List A) → Zero R (f ++ (𝟏 ∷ [])) → 𝟏 ≡ 𝟎
  leading_one [] h = h.0
  leading_one (c ∷ f) h = leading_one f h.1

  pub monic_roots : (m : ℕ) (g : A → A) → Polynomial R m g → (rs : List A) → Distinct rs → All (λ r. g r ⊕ power R r m ≡ 𝟎) rs → length rs ≤ m
  monic_roots m g (f, l, v) rs d roots =
      let h : List A = f ++ (𝟏 ∷ []) in
      let few : length rs < length h = roots_at_most_degree F rs h (λ z. F.one-ne-zero (leading_one f z)) d (member_all (Root F h) rs root) in
      omega (arith, length-append f (𝟏 ∷ []))
    where
      root : (r : A) → Member r rs → Root F (f ++ (𝟏 ∷ [])) r
      root r k =
          value-append R f (𝟏 ∷ []) r ∙ simp (value-cons R, value-nil R, mul-zero R, add-zero R, mul-one R)
          (ap₂ ◌⊕◌ (sym (v r)) (ap (power R r) l) ∙ all_member _ rs roots r k)
