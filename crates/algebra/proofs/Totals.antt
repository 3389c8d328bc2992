-- Sums f(0) + f(1) + … + f(k − 1) in a commutative ring.
--   total R f k   this sum
use mathlib.Core.Path.{◌≡◌, refl, sym, ap, ap₂, ◌∙◌}
use Prim.Native.Nat.{ℕ, zero, suc, ◌+◌, ◌*◌, ◌<◌}
use native.Mathlib.Nat.{add-zero as ℕ·add-zero, add_comm as ℕ·add-comm, add-suc, mul-zero as ℕ·mul-zero, mul-suc}
use native.Mathlib.Omega.{arith}
use Rattle.algebra.specs.Ring.{CommutativeRing, numeral}
use Rattle.algebra.proofs.RingLaws.{ring_laws, add_assoc, add_comm, add_left_comm, add-zero, mul-zero, mul-add, zero-mul}

unfoldable pub total : {A : Type 0} → CommutativeRing A → (ℕ → A) → ℕ → A
total R f zero = R.zero
total R f (suc k) = R.add (total R f k) (f k)

module _ {A : Type 0} (R : CommutativeRing A) where
  open R use {zero as 𝟎, add as ◌⊕◌, mul as ◌⊗◌}

  infixl 60 ◌⊕◌
  infixl 70 ◌⊗◌
  pub total-zero : (f : ℕ → A) → total R f 0 ≡ 𝟎
  unfolding total
  total-zero f = refl

  pub total-suc : (f : ℕ → A) (k : ℕ) → total R f (suc k) ≡ total R f k ⊕ f k
  unfolding total
  total-suc f k = refl

  pub total_equal : (f g : ℕ → A) (k : ℕ) → ((i : ℕ) → i < k → f i ≡ g i) → total R f k ≡ total R g k
  unfolding total
  total_equal f g zero h = refl
  total_equal f g (suc k) h = ap₂ ◌⊕◌ (total_equal f g k (λ i l. h i (omega arith))) (h k (omega arith))

  pub total_add : (f g : ℕ → A) (k : ℕ) → total R (λ i. f i ⊕ g i) k ≡ total R f k ⊕ total R g k
  unfolding total
  total_add f g zero = sym (add-zero R 𝟎)
  total_add f g (suc k) = ap (λ s. s ⊕ (f k ⊕ g k)) (total_add f g k) ∙ exchange (total R f k) (total R g k) (f k) (g k)
    where
      exchange : (s t x y : A) → s ⊕ t ⊕ (x ⊕ y) ≡ s ⊕ x ⊕ (t ⊕ y)
      exchange s t x y = simp (add_assoc R, add_left_comm R)

  -- a map that preserves sums
  pub total_image : (h : A → A) → h 𝟎 ≡ 𝟎 → ((x y : A) → h (x ⊕ y) ≡ h x ⊕ h y) → (f : ℕ → A) (k : ℕ) → h (total R f k) ≡ total R (λ i. h (f i)) k
  unfolding total
  total_image h fixes sums f zero = fixes
  total_image h fixes sums f (suc k) = sums (total R f k) (f k) ∙ ap (λ s. s ⊕ h (f k)) (total_image h fixes sums f k)

  pub total_mul : (c : A) (f : ℕ → A) (k : ℕ) → total R (λ i. c ⊗ f i) k ≡ c ⊗ total R f k
  total_mul c f k = sym (total_image (λ x. c ⊗ x) (mul-zero R c) (mul-add R c) f k)

  pub total_constant : (c : A) (k : ℕ) → total R (λ i. c) k ≡ numeral R k ⊗ c
  unfolding total numeral
  total_constant c zero = sym (zero-mul R c)
  total_constant c (suc k) = ap (λ s. s ⊕ c) (total_constant c k) ∙ simp ring_laws

  pub total-append : (f : ℕ → A) (j k : ℕ) → total R f (j + k) ≡ total R f j ⊕ total R (λ i. f (j + i)) k
  total-append f j zero = ap (total R f) (ℕ·add-zero j) ∙ sym (ap (λ s. total R f j ⊕ s) (total-zero (λ i. f (j + i))) ∙ add-zero R (total R f j))
  total-append f j (suc k) =
      ap (total R f) (add-suc j k) ∙ total-suc f (j + k) ∙ ap (λ s. s ⊕ f (j + k)) (total-append f j k)
      ∙ add_assoc R (total R f j) (total R (λ i. f (j + i)) k) (f (j + k)) ∙ ap (λ s. total R f j ⊕ s) (sym (total-suc (λ i. f (j + i)) k))

  pub total_shift : (f : ℕ → A) (k : ℕ) → f 0 ⊕ total R (λ i. f (suc i)) k ≡ total R f (suc k)
  unfolding total
  total_shift f zero = add_comm R (f 0) 𝟎
  total_shift f (suc k) =
      sym (add_assoc R (f 0) (total R (λ i. f (suc i)) k) (f (suc k))) ∙ ap (λ s. s ⊕ f (suc k)) (total_shift f k)

  -- the a·b indices by their remainders modulo a
  pub total_product : (f : ℕ → A) (a b : ℕ) → total R f (a * b) ≡ total R (λ i. total R (λ j. f (i + a * j)) b) a
  total_product f a zero =
      ap (total R f) (ℕ·mul-zero a) ∙ total-zero f ∙ sym (mul-zero R (numeral R a)) ∙ sym (total_constant 𝟎 a)
      ∙ total_equal (λ i. 𝟎) (λ i. total R (λ j. f (i + a * j)) 0) a (λ i l. sym (total-zero (λ j. f (i + a * j))))
  total_product f a (suc b) =
      ap (total R f) (mul-suc a b) ∙ total-append f (a * b) a
      ∙ ap₂ ◌⊕◌ (total_product f a b) (total_equal (λ i. f (a * b + i)) (λ i. f (i + a * b)) a (λ i l. ap f (ℕ·add-comm (a * b) i)))
      ∙ sym (total_add (λ i. total R (λ j. f (i + a * j)) b) (λ i. f (i + a * b)) a)
      ∙ total_equal (λ i. total R (λ j. f (i + a * j)) b ⊕ f (i + a * b)) (λ i. total R (λ j. f (i + a * j)) (suc b)) a (λ i l. sym (total-suc (λ j. f (i + a * j)) b))
