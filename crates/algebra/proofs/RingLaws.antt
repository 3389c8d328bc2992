-- What follows from the laws of a commutative ring, with powers and numerals; every law takes the ring first.
--   ring_laws     the laws by which `simp` multiplies out and sorts sums and products (it does not cancel a against −a)
--   power R a k   the laws of exponents, by induction on the exponent
--   numeral R k   k ↦ k·1 preserves sums and products
use mathlib.Core.Path.{◌≡◌, refl, sym, ◌∙◌, ap, ap₂}
use Prim.Native.Nat.{ℕ, zero, suc, ◌+◌, ◌*◌}
use native.Mathlib.Nat.{suc-add, mul-suc, zero-add as ℕ·zero-add, mul-zero as ℕ·mul-zero, zero-mul as ℕ·zero-mul, suc-mul}
use Rattle.algebra.specs.Ring.{CommutativeRing, numeral, power}

module _ {A : Type 0} (R : CommutativeRing A) where
  open R use {zero as 𝟎, one as 𝟏, add as ◌⊕◌, neg as ⊖◌, mul as ◌⊗◌}

  infixl 60 ◌⊕◌
  infixl 70 ◌⊗◌
  infix 80 ⊖◌
  pub add_assoc : (a b c : A) → a ⊕ b ⊕ c ≡ a ⊕ (b ⊕ c)
  add_assoc = R.add_assoc

  pub add_comm : (a b : A) → a ⊕ b ≡ b ⊕ a
  add_comm = R.add_comm

  pub add_left_comm : (a b c : A) → a ⊕ (b ⊕ c) ≡ b ⊕ (a ⊕ c)
  add_left_comm a b c = sym (add_assoc a b c) ∙ ap (λ s. s ⊕ c) (add_comm a b) ∙ add_assoc b a c

  pub add-zero : (a : A) → a ⊕ 𝟎 ≡ a
  add-zero = R.add-zero

  pub zero-add : (a : A) → 𝟎 ⊕ a ≡ a
  zero-add a = add_comm 𝟎 a ∙ add-zero a

  pub add-neg : (a : A) → a ⊕ ⊖ a ≡ 𝟎
  add-neg = R.add-neg

  pub neg_add : (a : A) → ⊖ a ⊕ a ≡ 𝟎
  neg_add a = add_comm (⊖ a) a ∙ add-neg a

  pub neg_add_cancel_left : (a b : A) → ⊖ a ⊕ (a ⊕ b) ≡ b
  neg_add_cancel_left a b = sym (add_assoc (⊖ a) a b) ∙ ap (λ s. s ⊕ b) (neg_add a) ∙ zero-add b

  pub add_neg_cancel_left : (a b : A) → a ⊕ (⊖ a ⊕ b) ≡ b
  add_neg_cancel_left a b = sym (add_assoc a (⊖ a) b) ∙ ap (λ s. s ⊕ b) (add-neg a) ∙ zero-add b

  pub add_left_cancel : (a b c : A) → a ⊕ b ≡ a ⊕ c → b ≡ c
  add_left_cancel a b c e = sym (neg_add_cancel_left a b) ∙ ap (λ s. ⊖ a ⊕ s) e ∙ neg_add_cancel_left a c

  -- The negative of a is the one b with a + b = 0.
  pub neg_unique : (a b : A) → a ⊕ b ≡ 𝟎 → b ≡ ⊖ a
  neg_unique a b e = add_left_cancel a b (⊖ a) (e ∙ sym (add-neg a))

  pub neg_neg : (a : A) → ⊖ (⊖ a) ≡ a
  neg_neg a = sym (neg_unique (⊖ a) a (neg_add a))

  pub neg_zero : ⊖ 𝟎 ≡ 𝟎
  neg_zero = sym (neg_unique 𝟎 𝟎 (add-zero 𝟎))

  pub neg_of_sum : (a b : A) → ⊖ (a ⊕ b) ≡ ⊖ a ⊕ ⊖ b
  neg_of_sum a b = sym (neg_unique (a ⊕ b) (⊖ a ⊕ ⊖ b)
      (add_assoc a b (⊖ a ⊕ ⊖ b) ∙ ap (λ s. a ⊕ s) (add_left_comm b (⊖ a) (⊖ b)) ∙ add_neg_cancel_left a (b ⊕ ⊖ b) ∙ add-neg b))

  pub eq_of_sub_zero : (a b : A) → a ⊕ ⊖ b ≡ 𝟎 → a ≡ b
  eq_of_sub_zero a b e = sym (neg_neg a) ∙ ap ⊖◌ (sym (neg_unique a (⊖ b) e)) ∙ neg_neg b

  pub mul_assoc : (a b c : A) → a ⊗ b ⊗ c ≡ a ⊗ (b ⊗ c)
  mul_assoc = R.mul_assoc

  pub mul_comm : (a b : A) → a ⊗ b ≡ b ⊗ a
  mul_comm = R.mul_comm

  pub mul_left_comm : (a b c : A) → a ⊗ (b ⊗ c) ≡ b ⊗ (a ⊗ c)
  mul_left_comm a b c = sym (mul_assoc a b c) ∙ ap (λ s. s ⊗ c) (mul_comm a b) ∙ mul_assoc b a c

  pub mul-one : (a : A) → a ⊗ 𝟏 ≡ a
  mul-one = R.mul-one

  pub one-mul : (a : A) → 𝟏 ⊗ a ≡ a
  one-mul a = mul_comm 𝟏 a ∙ mul-one a

  pub mul-add : (a b c : A) → a ⊗ (b ⊕ c) ≡ a ⊗ b ⊕ a ⊗ c
  mul-add = R.mul-add

  pub add-mul : (a b c : A) → (a ⊕ b) ⊗ c ≡ a ⊗ c ⊕ b ⊗ c
  add-mul a b c = mul_comm (a ⊕ b) c ∙ mul-add c a b ∙ ap₂ ◌⊕◌ (mul_comm c a) (mul_comm c b)

  -- a·0 + a·0 = a·(0 + 0) = a·0 + 0.
  pub mul-zero : (a : A) → a ⊗ 𝟎 ≡ 𝟎
  mul-zero a = add_left_cancel (a ⊗ 𝟎) (a ⊗ 𝟎) 𝟎 (sym (mul-add a 𝟎 𝟎) ∙ ap (λ s. a ⊗ s) (add-zero 𝟎) ∙ sym (add-zero (a ⊗ 𝟎)))

  pub zero-mul : (a : A) → 𝟎 ⊗ a ≡ 𝟎
  zero-mul a = mul_comm 𝟎 a ∙ mul-zero a

  pub mul_neg : (a b : A) → a ⊗ ⊖ b ≡ ⊖ (a ⊗ b)
  mul_neg a b = neg_unique (a ⊗ b) (a ⊗ ⊖ b) (sym (mul-add a b (⊖ b)) ∙ ap (λ s. a ⊗ s) (add-neg b) ∙ mul-zero a)

  pub neg_mul : (a b : A) → ⊖ a ⊗ b ≡ ⊖ (a ⊗ b)
  neg_mul a b = mul_comm (⊖ a) b ∙ mul_neg b a ∙ ap ⊖◌ (mul_comm b a)

  pub ruleset ring_laws = (add_assoc, add_comm, add_left_comm, add-zero, zero-add, mul_assoc, mul_comm, mul_left_comm, mul-one, one-mul, mul-zero, zero-mul, mul-add, add-mul, mul_neg, neg_mul, neg_neg, neg_zero, neg_of_sum)

  pub power_zero : (a : A) → power R a 0 ≡ 𝟏
  unfolding power
  power_zero a = refl

  pub power-suc : (a : A) (k : ℕ) → power R a (suc k) ≡ a ⊗ power R a k
  unfolding power
  power-suc a k = refl

  pub power-one : (a : A) → power R a 1 ≡ a
  unfolding power
  power-one a = mul-one a

  pub power_of_one : (k : ℕ) → power R 𝟏 k ≡ 𝟏
  unfolding power
  power_of_one zero = refl
  power_of_one (suc k) = one-mul (power R 𝟏 k) ∙ power_of_one k

  pub power_of_zero : (k : ℕ) → power R 𝟎 (suc k) ≡ 𝟎
  unfolding power
  power_of_zero k = zero-mul (power R 𝟎 k)

  pub power-add : (a : A) (j k : ℕ) → power R a (j + k) ≡ power R a j ⊗ power R a k
  power-add a zero k = simp (ℕ·zero-add, power_zero, one-mul)
  power-add a (suc j) k = simp (suc-add, power-suc, power-add a j k, mul_assoc)

  pub power_product : (a b : A) (k : ℕ) → power R (a ⊗ b) k ≡ power R a k ⊗ power R b k
  power_product a b zero = simp (power_zero, mul-one)
  power_product a b (suc k) = simp (power-suc, power_product a b k, mul_assoc, mul_left_comm)

  pub power-mul : (a : A) (j k : ℕ) → power R a (j * k) ≡ power R (power R a j) k
  power-mul a j zero = simp (ℕ·mul-zero, power_zero)
  power-mul a j (suc k) = simp (mul-suc, power-add, power-mul a j k, power-suc, mul_comm)

  pub numeral-zero : numeral R 0 ≡ 𝟎
  unfolding numeral
  numeral-zero = refl

  pub numeral-suc : (k : ℕ) → numeral R (suc k) ≡ 𝟏 ⊕ numeral R k
  unfolding numeral
  numeral-suc k = refl

  pub numeral-one : numeral R 1 ≡ 𝟏
  unfolding numeral
  numeral-one = add-zero 𝟏

  pub numeral-add : (j k : ℕ) → numeral R (j + k) ≡ numeral R j ⊕ numeral R k
  numeral-add zero k = simp (ℕ·zero-add, numeral-zero, zero-add)
  numeral-add (suc j) k = simp (suc-add, numeral-suc, numeral-add j k, add_assoc)

  pub numeral-mul : (j k : ℕ) → numeral R (j * k) ≡ numeral R j ⊗ numeral R k
  numeral-mul zero k = simp (ℕ·zero-mul, numeral-zero, zero-mul)
  numeral-mul (suc j) k = simp (suc-mul, numeral-add, numeral-mul j k, numeral-suc, ring_laws)
