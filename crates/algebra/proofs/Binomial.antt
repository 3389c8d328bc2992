-- The binomial theorem, and that a prime p divides the binomials between the two ends of its row.
--   binomial i j          B(i, j) = (i + j)! / (i!·j!), by Pascal's rule
--   expansion R a b i j   the sum of the terms B(k, l)·a^k·b^l with k + l = i + j − 1 and k < i
use mathlib.Core.Path.{◌≡◌, refl, sym, ◌∙◌, ap, ap₂}
use mathlib.Core.Logic.{◌⊎◌, inl, inr}
use Prim.Native.Nat.{ℕ, zero, suc, ◌+◌, ◌*◌, ◌%◌}
use native.Mathlib.Nat.{mul-mod_right, mod-eq_of_lt}
use native.Mathlib.Omega.{arith}
use Rattle.algebra.specs.Prime.{Prime}
use Rattle.algebra.specs.Ring.{CommutativeRing, numeral, power}
use Rattle.algebra.proofs.Euclid.{euclid}
use Rattle.algebra.proofs.RingLaws.{ring_laws, numeral-add}

unfoldable pub binomial : ℕ → ℕ → ℕ
binomial zero j = 1
binomial (suc i) zero = 1
binomial (suc i) (suc j) = binomial i (suc j) + binomial (suc i) j

-- The two ways to take a factor out of a binomial: (i + 1)·B(i + 1, j) = (i + j + 1)·B(i, j) = (j + 1)·B(i, j + 1).
abbrev Absorption : ℕ → ℕ → Type 0
Absorption i j = (suc i * binomial (suc i) j ≡ suc (i + j) * binomial i j) × (suc j * binomial i (suc j) ≡ suc (i + j) * binomial i j)

-- The step from (i, j) to (i, j + 1) for the first, and to (i + 1, j) for the second; u + v is B(i + 1, j + 1).
absorption_up : (i j u v w : ℕ) → suc i * v ≡ suc (i + j) * w → suc j * u ≡ suc (i + j) * w → suc i * (u + v) ≡ suc (i + suc j) * u
absorption_up i j u v w g h = omega arith

absorption_right : (i j u v w : ℕ) → suc i * v ≡ suc (i + j) * w → suc j * u ≡ suc (i + j) * w → suc j * (u + v) ≡ suc (suc i + j) * v
absorption_right i j u v w g h = omega arith

absorption : (i j : ℕ) → Absorption i j
unfolding binomial
absorption zero zero = (refl, refl)
absorption zero (suc j) = let h = absorption zero j in (absorption_up 0 j 1 (binomial 1 j) 1 h.0 h.1, omega arith)
absorption (suc i) zero = let h = absorption i zero in (omega arith, absorption_right i 0 (binomial i 1) 1 (binomial i 0) h.0 h.1)
absorption (suc i) (suc j) =
    let h = absorption (suc i) j in
    let k = absorption i (suc j) in (
      absorption_up (suc i) j (binomial (suc i) (suc j)) (binomial (suc (suc i)) j) (binomial (suc i) j) h.0 h.1,
      absorption_right i (suc j) (binomial i (suc (suc j))) (binomial (suc i) (suc j)) (binomial i (suc j)) k.0 k.1,
    )

-- (i + 1)·B(i + 1, j + 1) is a multiple of p = i + j + 2, and i + 1 is not.
pub prime_divides_binomial : (p i j : ℕ) → Prime p → suc i + suc j ≡ p → binomial (suc i) (suc j) % p ≡ 0
prime_divides_binomial p i j prime e = go (euclid p (suc i) (binomial (suc i) (suc j)) prime multiple)
  where
    row : suc (i + suc j) ≡ p
    row = omega arith

    multiple : (suc i * binomial (suc i) (suc j)) % p ≡ 0
    multiple = ap (λ x. x % p) ((absorption i (suc j)).0 ∙ ap (λ x. x * binomial i (suc j)) row) ∙ mul-mod_right p (binomial i (suc j))

    go : (suc i % p ≡ 0) ⊎ (binomial (suc i) (suc j) % p ≡ 0) → binomial (suc i) (suc j) % p ≡ 0
    go (inl h) = let l : suc i % p ≡ suc i = mod-eq_of_lt (omega arith) in absurd (omega arith)
    go (inr h) = h

zero-binomial : (j : ℕ) → binomial 0 j ≡ 1
unfolding binomial
zero-binomial j = refl

pub binomial-zero : (i : ℕ) → binomial i 0 ≡ 1
unfolding binomial
binomial-zero zero = refl
binomial-zero (suc i) = refl

module _ {A : Type 0} (R : CommutativeRing A) (a b : A) where
  open R use {zero as 𝟎, add as ◌⊕◌, mul as ◌⊗◌}

  infixl 60 ◌⊕◌
  infixl 70 ◌⊗◌
  unfoldable pub expansion : ℕ → ℕ → A
  expansion zero j = 𝟎
  expansion (suc i) j = numeral R (binomial i j) ⊗ (power R a i ⊗ power R b j) ⊕ expansion i (suc j)

  -- The rule of Pascal for the sums, by that for the binomials, term by term.
  pascal_step : (m n s t u v : A) → (m ⊕ n) ⊗ (a ⊗ s ⊗ (b ⊗ t)) ⊕ (a ⊗ u ⊕ b ⊗ v) ≡ a ⊗ (m ⊗ (s ⊗ (b ⊗ t)) ⊕ u) ⊕ b ⊗ (n ⊗ (a ⊗ s ⊗ t) ⊕ v)
  pascal_step m n s t u v = simp ring_laws

  expansion_pascal : (i j : ℕ) → expansion (suc i) (suc j) ≡ a ⊗ expansion i (suc j) ⊕ b ⊗ expansion (suc i) j
  unfolding expansion binomial power
  expansion_pascal zero j = simp (zero-binomial, ring_laws)
  expansion_pascal (suc i) j =
      ap₂ (λ m e. m ⊗ (power R a (suc i) ⊗ power R b (suc j)) ⊕ e) (numeral-add R (binomial i (suc j)) (binomial (suc i) j)) (expansion_pascal i (suc j))
      ∙ pascal_step _ _ (power R a i) (power R b j) _ _

  first_step : (n s t u : A) → n ⊗ (a ⊗ s ⊗ t) ⊕ (a ⊗ u ⊕ b ⊗ (n ⊗ (s ⊗ t) ⊕ u)) ≡ (a ⊕ b) ⊗ (n ⊗ (s ⊗ t) ⊕ u)
  first_step n s t u = simp ring_laws

  expansion-suc : (i : ℕ) → expansion (suc (suc i)) 0 ≡ (a ⊕ b) ⊗ expansion (suc i) 0
  unfolding expansion power
  expansion-suc i =
      ap₂ (λ m e. numeral R m ⊗ (power R a (suc i) ⊗ power R b 0) ⊕ e) (binomial-zero (suc i) ∙ sym (binomial-zero i)) (expansion_pascal i 0)
      ∙ first_step (numeral R (binomial i 0)) (power R a i) (power R b 0) (expansion i 1)

  pub binomial_theorem : (n : ℕ) → power R (a ⊕ b) n ≡ expansion (suc n) 0
  unfolding expansion binomial numeral power
  binomial_theorem zero = simp ring_laws
  binomial_theorem (suc n) = ap (λ e. (a ⊕ b) ⊗ e) (binomial_theorem n) ∙ sym (expansion-suc n)
