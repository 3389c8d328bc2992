-- The first coefficient of a list of words that is not zero, and division by it: modulo a prime a product with c ≠ 0 is zero only where the
-- coefficient is, so the first that is not zero in c·u is c times that of u.
--   first_non_zero u    the first coefficient that is not zero, counted from the constant
--   normalised p u      u times the inverse of that coefficient
use mathlib.Core.Path.{◌≡◌, refl, sym, ap, ap₂, ◌∙◌}
use mathlib.Core.List.{List, [], ◌∷◌}
use mathlib.Core.Logic.{⊎_elim}
use Prim.Native.Nat.{ℕ, zero, suc, ◌*◌, ◌%◌, ◌<◌}
use native.Mathlib.Nat.{mod-eq_of_lt, zero-mod, zero-mul, mul-zero, pos_of_ne-zero, mul_comm}
use native.Mathlib.Decide.{ℕ_discrete}
use native.Mathlib.Omega.{arith}
use borrow.Author.Tests.{ne_eqb}
use lib.ListN.{replicate}
use Rattle.algebra.specs.Prime.{Prime}
use Rattle.algebra.proofs.Euclid.{euclid}
use Rattle.modular.specs.Inverse.{inverse}
use Rattle.modular.proofs.Inverse.{inverse_product, inverse_bound}
use Rattle.array.specs.Words.{Words, none, more}
use Rattle.quotient.specs.Residue.{scale, constant}
use Rattle.quotient.proofs.Operations.{constant-zero}
use Rattle.galois.specs.Eigenvector.{first_non_zero}

pub first_non_zero-zero : (a : ℕ) (u : List ℕ) → a ≡ 0 → first_non_zero (a ∷ u) ≡ first_non_zero u
unfolding first_non_zero
first_non_zero-zero a u e = rw (e, first_non_zero)

pub first_non_zero_nonzero : (a : ℕ) (u : List ℕ) → (a ≡ 0 → ⊥) → first_non_zero (a ∷ u) ≡ a
unfolding first_non_zero
first_non_zero_nonzero a u n = rw (ne_eqb a 0 n, first_non_zero)

pub first_non_zero-nil : first_non_zero [] ≡ 0
unfolding first_non_zero
first_non_zero-nil = refl

first_non_zero_zeros : (n : ℕ) → first_non_zero (replicate n 0) ≡ 0
first_non_zero_zeros zero = first_non_zero-nil
first_non_zero_zeros (suc n) = first_non_zero-zero 0 (replicate n 0) refl ∙ first_non_zero_zeros n

pub first_non_zero-constant-zero : (n : ℕ) → first_non_zero (constant n 0) ≡ 0
first_non_zero-constant-zero n = ap first_non_zero (constant-zero n) ∙ first_non_zero_zeros n

pub first_non_zero_below : {p n : ℕ} {u : List ℕ} → 0 < p → Words p n u → first_non_zero u < p
first_non_zero_below pos none = rw first_non_zero-nil pos
first_non_zero_below {p} pos (more {a = a} {u = u} h w) = by_first (ℕ_discrete a 0) (first_non_zero_below pos w)
  where
    by_first : Dec (a ≡ 0) → first_non_zero u < p → first_non_zero (a ∷ u) < p
    by_first (yes e) rest = rw (first_non_zero-zero a u e) rest
    by_first (no n) rest = rw (first_non_zero_nonzero a u n) h

zeros_of_first_non_zero : {p n : ℕ} {u : List ℕ} → Words p n u → first_non_zero u ≡ 0 → u ≡ replicate n 0
zeros_of_first_non_zero none h = refl
zeros_of_first_non_zero (more {a = a} {n = n} {u = u} k w) h = by_first (ℕ_discrete a 0) (zeros_of_first_non_zero w)
  where
    by_first : Dec (a ≡ 0) → (first_non_zero u ≡ 0 → u ≡ replicate n 0) → a ∷ u ≡ replicate (suc n) 0
    by_first (yes e) rest = ap₂ ◌∷◌ e (rest (sym (first_non_zero-zero a u e) ∙ h))
    by_first (no m) rest = absurd (m (sym (first_non_zero_nonzero a u m) ∙ h))

pub first_non_zero_positive : {p n : ℕ} {u : List ℕ} → Words p n u → (u ≡ constant n 0 → ⊥) → 0 < first_non_zero u
first_non_zero_positive {n = n} w h = pos_of_ne-zero (λ e. h (zeros_of_first_non_zero w e ∙ sym (constant-zero n)))

module _ {p c : ℕ} (prime : Prime p) (pos : 0 < c) (below : c < p) where
  pub product_nonzero : (a : ℕ) → a < p → (a ≡ 0 → ⊥) → c * a % p ≡ 0 → ⊥
  product_nonzero a l n e =
      ⊎_elim
      (λ z. let o : c ≡ 0 = sym (mod-eq_of_lt below) ∙ z in omega arith)
      (λ z. n (sym (mod-eq_of_lt l) ∙ z))
      (euclid p c a prime e)

  pub first_non_zero-scale : {n : ℕ} {u : List ℕ} → Words p n u → first_non_zero (scale p c u) ≡ c * first_non_zero u % p
  unfolding scale
  first_non_zero-scale none = first_non_zero-nil ∙ sym (ap (λ x. c * x % p) first_non_zero-nil ∙ ap (λ x. x % p) (mul-zero c) ∙ zero-mod p)
  first_non_zero-scale (more {a = a} {u = u} h w) = by_first (ℕ_discrete a 0) (first_non_zero-scale w)
    where
      by_first : Dec (a ≡ 0) → first_non_zero (scale p c u) ≡ c * first_non_zero u % p → first_non_zero (c * a % p ∷ scale p c u) ≡ c * first_non_zero (a ∷ u) % p
      by_first (yes e) rest =
          first_non_zero-zero (c * a % p) (scale p c u) (ap (λ x. c * x % p) e ∙ ap (λ x. x % p) (mul-zero c) ∙ zero-mod p) ∙ rest ∙ ap (λ x. c * x % p) (sym (first_non_zero-zero a u e))
      by_first (no n) rest = first_non_zero_nonzero (c * a % p) (scale p c u) (product_nonzero a h n) ∙ ap (λ x. c * x % p) (sym (first_non_zero_nonzero a u n))

unfoldable pub normalised : ℕ → List ℕ → List ℕ
normalised p u = scale p (inverse p (first_non_zero u)) u

module _ {p n : ℕ} {u : List ℕ} (prime : Prime p) (w : Words p n u) (h : u ≡ constant n 0 → ⊥) where
  one_is : inverse p (first_non_zero u) * first_non_zero u % p ≡ 1
  one_is = ap (λ x. x % p) (mul_comm (inverse p (first_non_zero u)) (first_non_zero u)) ∙ inverse_product p (first_non_zero u) prime (first_non_zero_positive w h) (first_non_zero_below (omega arith) w)

  pub inverse_positive : 0 < inverse p (first_non_zero u)
  inverse_positive = pos_of_ne-zero (λ e. let o : ◌≡◌ {A = ℕ} 0 1 = sym (zero-mod p) ∙ ap (λ x. x % p) (sym (zero-mul (first_non_zero u)) ∙ ap (λ x. x * first_non_zero u) (sym e)) ∙ one_is in omega arith)

  pub first_non_zero-normalised : first_non_zero (normalised p u) ≡ 1
  unfolding normalised
  first_non_zero-normalised = first_non_zero-scale prime inverse_positive (inverse_bound p (first_non_zero u) (omega arith)) w ∙ one_is
