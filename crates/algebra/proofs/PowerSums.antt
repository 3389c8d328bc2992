-- In a field with p·1 = 0, p prime, where ε^(p − 1) = 1, the powers (x + i·ε)^(p − 1) for i < p have the sum −1, for every x. The sum is a
-- polynomial in x with p coefficients. It does not change where x grows by ε, for that moves the indices by one place and p·ε = 0; at x = 0
-- it is 0 + 1 + … + 1 = p − 1. So it is −1 at the p points j·ε, which are distinct, and hence everywhere.
--   point j      j·ε
--   place j      (j·ε)^(p − 1)
--   sum x        the sum of the (x + i·ε)^(p − 1)
--   points       the list of the j·ε for j < p
use mathlib.Core.Path.{◌≡◌, sym, ap, ap₂, ◌∙◌}
use mathlib.Core.List.{List, map}
use Prim.Native.Nat.{ℕ, zero, suc, ◌+◌, ◌-◌, ◌<◌}
use native.Mathlib.Nat.{add-zero as ℕ·add-zero, zero-add as ℕ·zero-add}
use native.Mathlib.Omega.{arith}
use lib.ListN.{length-map}
use Rattle.algebra.specs.Lists.{Member, Distinct, All, range}
use Rattle.algebra.specs.Prime.{Prime}
use Rattle.algebra.specs.Ring.{CommutativeRing, Field, numeral, power}
use Rattle.algebra.proofs.RingLaws.{add_comm, add_left_cancel, add-zero, zero-add, neg_unique, neg_add, mul_comm, mul-one, zero-mul, add-mul, numeral-zero, numeral-suc, numeral-add, power_of_zero, power_product}
use Rattle.algebra.proofs.FieldLaws.{mul_left_cancel}
use Rattle.algebra.proofs.Lists.{member_all, map_member, distinct_map}
use Rattle.algebra.proofs.Search.{range_length, range_bounds, range_distinct}
use Rattle.algebra.proofs.Constants.{numeral_injective, numeral_root}
use Rattle.algebra.proofs.Totals.{total, total-suc, total_equal, total_constant, total_shift}
use Rattle.algebra.proofs.Polynomials.{Polynomial, polynomial_add, polynomial_constant, polynomial_linear_power, polynomial_total, polynomial_vanishes}

-- moving the indices by one place replaces the first term by the one past the end
total_turn : {A : Type 0} (R : CommutativeRing A) (f : ℕ → A) (k : ℕ) → f k ≡ f 0 → total R (λ i. f (suc i)) k ≡ total R f k
total_turn R f k e =
    add_left_cancel R (f 0) _ _ (total_shift R f k ∙ total-suc R f k ∙ add_comm R (total R f k) (f k) ∙ ap (λ y. R.add y (total R f k)) e)

module _ {A : Type 0} (F : Field A) (p : ℕ) (prime : Prime p) (characteristic : numeral F.ring p ≡ F.ring.zero) (e : A)
    (unit : power F.ring e (p - 1) ≡ F.ring.one) where
  open F use {ring as R}
  open R use {zero as 𝟎, one as 𝟏, add as ◌⊕◌, neg as ⊖◌, mul as ◌⊗◌}

  infixl 60 ◌⊕◌
  infixl 70 ◌⊗◌
  infix 80 ⊖◌
  abbrev point : ℕ → A
  point j = numeral R j ⊗ e

  abbrev place : ℕ → A
  place j = power R (point j) (p - 1)

  abbrev sum : A → A
  sum x = total R (λ i. power R (x ⊕ point i) (p - 1)) p

  point-add : (j k : ℕ) → point j ⊕ point k ≡ point (j + k)
  point-add j k = sym (ap (λ y. y ⊗ e) (numeral-add R j k) ∙ add-mul R (numeral R j) (numeral R k) e)

  power_of_origin : power R 𝟎 (p - 1) ≡ 𝟎
  power_of_origin =
      let s : suc (p - 2) ≡ p - 1 = omega arith in
      ap (power R 𝟎) (sym s) ∙ power_of_zero R (p - 2)

  -- j·ε does not change where j grows by p
  place_period : (j : ℕ) → place (j + p) ≡ place (j + 0)
  place_period j =
      ap (λ y. power R (y ⊗ e) (p - 1)) (numeral-add R j p ∙ ap (◌⊕◌ (numeral R j)) characteristic ∙ add-zero R (numeral R j) ∙ sym (ap (numeral R) (ℕ·add-zero j)))

  moved : (j : ℕ) → total R (λ i. place (j + i)) p ≡ total R place p
  moved zero = total_equal R (λ i. place (0 + i)) place p (λ i l. ap place (ℕ·zero-add i))
  moved (suc j) =
      total_equal R (λ i. place (suc j + i)) (λ i. place (j + suc i)) p (λ i l. let s : suc j + i ≡ j + suc i = omega arith in ap place s)
      ∙ total_turn R (λ i. place (j + i)) p (place_period j) ∙ moved j

  place-zero : place 0 ≡ 𝟎
  place-zero = ap (λ y. power R y (p - 1)) (ap (λ y. y ⊗ e) (numeral-zero R) ∙ zero-mul R e) ∙ power_of_origin

  place-suc : (i : ℕ) → i < p - 1 → place (suc i) ≡ 𝟏
  place-suc i l =
      power_product R (numeral R (suc i)) e (p - 1)
      ∙ ap₂ ◌⊗◌ (numeral_root F p prime characteristic (suc i) (omega arith) (omega arith)) unit ∙ mul-one R 𝟏

  numeral_pred : numeral R (p - 1) ≡ ⊖ 𝟏
  numeral_pred =
      let s : suc (p - 1) ≡ p = omega arith in
      neg_unique R 𝟏 (numeral R (p - 1)) (sym (numeral-suc R (p - 1)) ∙ ap (numeral R) s ∙ characteristic)

  places : total R place p ≡ ⊖ 𝟏
  places =
      let s : suc (p - 1) ≡ p = omega arith in
      ap (total R place) (sym s) ∙ sym (total_shift R place (p - 1))
      ∙ ap₂ ◌⊕◌ place-zero (total_equal R (λ i. place (suc i)) (λ i. 𝟏) (p - 1) place-suc ∙ total_constant R 𝟏 (p - 1) ∙ mul-one R (numeral R (p - 1)) ∙ numeral_pred)
      ∙ zero-add R (⊖ 𝟏)

  sum_at_point : (j : ℕ) → sum (point j) ≡ ⊖ 𝟏
  sum_at_point j =
      total_equal R (λ i. power R (point j ⊕ point i) (p - 1)) (λ i. place (j + i)) p (λ i l. ap (λ y. power R y (p - 1)) (point-add j i)) ∙ moved j ∙ places

  abbrev points : List A
  points = map point (range 0 p)

  unit_nonzero : e ≡ 𝟎 → ⊥
  unit_nonzero z = F.one-ne-zero (sym unit ∙ ap (λ y. power R y (p - 1)) z ∙ power_of_origin)

  points_distinct : Distinct points
  points_distinct = distinct_map point (range 0 p) apart (range_distinct 0 p)
    where
      below : (j : ℕ) → Member j (range 0 p) → j < p
      below j m = omega (arith, range_bounds 0 p j m)

      apart : (j k : ℕ) → Member j (range 0 p) → Member k (range 0 p) → point j ≡ point k → j ≡ k
      apart j k l m same =
          numeral_injective R p prime characteristic F.one-ne-zero j k (below j l) (below k m)
          (mul_left_cancel F e (numeral R j) (numeral R k) unit_nonzero (mul_comm R e (numeral R j) ∙ same ∙ mul_comm R (numeral R k) e))

  sum_polynomial : Polynomial R p sum
  sum_polynomial =
      polynomial_total R p (λ i x. power R (x ⊕ point i) (p - 1)) p (λ i l. polynomial_linear_power R (point i) (p - 1) p (omega arith))

  vanishes_at_points : All (λ r. sum r ⊕ 𝟏 ≡ 𝟎) points
  vanishes_at_points =
      member_all (λ r. sum r ⊕ 𝟏 ≡ 𝟎) points
      (λ r m. let (j, _, h) = map_member point (range 0 p) r m in ap (λ y. y ⊕ 𝟏) (ap sum h ∙ sum_at_point j) ∙ neg_add R 𝟏)

  pub power_sum : (x : A) → total R (λ i. power R (x ⊕ numeral R i ⊗ e) (p - 1)) p ≡ ⊖ 𝟏
  power_sum x =
      neg_unique R 𝟏 (sum x)
      (add_comm R 𝟏 (sum x)
      ∙ polynomial_vanishes F p (λ y. sum y ⊕ 𝟏) (polynomial_add R p sum (λ y. 𝟏) sum_polynomial (polynomial_constant R p 𝟏 (omega arith)))
      points points_distinct vanishes_at_points (omega (arith, length-map (range 0 p) point, range_length 0 p)) x)
