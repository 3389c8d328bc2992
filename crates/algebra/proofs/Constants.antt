-- The constants other than 0 of a field with p·1 = 0, p prime, are the elements with γ^(p − 1) = 1. The p numerals 0, …, p − 1 are distinct,
-- since a number below p other than 0 has an inverse modulo p; so 1, …, p − 1 are p − 1 roots of X^(p − 1) − 1, which has no more.
--   numerals   the constants 1, …, p − 1
use mathlib.Core.Path.{◌≡◌, sym, ap, ◌∙◌}
use mathlib.Core.List.{List, ◌∷◌, map}
use Prim.Native.Nat.{ℕ, suc, ◌+◌, ◌-◌, ◌*◌, ◌≤◌, ◌<◌}
use native.Mathlib.Omega.{arith}
use lib.ListN.{length, length-map}
use Rattle.algebra.specs.Lists.{Member, Distinct, range}
use Rattle.algebra.specs.Prime.{Prime}
use Rattle.algebra.specs.Ring.{CommutativeRing, Field, numeral, power}
use Rattle.algebra.proofs.RingLaws.{add_left_cancel, add-zero, mul-one, zero-mul, numeral-one, numeral-add, numeral-mul, power-suc}
use Rattle.algebra.proofs.FieldLaws.{mul_left_cancel}
use Rattle.algebra.proofs.Lists.{member_all, map_member, distinct_map}
use Rattle.algebra.proofs.Counting.{member?}
use Rattle.algebra.proofs.Search.{range_length, range_bounds, range_distinct}
use Rattle.algebra.proofs.Euclid.{inverse_exists}
use Rattle.algebra.proofs.Frobenius.{numeral-mod, frobenius_numeral}
use Rattle.algebra.proofs.Injective.{injective_below}
use Rattle.algebra.proofs.PowerRoots.{power_roots_at_most}

module _ {A : Type 0} (R : CommutativeRing A) (p : ℕ) (prime : Prime p) (characteristic : numeral R p ≡ R.zero) (proper : R.one ≡ R.zero → ⊥) where
  -- d·b = 1 modulo p for some b
  pub numeral_nonzero : (d : ℕ) → 0 < d → d < p → numeral R d ≡ R.zero → ⊥
  numeral_nonzero d pos lt z =
      let (b, _, e) = inverse_exists p d prime pos lt in
      proper (sym (numeral-one R) ∙ ap (numeral R) (sym e) ∙ numeral-mod R p (d * b) characteristic ∙ numeral-mul R d b ∙ ap (λ x. R.mul x (numeral R b)) z ∙ zero-mul R (numeral R b))

  pub numeral_injective : (j k : ℕ) → j < p → k < p → numeral R j ≡ numeral R k → j ≡ k
  numeral_injective =
      injective_below (numeral R) p
      (λ j c l e. numeral_nonzero (suc c) (omega arith) (omega arith)
      (add_left_cancel R (numeral R j) (numeral R (suc c)) R.zero (sym (numeral-add R j (suc c)) ∙ sym e ∙ sym (add-zero R (numeral R j)))))

module _ {A : Type 0} (F : Field A) (p : ℕ) (prime : Prime p) (characteristic : numeral F.ring p ≡ F.ring.zero) where
  abbrev R : CommutativeRing A
  R = F.ring

  predecessor : suc (p - 1) ≡ p
  predecessor = omega arith

  -- α^(p − 1) = z exactly when α^p = z·α
  pub power_pred : (a z : A) → (a ≡ R.zero → ⊥) → power R a p ≡ R.mul z a → power R a (p - 1) ≡ z
  power_pred a z n e =
      mul_left_cancel F a (power R a (p - 1)) z n (sym (power-suc R a (p - 1)) ∙ ap (power R a) predecessor ∙ e ∙ R.mul_comm z a)

  pub power_from_pred : (a z : A) → power R a (p - 1) ≡ z → power R a p ≡ R.mul z a
  power_from_pred a z e = ap (power R a) (sym predecessor) ∙ power-suc R a (p - 1) ∙ ap (R.mul a) e ∙ R.mul_comm a z

  abbrev numerals : List A
  numerals = map (numeral R) (range 1 (p - 1))

  numeral_of_member : (u : A) → Member u numerals → (c : ℕ) × (0 < c) × (c < p) × (u ≡ numeral R c)
  numeral_of_member u m =
      let (c, l, e) = map_member (numeral R) (range 1 (p - 1)) u m in
      let b : (1 ≤ c) × (c < 1 + (p - 1)) = range_bounds 1 (p - 1) c l in
      (c, b.0, omega arith, e)

  numerals_distinct : Distinct numerals
  numerals_distinct =
      distinct_map (numeral R) (range 1 (p - 1))
      (λ j k l m e. numeral_injective R p prime characteristic F.one-ne-zero j k (below j l) (below k m) e) (range_distinct 1 (p - 1))
    where
      below : (j : ℕ) → Member j (range 1 (p - 1)) → j < p
      below j m = omega (arith, range_bounds 1 (p - 1) j m)

  -- Fermat: c^(p − 1) = 1 for the numerals other than 0
  pub numeral_root : (c : ℕ) → 0 < c → c < p → power R (numeral R c) (p - 1) ≡ R.one
  numeral_root c pos lt =
      power_pred (numeral R c) R.one (numeral_nonzero R p prime characteristic F.one-ne-zero c pos lt)
      (frobenius_numeral R p prime characteristic c ∙ sym (mul-one R (numeral R c)) ∙ R.mul_comm (numeral R c) R.one)

  pub constant_of_root : (u : A) → power R u (p - 1) ≡ R.one → (c : ℕ) × (0 < c) × (c < p) × (u ≡ numeral R c)
  constant_of_root u e = by_member (member? F.discrete u numerals)
    where
      each : (v : A) → Member v numerals → power R v (p - 1) ≡ R.one
      each v m = let (c, pos, lt, f) = numeral_of_member v m in ap (λ x. power R x (p - 1)) f ∙ numeral_root c pos lt

      by_member : Dec (Member u numerals) → (c : ℕ) × (0 < c) × (c < p) × (u ≡ numeral R c)
      by_member (yes m) = numeral_of_member u m
      by_member (no n) =
          let few : length (u ∷ numerals) ≤ p - 1 =
          power_roots_at_most F (p - 1) R.one (u ∷ numerals) (omega arith) (n, numerals_distinct) (e, member_all _ numerals each) in
          absurd (omega (arith, length-map (range 1 (p - 1)) (numeral R), range_length 1 (p - 1)))
