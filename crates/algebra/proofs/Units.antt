-- In a field with finitely many elements, u^N = 1 for u ≠ 0, where N is the number of elements other than 0: multiplication by u permutes
-- those elements, so it multiplies their product by u^N and leaves it alone.
--   Units F us      us lists the elements of F other than 0, each once
--   product R xs    the product of the elements of xs
use mathlib.Core.Path.{◌≡◌, refl, sym, ap, ◌∙◌}
use mathlib.Core.List.{List, [], ◌∷◌, map, foldr}
use mathlib.Core.Logic.{inl, inr}
use native.Mathlib.Omega.{arith}
use lib.ListN.{length, length-map}
use Rattle.algebra.specs.Lists.{Member, Distinct}
use Rattle.algebra.specs.Ring.{CommutativeRing, Field, power}
use Rattle.algebra.proofs.Lists.{Within, map_member, distinct_map}
use Rattle.algebra.proofs.Counting.{distinct_within_all, fold_same_members}
use Rattle.algebra.proofs.RingLaws.{mul_assoc, mul_comm, mul_left_comm, mul-one, power_zero, power-suc}
use Rattle.algebra.proofs.FieldLaws.{mul_left_cancel, mul_ne-zero}

pub record Units {A : Type 0} (F : Field A) (us : List A) : Type 0 where
  pub distinct : Distinct us
  pub nonzero : (u : A) → Member u us → u ≡ F.ring.zero → ⊥
  pub complete : (u : A) → (u ≡ F.ring.zero → ⊥) → Member u us

abbrev pub product : {A : Type 0} → CommutativeRing A → List A → A
product R xs = foldr R.mul R.one xs

module _ {A : Type 0} (R : CommutativeRing A) where
  open R use {mul as ◌⊗◌}

  infixl 70 ◌⊗◌
  pub product-map_mul : (u : A) (xs : List A) → product R (map (◌⊗◌ u) xs) ≡ power R u (length xs) ⊗ product R xs
  product-map_mul u [] = sym (mul-one R (power R u 0) ∙ power_zero R u)
  product-map_mul u (x ∷ xs) =
      ap (◌⊗◌ (u ⊗ x)) (product-map_mul u xs)
      ∙ regroup (power R u (length xs)) (product R xs)
      ∙ ap (λ t. t ⊗ product R (x ∷ xs)) (sym (power-suc R u (length xs)))
    where
      regroup : (w q : A) → u ⊗ x ⊗ (w ⊗ q) ≡ u ⊗ w ⊗ (x ⊗ q)
      regroup w q = simp (mul_assoc R, mul_left_comm R)

module _ {A : Type 0} (F : Field A) where
  open F use {ring as R}
  open R use {zero as 𝟎, one as 𝟏, mul as ◌⊗◌}

  pub product-ne-zero : (xs : List A) → ((x : A) → Member x xs → x ≡ 𝟎 → ⊥) → product R xs ≡ 𝟎 → ⊥
  product-ne-zero [] h e = F.one-ne-zero e
  product-ne-zero (x ∷ xs) h e = mul_ne-zero F x (product R xs) (h x (inl refl)) (product-ne-zero xs (λ y m. h y (inr m))) e

  module _ (us : List A) (units : Units F us) (u : A) (n : u ≡ 𝟎 → ⊥) where
    multiples_within : Within (map (◌⊗◌ u) us) us
    multiples_within b m =
        let (a, l, e) = map_member (◌⊗◌ u) us b m in
        units.complete b (λ z. mul_ne-zero F u a n (units.nonzero a l) (sym e ∙ z))

    multiples_distinct : Distinct (map (◌⊗◌ u) us)
    multiples_distinct = distinct_map (◌⊗◌ u) us (λ a b l m e. mul_left_cancel F u a b n e) units.distinct

    -- multiplication by u permutes the elements other than 0
    multiples_product : product R (map (◌⊗◌ u) us) ≡ product R us
    multiples_product =
        fold_same_members R.mul 𝟏 (mul_left_comm R) (map (◌⊗◌ u) us) us multiples_distinct units.distinct multiples_within
        (distinct_within_all F.discrete (map (◌⊗◌ u) us) us multiples_distinct multiples_within (omega (arith, length-map us (◌⊗◌ u))))

    pub power_units : power R u (length us) ≡ 𝟏
    power_units =
        let P : A = product R us in
        let w : A = power R u (length us) in
        mul_left_cancel F P w 𝟏 (product-ne-zero us units.nonzero)
        (mul_comm R P w ∙ sym (product-map_mul R u us) ∙ multiples_product ∙ sym (mul-one R P))
