-- Members of a list and their places: each place below the length holds a member, each member stands at such a place, and where no element stands twice it stands at one
-- place only.
use mathlib.Core.Path.{◌≡◌, refl, sym, ap, subst}
use mathlib.Core.List.{List, [], ◌∷◌}
use mathlib.Core.Logic.{inl, inr}
use Prim.Native.Nat.{ℕ, zero, suc, ◌<◌}
use native.Mathlib.Omega.{arith}
use lib.ListN.{length, get_or}
use Rattle.algebra.specs.Lists.{Member, Distinct}

module _ {A : Type 0} (d : A) where
  pub place_member : (xs : List A) (k : ℕ) → k < length xs → Member (get_or xs k d) xs
  place_member [] k h = absurd (omega arith)
  place_member (x ∷ xs) zero h = inl refl
  place_member (x ∷ xs) (suc k) h = inr (place_member xs k (omega arith))

  pub member_place : (xs : List A) (a : A) → Member a xs → (k : ℕ) × (k < length xs) × (get_or xs k d ≡ a)
  member_place [] a x = elim x [ ]
  member_place (x ∷ xs) a (inl e) = (0, omega arith, sym e)
  member_place (x ∷ xs) a (inr m) = let (k, l, e) = member_place xs a m in (suc k, omega arith, e)

  pub places_apart : (xs : List A) → Distinct xs → (j k : ℕ) → j < length xs → k < length xs → get_or xs j d ≡ get_or xs k d → j ≡ k
  places_apart [] h j k lj lk e = absurd (omega arith)
  places_apart (x ∷ xs) h zero zero lj lk e = refl
  places_apart (x ∷ xs) h zero (suc k) lj lk e = absurd (h.0 (subst (λ (a : A). Member a xs) (sym e) (place_member xs k (omega arith))))
  places_apart (x ∷ xs) h (suc j) zero lj lk e = absurd (h.0 (subst (λ (a : A). Member a xs) e (place_member xs j (omega arith))))
  places_apart (x ∷ xs) h (suc j) (suc k) lj lk e = ap suc (places_apart xs h.1 j k (omega arith) (omega arith) e)
