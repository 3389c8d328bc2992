-- Laws of lists as finite sets: membership, absence of repetition and 'every element' under appending and under a map.
--   Within xs ys   every element of xs stands in ys
use mathlib.Core.Path.{◌≡◌, refl, sym, ap, subst}
use mathlib.Core.List.{List, [], ◌∷◌, ◌++◌, map}
use mathlib.Core.Logic.{◌⊎◌, inl, inr, ⊎_elim}
use Prim.Native.Nat.{◌<◌}
use native.Mathlib.Omega.{arith}
use lib.ListN.{length}
use Rattle.algebra.specs.Lists.{Member, Distinct, All}

module _ {A : Type 0} where
  abbrev pub Within : List A → List A → Type 0
  Within xs ys = (a : A) → Member a xs → Member a ys

  pub member_equal : (xs : List A) {a b : A} → a ≡ b → Member a xs → Member b xs
  member_equal xs e m = subst (λ (x : A). Member x xs) e m

  pub some_member : (xs : List A) → 0 < length xs → (a : A) × Member a xs
  some_member [] h = absurd (omega arith)
  some_member (x ∷ xs) h = (x, inl refl)

  pub all_member : (P : A → Type 0) (xs : List A) → All P xs → (a : A) → Member a xs → P a
  all_member P [] h a x = elim x [ ]
  all_member P (x ∷ xs) h a (inl e) = subst P (sym e) h.0
  all_member P (x ∷ xs) h a (inr m) = all_member P xs h.1 a m

  pub member_all : (P : A → Type 0) (xs : List A) → ((a : A) → Member a xs → P a) → All P xs
  member_all P [] h = tt
  member_all P (x ∷ xs) h = (h x (inl refl), member_all P xs (λ a m. h a (inr m)))

  pub member_append_left : (xs ys : List A) → Within xs (xs ++ ys)
  member_append_left [] ys a x = elim x [ ]
  member_append_left (x ∷ xs) ys a (inl e) = inl e
  member_append_left (x ∷ xs) ys a (inr m) = inr (member_append_left xs ys a m)

  pub member_append_right : (xs ys : List A) → Within ys (xs ++ ys)
  member_append_right [] ys a m = m
  member_append_right (x ∷ xs) ys a m = inr (member_append_right xs ys a m)

  pub member_append : (xs ys : List A) (a : A) → Member a (xs ++ ys) → Member a xs ⊎ Member a ys
  member_append [] ys a m = inr m
  member_append (x ∷ xs) ys a (inl e) = inl (inl e)
  member_append (x ∷ xs) ys a (inr m) = ⊎_elim (λ l. inl (inr l)) inr (member_append xs ys a m)

module _ {A B : Type 0} (f : A → B) where
  pub member_map : (xs : List A) (a : A) → Member a xs → Member (f a) (map f xs)
  member_map [] a x = elim x [ ]
  member_map (x ∷ xs) a (inl e) = inl (ap f e)
  member_map (x ∷ xs) a (inr m) = inr (member_map xs a m)

  pub map_member : (xs : List A) (b : B) → Member b (map f xs) → (a : A) × Member a xs × (b ≡ f a)
  map_member [] b x = elim x [ ]
  map_member (x ∷ xs) b (inl e) = (x, inl refl, e)
  map_member (x ∷ xs) b (inr m) = let (a, l, e) = map_member xs b m in (a, inr l, e)

  pub all_map : (P : B → Type 0) (xs : List A) → All (λ a. P (f a)) xs → All P (map f xs)
  all_map P [] h = tt
  all_map P (x ∷ xs) h = (h.0, all_map P xs h.1)

  -- f need be injective only on the elements of the list
  pub distinct_map : (xs : List A) → ((a b : A) → Member a xs → Member b xs → f a ≡ f b → a ≡ b) → Distinct xs → Distinct (map f xs)
  distinct_map [] inj d = tt
  distinct_map (x ∷ xs) inj d = (
    λ m. let (a, l, e) = map_member xs (f x) m in d.0 (member_equal xs (sym (inj x a (inl refl) (inr l) e)) l),
    distinct_map xs (λ a b l m. inj a b (inr l) (inr m)) d.1,
  )
