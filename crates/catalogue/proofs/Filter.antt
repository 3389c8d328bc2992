-- What a test keeps of a list: of two lists one after the other, of the images of a list, and by two tests that agree. Each by induction on the list, and by the
-- test of its first element.
use mathlib.Core.Path.{◌≡◌, refl, ap, ap₂, ◌∙◌}
use mathlib.Core.Bool.{Bool, true, false}
use mathlib.Core.List.{List, [], ◌∷◌, ◌++◌, map}
use mathlib.Core.Logic.{inl, inr}
use Rattle.algebra.specs.Lists.{Member, filter}

-- an element before what a test keeps of the others
abbrev kept : {A : Type 0} → Bool → A → List A → List A
kept b x xs = elim b [ true ↦ x ∷ xs | false ↦ xs ]

module _ {A : Type 0} (test : A → Bool) where
  pub filter-append : (xs ys : List A) → filter test (xs ++ ys) ≡ filter test xs ++ filter test ys
  unfolding filter
  filter-append [] ys = refl
  filter-append (x ∷ xs) ys = ap (kept (test x) x) (filter-append xs ys) ∙ by_test (test x)
    where
      by_test : (b : Bool) → kept b x (filter test xs ++ filter test ys) ≡ kept b x (filter test xs) ++ filter test ys
      by_test true = refl
      by_test false = refl

  pub filter_one : (x : A) → filter test (x ∷ []) ≡ kept (test x) x []
  unfolding filter
  filter_one x = refl

  pub filter_same : (other : A → Bool) (xs : List A) → ((x : A) → Member x xs → test x ≡ other x) → filter test xs ≡ filter other xs
  unfolding filter
  filter_same other [] h = refl
  filter_same other (x ∷ xs) h = ap₂ (λ b ys. kept b x ys) (h x (inl refl)) (filter_same other xs (λ y m. h y (inr m)))

pub filter_map : {A B : Type 0} (test : B → Bool) (f : A → B) (xs : List A) → filter test (map f xs) ≡ map f (filter (λ x. test (f x)) xs)
unfolding filter
filter_map test f [] = refl
filter_map test f (x ∷ xs) = ap (kept (test (f x)) (f x)) (filter_map test f xs) ∙ by_test (test (f x))
  where
    by_test : (b : Bool) → kept b (f x) (map f (filter (λ y. test (f y)) xs)) ≡ map f (kept b x (filter (λ y. test (f y)) xs))
    by_test true = refl
    by_test false = refl
