-- Lists as finite sets, and search in a list.
--   Member a xs       a stands in xs
--   Distinct xs       no element stands in xs twice
--   All P xs          every element of xs satisfies P
--   all test xs       the same for a test
--   equal xs ys       whether two lists of numbers are equal
--   range a k         the k numbers a, a + 1, …
--   first test d xs   the first element of xs that passes the test, d where none does
--   filter test xs    the elements of xs that pass the test, in the order of xs
use Rattle.std.specs.Prelude.{◌≡◌, Bool, true, false, ◌&&◌, List, [], ◌∷◌, ◌⊎◌, ℕ, zero, suc, eqb}

abbrev pub Member : {A : Type 0} → A → List A → Type 0
Member a [] = ⊥
Member a (x ∷ xs) = (a ≡ x) ⊎ Member a xs

abbrev pub Distinct : {A : Type 0} → List A → Type 0
Distinct [] = Unit {0}
Distinct (x ∷ xs) = (Member x xs → ⊥) × Distinct xs

abbrev pub All : {A : Type 0} → (A → Type 0) → List A → Type 0
All P [] = Unit {0}
All P (x ∷ xs) = P x × All P xs

unfoldable pub all : {A : Type 0} → (A → Bool) → List A → Bool
all test [] = true
all test (x ∷ xs) = test x && all test xs

unfoldable pub equal : List ℕ → List ℕ → Bool
equal [] [] = true
equal [] (y ∷ ys) = false
equal (x ∷ xs) [] = false
equal (x ∷ xs) (y ∷ ys) = eqb x y && equal xs ys

unfoldable pub range : ℕ → ℕ → List ℕ
range a zero = []
range a (suc k) = a ∷ range (suc a) k

unfoldable pub first : {A : Type 0} → (A → Bool) → A → List A → A
first test d [] = d
first test d (x ∷ xs) = elim (test x) [ true ↦ x | false ↦ first test d xs ]

unfoldable pub filter : {A : Type 0} → (A → Bool) → List A → List A
filter test [] = []
filter test (x ∷ xs) = elim (test x) [ true ↦ x ∷ filter test xs | false ↦ filter test xs ]
