-- The order of lists of coefficients, constant first (request S-5: "Compare coefficients from the highest power down and write them in ascending order").
--   lower u v      u comes before v: at the highest power where they differ, u has the smaller coefficient
--   Ascending us   each list of us comes before all that follow it; so none stands there twice
use Rattle.std.specs.Prelude.{◌≡◌, Bool, true, false, ◌&&◌, ◌||◌, List, [], ◌∷◌, ℕ, ltb}
use Rattle.algebra.specs.Lists.{All, equal}

unfoldable pub lower : List ℕ → List ℕ → Bool
lower [] v = false
lower (a ∷ u) [] = false
lower (a ∷ u) (b ∷ v) = lower u v || equal u v && ltb a b

abbrev pub Ascending : List (List ℕ) → Type 0
Ascending [] = Unit {0}
Ascending (u ∷ us) = All (λ v. lower u v ≡ true) us × Ascending us
