-- All the maps (document 02, S-5) of example A of document 01, computed.
use Rattle.std.specs.Prelude.{◌≡◌, List, [], ◌∷◌, ℕ, length}
use Rattle.maps.specs.Maps.{maps, maps_number, maps_output}

pub record MapsExamples : Type 0 where
  -- A: p 3, T1 [1,0], T2 [2,1]: two maps, [2,1] before [1,2], since the coefficient of X decides
  pub a_maps : maps 3 (1 ∷ 0 ∷ []) (2 ∷ 1 ∷ []) ≡ (2 ∷ 1 ∷ []) ∷ (1 ∷ 2 ∷ []) ∷ []
  -- with S [1,2], R [1,2] a list of 4 words receives both, any other is refused with 3
  pub a_output : (out : List ℕ) → length out ≡ 4 → maps_output 3 2 (1 ∷ 0 ∷ []) (2 ∷ 1 ∷ []) (1 ∷ 2 ∷ []) (1 ∷ 2 ∷ []) out ≡ 2 ∷ 1 ∷ 1 ∷ 2 ∷ []
  pub a_refused : (out : List ℕ) → (length out ≡ 4 → ⊥) → maps_number 3 2 (1 ∷ 0 ∷ []) (2 ∷ 1 ∷ []) (1 ∷ 2 ∷ []) (1 ∷ 2 ∷ []) out ≡ 3
