-- The definition of the contracts between this crate's functions; no public call's contract rests on it.
--   Begun k xs w    w has as many words as xs, and the first k of them are those of xs
use Rattle.std.specs.Prelude.{◌≡◌, ℕ, ◌<◌, List, length, slice_index}

pub record Begun (k : ℕ) (xs w : List ℕ) : Type 0 where
  pub size : length w ≡ length xs
  pub words : (i : ℕ) → i < k → i < length xs → slice_index w i ≡ slice_index xs i
