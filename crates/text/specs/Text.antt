-- Where text stands in a list of bytes.
--   Appended at xs before after end   the list after the call has xs behind its first `at` elements, and `end` is the place behind them
--   Begins xs list end                the list begins with xs, and `end` is the place behind them
use Rattle.std.specs.Prelude.{◌≡◌, List, ◌++◌, ℕ, ◌+◌, ◌≤◌, length, take}

pub record Appended {A : Type 0} (at : ℕ) (xs before after : List A) (end : ℕ) : Type 0 where
  pub end_is : end ≡ at + length xs
  pub list_is : take end after ≡ take at before ++ xs

pub record Begins (xs list : List ℕ) (end : ℕ) : Type 0 where
  pub text_is : take end list ≡ xs
  pub within : end ≤ length list
