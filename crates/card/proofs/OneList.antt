-- 3 and 4 for a call with one list, as the code tests them.
use mathlib.Core.Path.{◌≡◌, ap}
use mathlib.Core.Bool.{not, and-true}
use mathlib.Core.List.{List, [], ◌∷◌}
use Prim.Native.Nat.{ℕ}
use lib.Dec.{eqb}
use lib.ListN.{length}
use Rattle.algebra.specs.Lists.{all}
use Rattle.array.specs.Words.{all_below}
use Rattle.refusal.specs.Refusal.{bad_length, bad_word}

pub bad_length_one : (n : ℕ) (xs : List ℕ) → bad_length n (xs ∷ []) ≡ not (eqb (length xs) n)
unfolding bad_length all
bad_length_one n xs = ap not (and-true (eqb (length xs) n))

pub bad_word_one : (p : ℕ) (xs : List ℕ) → bad_word p (xs ∷ []) ≡ not (all_below p xs)
unfolding bad_word all
bad_word_one p xs = ap not (and-true (all_below p xs))
