-- Scanning a list from the front: after i elements that passed the test, the elements from i on decide.
--   Left test xs i   whether all of xs pass is whether all from i on do
use mathlib.Core.Path.{◌≡◌, sym, ap, ◌∙◌}
use mathlib.Core.Bool.{Bool, true, false, ◌&&◌}
use mathlib.Core.List.{List}
use Prim.Native.Nat.{ℕ, ◌+◌, ◌≤◌, ◌<◌}
use native.Mathlib.Numerals.{add-one}
use lib.ListN.{length, get_or, drop, drop_of_length-le}
use lib.Seq.{drop-cons}
use Rattle.algebra.specs.Lists.{all}

module _ (test : ℕ → Bool) (xs : List ℕ) (i : ℕ) where
  abbrev pub Left : Type 0
  Left = all test xs ≡ all test (drop i xs)

  -- the element at i and those after it
  all_from : i < length xs → all test (drop i xs) ≡ (test (get_or xs i 0) && all test (drop (i + 1) xs))
  unfolding all
  all_from h = rw (add-one, drop-cons xs i 0)

  pub scan_next : Left → i < length xs → test (get_or xs i 0) ≡ true → all test xs ≡ all test (drop (i + 1) xs)
  scan_next e h t = e ∙ all_from h ∙ ap (λ b. b && all test (drop (i + 1) xs)) t

  pub scan_fails : Left → i < length xs → test (get_or xs i 0) ≡ false → false ≡ all test xs
  scan_fails e h t = sym (e ∙ all_from h ∙ ap (λ b. b && all test (drop (i + 1) xs)) t)

  pub scan_holds : Left → length xs ≤ i → true ≡ all test xs
  unfolding all
  scan_holds e h = sym (e ∙ ap (all test) (drop_of_length-le xs h))
