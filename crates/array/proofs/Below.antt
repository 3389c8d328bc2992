-- The test that all words are below p: after i words below p the words from i on decide.
use mathlib.Core.Path.{◌≡◌, refl, sym, ap, ◌∙◌}
use mathlib.Core.Bool.{Bool, true, false, ◌&&◌, and-true}
use mathlib.Core.List.{List}
use Prim.Native.Nat.{ℕ, ◌+◌, ◌≤◌, ◌<◌}
use lib.Dec.{ltb}
use lib.ListN.{length, get_or, drop, drop_of_length-le}
use borrow.Author.Tests.{lt-ltb, le-ltb}
use native.Mathlib.Numerals.{add-one}
use lib.Seq.{drop-cons}
use Rattle.algebra.specs.Lists.{all}
use Rattle.array.specs.Words.{all_below}
use Rattle.algebra.proofs.Scan.{scan_next, scan_fails, scan_holds}

module _ (p : ℕ) (xs : List ℕ) (i : ℕ) (e : all_below p xs ≡ all_below p (drop i xs)) where
  pub below_next : i < length xs → get_or xs i 0 < p → all_below p xs ≡ all_below p (drop (i + 1) xs)
  unfolding all_below
  below_next h l = scan_next (λ a. ltb a p) xs i e h (lt-ltb (get_or xs i 0) p l)

  pub below_fails : i < length xs → p ≤ get_or xs i 0 → false ≡ all_below p xs
  unfolding all_below
  below_fails h l = scan_fails (λ a. ltb a p) xs i e h (le-ltb (get_or xs i 0) p l)

  pub below_holds : length xs ≤ i → true ≡ all_below p xs
  unfolding all_below
  below_holds h = scan_holds (λ a. ltb a p) xs i e h

-- the same where the result so far goes on through the loop, as `list::below` has it
one_more : (tested b rest : Bool) → (tested && (b && rest)) ≡ ((tested && b) && rest)
one_more true b rest = refl
one_more false b rest = refl

module _ (p : ℕ) (xs : List ℕ) (i : ℕ) (tested : Bool) (e : all_below p xs ≡ (tested && all_below p (drop i xs))) where
  pub tested_next : i < length xs → all_below p xs ≡ ((tested && ltb (get_or xs i 0) p) && all_below p (drop (i + 1) xs))
  unfolding all_below all
  tested_next h = e ∙ rw (add-one, drop-cons xs i 0) (one_more tested (ltb (get_or xs i 0) p) _)

  pub tested_all : length xs ≤ i → tested ≡ all_below p xs
  unfolding all_below all
  tested_all h = sym (e ∙ ap (λ l. tested && all (λ x. ltb x p) l) (drop_of_length-le xs h) ∙ and-true tested)
