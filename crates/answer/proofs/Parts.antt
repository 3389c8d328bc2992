-- The lists of n words in a list of words, as the code takes them: from one place to another.
use mathlib.Core.Path.{◌≡◌, sym, ap, ap₂, ◌∙◌}
use mathlib.Core.List.{List, ◌++◌}
use Prim.Native.Nat.{ℕ, ◌+◌, ◌-◌, ◌*◌, ◌≤◌}
use native.Mathlib.Omega.{arith}
use lib.ListN.{length, take, drop, length-take, length-drop}
use lib.Seq.{length-take-le, take-append-le, drop-append-le, take-add}
use Rattle.array.specs.Words.{Words}
use Rattle.array.proofs.Words.{take_words, drop_words}
use Rattle.answer.specs.Answer.{part}
use Rattle.refusal.specs.Models.{Given}

pub prefix_length : (k : ℕ) (xs : List ℕ) → k ≤ length xs → k ≡ length (take k xs)
prefix_length k xs h = sym (length-take-le k xs h)

pub prefix_most : (k m : ℕ) (xs : List ℕ) → k ≤ m → length (take k xs) ≤ m
prefix_most k m xs h = rw length-take (omega arith)

-- a part of a list is the same part of a longer list
pub part_front : (n k : ℕ) (xs zs : List ℕ) → k * n + n ≤ length xs → part n (xs ++ zs) k ≡ part n xs k
unfolding part
part_front n k xs zs h = ap (take n) (drop-append-le (k * n) xs zs (omega arith)) ∙ take-append-le n (drop (k * n) xs) zs (omega (arith, length-drop (k * n) xs))

pub part_words : {p m : ℕ} {xs : List ℕ} (n k : ℕ) → Words p m xs → k * n + n ≤ m → Words p n (part n xs k)
unfolding part
part_words n k w h = take_words (drop_words w (k * n)) n (omega arith)

module _ (n : ℕ) (words : List ℕ) where
  between : (k count start : ℕ) → n ≡ count → k * n ≡ start → part n words k ≡ take count (drop start words)
  unfolding part
  between k count start = ap₂ (λ i j. take i (drop j words))

  pub part_first : part n words 0 ≡ take n words
  part_first = between 0 n 0 (omega arith) (omega arith)

  pub part_second : part n words 1 ≡ take (2 * n - n) (drop n words)
  part_second = between 1 (2 * n - n) n (omega arith) (omega arith)

  pub part_third : part n words 2 ≡ take (3 * n - 2 * n) (drop (2 * n) words)
  part_third = between 2 (3 * n - 2 * n) (2 * n) (omega arith) (omega arith)

  pub part_fourth : part n words 3 ≡ take (4 * n - 3 * n) (drop (3 * n) words)
  part_fourth = between 3 (4 * n - 3 * n) (3 * n) (omega arith) (omega arith)

  -- the first two parts are the first 2n words
  pub two_parts : take (2 * n) words ≡ part n words 0 ++ part n words 1
  unfolding part
  two_parts =
      let twice : 2 * n ≡ n + n = omega arith in
      let once : n ≡ 1 * n = omega arith in
      ap (λ k. take k words) twice ∙ take-add n n words ∙ ap₂ ◌++◌ (sym part_first) (ap (λ k. take n (drop k words)) once)

-- the four parts as the slices of the words
pub slices_given : (p n : ℕ) (words : List ℕ) → Given p n (part n words 0) (part n words 1) (part n words 2) (part n words 3)
    → Given p n (take n words) (take (2 * n - n) (drop n words)) (take (3 * n - 2 * n) (drop (2 * n) words)) (take (4 * n - 3 * n) (drop (3 * n) words))
slices_given p n words g = rw (part_first, part_second, part_third, part_fourth) at g
