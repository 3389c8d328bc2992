-- The digits of a number, written into the first words of an array and loaded.
use mathlib.Core.Path.{◌≡◌, sym, ap, ◌∙◌}
use mathlib.Core.List.{List}
use Prim.Native.Nat.{ℕ, ◌≤◌}
use native.Mathlib.Omega.{arith}
use lib.ListN.{length, take, length-take}
use lib.Seq.{length-take-le}
use Rattle.array.specs.Array.{padded}
use Rattle.array.specs.Digits.{digits}

pub digits_loaded : (p k c : ℕ) (u t : List ℕ) → u ≡ digits p k c → t ≡ padded u → t ≡ padded (digits p k c)
digits_loaded p k c u t e f = f ∙ ap padded e

pub front_count : (n : ℕ) (xs : List ℕ) → n ≤ length xs → n ≡ length (take n xs)
front_count n xs h = sym (length-take-le n xs h)

pub front_short : (n : ℕ) (xs : List ℕ) → n ≤ 16 → length (take n xs) ≤ 16
front_short n xs h = rw length-take (omega arith)

pub front_digits : (p n c : ℕ) (xs t : List ℕ) → n ≤ length xs → t ≡ padded (digits p (length (take n xs)) c) → t ≡ padded (digits p n c)
front_digits p n c xs t h e = e ∙ ap (λ k. padded (digits p k c)) (length-take-le n xs h)
