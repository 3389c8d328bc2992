-- The top words that are worked out ahead of two steps: what is read is small, and no sum overflows.
use mathlib.Core.List.{List}
use Prim.Native.Nat.{ℕ, ◌+◌, ◌-◌, ◌^◌, ◌≤◌, ◌<◌}
use native.Mathlib.Nat as Nat
use native.Mathlib.Omega.{arith}
use lib.ListN.{get_or}
use mir.Syntax.{w64}
use mir.Val.{Fits}
use Rattle.array.specs.Array.{Holds}
use Rattle.residue.specs.Delayed.{Half}
use Rattle.residue.proofs.Step.{word_few}

half_word : (p n i m : ℕ) (z : List ℕ) → p ≤ 2 ^ 20 → Half p n 16 i z → m < i + n → get_or z m 0 ≤ 2 ^ 60
half_word p n i m z b H l = omega (arith, H.small m l, Nat.mul-le-mul b b)

module _ (p n i : ℕ) (b : p ≤ 2 ^ 20) (low : i + 2 ≤ n) where
  pub top_few : (xs : List ℕ) → Holds p n xs → get_or xs (n - 1) 0 < 2 ^ 20
  top_few xs h = word_few h b (n - 1) (omega arith)

  pub second_few : (xs : List ℕ) → Holds p n xs → get_or xs (n - 2) 0 < 2 ^ 20
  second_few xs h = word_few h b (n - 2) (omega arith)

  word_above : (z : List ℕ) → Half p n 16 (i + 2) z → get_or z (i + n) 0 ≤ 2 ^ 60
  word_above z H = half_word p n (i + 2) (i + n) z b H (omega arith)

  pub word_top : (z : List ℕ) → Half p n 16 (i + 2) z → get_or z (i + n - 1) 0 ≤ 2 ^ 60
  word_top z H = half_word p n (i + 2) (i + n - 1) z b H (omega arith)

  pub word_below : (z : List ℕ) → Half p n 16 (i + 2) z → get_or z (i + n - 2) 0 ≤ 2 ^ 60
  word_below z H = half_word p n (i + 2) (i + n - 2) z b H (omega arith)

  pub middle_fits : (y : ℕ) (z : List ℕ) → Half p n 16 (i + 2) z → y ≤ 2 ^ 62 → Fits w64 (get_or z (i + n) 0 + y)
  middle_fits y z H l = omega (arith, word_above z H)
