-- A list of n words fits an array, which holds it with zeros after it.
use Prim.Native.Nat.{ℕ, ◌≤◌}
use mathlib.Core.Path.{◌≡◌}
use mathlib.Core.List.{List, ◌++◌}
use native.Mathlib.Omega.{arith}
use lib.ListN.{length, drop}
use Rattle.std.proofs.lemmas.List.{drop-replicate}
use Rattle.array.specs.Array.{padded}
use Rattle.array.specs.Words.{Words}
use Rattle.array.proofs.Words.{words_length}
use Rattle.refusal.specs.Refusal.{largest_degree}
use Rattle.held.specs.Held.{zeros}

pub words_fit : (p n : ℕ) (u : List ℕ) → Words p n u → n ≤ 16 → length u ≤ largest_degree
words_fit p n u w h = omega (arith, words_length w)

pub filled : (u front : List ℕ) → front ≡ u → front ++ drop (length u) zeros ≡ padded u
unfolding padded
filled u front e = rw (e, drop-replicate {X = ℕ} (length u) largest_degree 0)
