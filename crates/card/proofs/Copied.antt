-- A list whose elements are computed one after another, written over a list of its length.
use mathlib.Core.Path.{◌≡◌, ap, ◌∙◌}
use mathlib.Core.List.{List}
use Prim.Native.Nat.{ℕ, ◌+◌, ◌≤◌}
use native.Mathlib.Omega.{arith}
use lib.ListN.{length, get_or, set}
use lib.Seq.{take_all}
use Rattle.array.proofs.Painted.{painted}
use Rattle.array.proofs.Copying.{entry, copy_turn, copy_done}

module _ (s l now : List ℕ) (k : ℕ) (so_far : now ≡ painted l (entry s) k) where
  pub copy_next : (a : ℕ) → a ≡ get_or s k 0 → set now k a ≡ painted l (entry s) (k + 1)
  copy_next a e = ap (set now k) e ∙ copy_turn k s l now so_far

  pub copy_whole : length s ≡ length l → k ≤ length l → length now ≤ k → now ≡ s
  copy_whole same h past = copy_done k s l now (omega arith) h past so_far ∙ take_all (length l) s (omega arith)
