-- The loop that adds a multiple of a row to the sums.
--   AddedRow p n k j w   the first j of the sums have k + 1 products, the others k
use mathlib.Core.Path.{◌≡◌, ◌∙◌}
use mathlib.Core.List.{List}
use Prim.Native.Nat.{ℕ, ◌+◌, ◌*◌, ◌^◌, ◌≤◌, ◌<◌}
use native.Mathlib.Decide.{ℕ_discrete}
use native.Mathlib.Omega.{arith}
use lib.ListN.{get_or, set, length-set}
use lib.Seq.{get_or-set_same, get_or-set_other}
use Rattle.array.specs.Array.{entry, Square}
use Rattle.traces.specs.Sums.{Sums}
use Rattle.traces.proofs.Product.{product_small}

pub record AddedRow (p n k j : ℕ) (w : List ℕ) : Type 0 where
  pub whole : Sums p n (k + 1) w
  pub few : (i : ℕ) → j ≤ i → i < n → get_or w i 0 ≤ k * (2 * (p * p))

module _ (p n k j : ℕ) (m : List ℕ) (small : p ≤ 2 ^ 20) (row : k < n) (turn : j < n) (square : Square p n m) where
  entry_below : entry m k j < p
  entry_below = square.below k j row turn

  module _ (c r : ℕ) (w : List ℕ) (short : n ≤ 16) (s : AddedRow p n k j w) (lc : c ≤ 2 * p) (e : r ≡ c * get_or m (16 * k + j) 0) where
    next_few : get_or w j 0 + r ≤ (k + 1) * (2 * (p * p))
    next_few = omega (arith, e, product_small p c (entry m k j) lc entry_below, s.few j (omega arith) turn)

    pub row_turn : AddedRow p n k (j + 1) (set w j (get_or w j 0 + r))
    row_turn =
        record {
          whole = record { size = length-set w j _ ∙ s.whole.size; few = λ i l. go i l (ℕ_discrete i j) };
          few = λ i g l. rw (other i (omega arith)) (s.few i (omega arith) l);
        }
      where
        other : (i : ℕ) → (i ≡ j → ⊥) → get_or (set w j (get_or w j 0 + r)) i 0 ≡ get_or w i 0
        other i d = get_or-set_other w j i _ 0 d

        go : (i : ℕ) → i < n → Dec (i ≡ j) → get_or (set w j (get_or w j 0 + r)) i 0 ≤ (k + 1) * (2 * (p * p))
        go i l (yes d) = rw (d, get_or-set_same w j (get_or w j 0 + r) 0 (omega (arith, s.whole.size))) next_few
        go i l (no d) = rw (other i d) (s.whole.few i l)
