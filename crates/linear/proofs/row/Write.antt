-- Writing a part of one row of a flat matrix, column by column.
--   Written F x c k m m'   m' is m with F j in row x for the columns j from c to k − 1
use mathlib.Core.Path.{◌≡◌, ◌∙◌}
use mathlib.Core.List.{List}
use Prim.Native.Nat.{ℕ, ◌+◌, ◌*◌, ◌≤◌, ◌<◌}
use native.Mathlib.Decide.{ℕ_discrete, dec_lt}
use native.Mathlib.Omega.{arith}
use lib.ListN.{length, get_or, set, length-set}
use lib.Seq.{get_or-set_same, get_or-set_other}
use Rattle.array.specs.Array.{entry}

pub record Written (F : ℕ → ℕ) (x c k : ℕ) (m m' : List ℕ) : Type 0 where
  pub from : c ≤ k
  pub size : length m' ≡ 256
  pub done : (j : ℕ) → c ≤ j → j < k → entry m' x j ≡ F j
  pub before : (q : ℕ) → q < 16 * x + c → get_or m' q 0 ≡ get_or m q 0
  pub after : (q : ℕ) → 16 * x + k ≤ q → get_or m' q 0 ≡ get_or m q 0

pub written_turn : (F : ℕ → ℕ) (x c k w : ℕ) (m m' : List ℕ) → Written F x c k m m' → 16 * x + k < 256 → w ≡ F k
    → Written F x c (k + 1) m (set m' (16 * x + k) w)
written_turn F x c k w m m' W h e =
    record {
      from = omega (arith, W.from);
      size = length-set m' (16 * x + k) w ∙ W.size;
      done = λ j l g. go j l g (ℕ_discrete j k);
      before = λ q l. get_or-set_other m' (16 * x + k) q w 0 (omega (arith, W.from)) ∙ W.before q l;
      after = λ q l. get_or-set_other m' (16 * x + k) q w 0 (omega arith) ∙ W.after q (omega arith);
    }
  where
    here : entry (set m' (16 * x + k) w) x k ≡ F k
    here = get_or-set_same m' (16 * x + k) w 0 (omega (arith, W.size)) ∙ e

    go : (j : ℕ) → c ≤ j → j < k + 1 → Dec (j ≡ k) → entry (set m' (16 * x + k) w) x j ≡ F j
    go j l g (yes d) = rw d here
    go j l g (no d) = get_or-set_other m' (16 * x + k) (16 * x + j) w 0 (omega arith) ∙ W.done j l (omega arith)

-- Other rows, and columns left of c, are as before.
pub written_other : (F : ℕ → ℕ) (x c k : ℕ) (m m' : List ℕ) → Written F x c k m m' → k ≤ 16 → (i j : ℕ) → j < 16 → (i ≡ x → ⊥)
    → entry m' i j ≡ entry m i j
written_other F x c k m m' W h i j g d = go (dec_lt i x)
  where
    go : Dec (i < x) → entry m' i j ≡ entry m i j
    go (yes l) = W.before (16 * i + j) (omega (arith, W.from))
    go (no l) = W.after (16 * i + j) (omega arith)

pub written_left : (F : ℕ → ℕ) (x c k : ℕ) (m m' : List ℕ) → Written F x c k m m' → (j : ℕ) → j < c → entry m' x j ≡ entry m x j
written_left F x c k m m' W j h = W.before (16 * x + j) (omega arith)

-- What the next column is computed from is still as it was: in row x, and in any row y.
pub written_next : (F : ℕ → ℕ) (x c k : ℕ) (m m' : List ℕ) → Written F x c k m m' → k < 16 → (y : ℕ) → entry m' y k ≡ entry m y k
written_next F x c k m m' W h y = go (dec_lt y x)
  where
    go : Dec (y < x) → entry m' y k ≡ entry m y k
    go (yes l) = W.before (16 * y + k) (omega (arith, W.from))
    go (no l) = W.after (16 * y + k) (omega arith)
