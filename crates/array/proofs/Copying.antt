-- The words of a list copied one after another, into an array and out of it.
--   entry xs k   word k of xs
use mathlib.Core.Path.{◌≡◌, refl, ap, ◌∙◌}
use mathlib.Core.List.{List, [], ◌∷◌, ◌++◌, append-nil}
use Prim.Native.Nat.{ℕ, zero, suc, ◌+◌, ◌≤◌, ◌<◌}
use native.Mathlib.Nat as Nat
use native.Mathlib.Omega.{arith}
use lib.ListN.{length, get_or, take, set, replicate}
use lib.Seq.{take-length, drop-length}
use mir.Syntax.{w32}
use mir.Val.{Fits}
use Rattle.array.specs.Array.{padded, Holds}
use Rattle.array.proofs.Painted.{painted, table, painted_is, painted-length, painted_turn}
use Rattle.array.proofs.Padded.{array_fits, holds_word, painted-table}
use Rattle.array.specs.Words.{word_bound}

unfoldable pub entry : List ℕ → ℕ → ℕ
entry xs k = get_or xs k 0

table_entries : (n : ℕ) (xs : List ℕ) → n ≤ length xs → table (entry xs) n ≡ take n xs
unfolding table entry
table_entries zero xs h = refl
table_entries (suc n) [] h = absurd (omega arith)
table_entries (suc n) (a ∷ xs) h = ap (◌∷◌ a) (table_entries n xs (omega arith))

pub copy_turn : (j : ℕ) (xs w w' : List ℕ) → w' ≡ painted w (entry xs) j → set w' j (get_or xs j 0) ≡ painted w (entry xs) (j + 1)
unfolding entry
copy_turn j xs w w' e = painted_turn (entry xs) j (get_or xs j 0) w w' refl e

pub load_done : (j : ℕ) (xs w : List ℕ) → length xs ≤ 16 → j ≤ length xs → length xs ≤ j → w ≡ painted (replicate 16 0) (entry xs) j → w ≡ padded xs
load_done j xs w b l m e = painted-table (entry xs) (length xs) j w b l m e ∙ ap padded (table_entries (length xs) xs (Nat.le_refl (length xs)) ∙ take-length xs)

-- the whole of w is written over by words of xs
pub copy_done : (j : ℕ) (xs w w' : List ℕ) → length w ≤ length xs → j ≤ length w → length w' ≤ j → w' ≡ painted w (entry xs) j → w' ≡ take (length w) xs
copy_done j xs w w' b l m e =
    let same : j ≡ length w = omega (arith, ap length e ∙ painted-length w (entry xs) j) in
    e ∙ ap (painted w (entry xs)) same
    ∙ painted_is w (entry xs) (length w) (Nat.le_refl (length w))
    ∙ ap (λ l. table (entry xs) (length w) ++ l) (drop-length w)
    ∙ append-nil (table (entry xs) (length w))
    ∙ table_entries (length w) xs b

pub store_done : (j : ℕ) (w xs xs' : List ℕ) → length xs ≤ 16 → Holds word_bound (length xs) w → j ≤ length xs → length xs ≤ j → xs' ≡ painted xs (entry w) j
    → xs' ≡ take (length xs) w
store_done j w xs xs' b h l m e =
    let kept : length xs' ≤ j = omega (arith, ap length e ∙ painted-length xs (entry w) j) in
    copy_done j w xs xs' (array_fits (length xs) w b h.zeros) l kept e

pub store_fits : (j : ℕ) (w xs xs' : List ℕ) → Holds word_bound (length xs) w → length xs' ≡ length xs → j < length xs' → Fits w32 (get_or w j 0)
store_fits j w xs xs' h e l = record { fits = holds_word h j (omega arith) }
