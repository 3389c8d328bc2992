-- A number at the right of its columns: m blanks fewer than there are columns, and its text.
use mathlib.Core.Path.{◌≡◌, sym, ap, subst, ◌∙◌}
use mathlib.Core.List.{List, ◌++◌}
use Prim.Native.Nat.{ℕ, ◌+◌, ◌-◌, ◌^◌, ◌≤◌, ◌<◌}
use native.Mathlib.Omega.{arith}
use lib.IntN.{ℤ, nat_abs}
use lib.ListN.{length}
use mir.Syntax.{w32}
use mir.Val.{SFits, to_z, of_z}
use mir.ValLaws.{to_z-of_z}
use Rattle.text.specs.Columns.{blanks, signed_decimal, right_justified}
use Rattle.text.specs.Text.{Appended}
use Rattle.text.proofs.Append.{append_both}
use Rattle.text.proofs.ColumnDetermines.{blanks_end}

module _ (x : ℤ) (f : SFits w32 x) where
  same_text : signed_decimal (to_z w32 (of_z w32 x)) ≡ signed_decimal x
  same_text = ap signed_decimal (to_z-of_z w32 x f)

  pub right_small : nat_abs x < 2 ^ 31 → nat_abs (to_z w32 (of_z w32 x)) < 2 ^ 31
  right_small h = subst (λ z. nat_abs z < 2 ^ 31) (sym (to_z-of_z w32 x f)) h

  module _ (m width : ℕ) (e : m ≡ length (signed_decimal (to_z w32 (of_z w32 x)))) (short : length (signed_decimal x) ≤ width) where
    pub right_short : m ≤ width
    right_short = omega (arith, ap length same_text)

    pub right_blanks_room : (at : ℕ) (before : List ℕ) → at + width ≤ length before → at + (width - m) ≤ length before
    right_blanks_room at before room = omega (arith, right_short)

    -- where the number begins
    pub right_place : (at end : ℕ) (before between : List ℕ) → Appended at (blanks (width - m)) before between end → (end ≡ at + (width - m)) × (m ≤ width)
    right_place at end before between a = (blanks_end (width - m) a, right_short)

    module _ (at end : ℕ) (before between : List ℕ) (a : Appended at (blanks (width - m)) before between end) where
      pub right_append : (r : ℕ) (after : List ℕ) → Appended end (signed_decimal (to_z w32 (of_z w32 x))) between after r
          → Appended at (right_justified width (signed_decimal x)) before after r
      unfolding right_justified
      right_append r after b =
          let size : m ≡ length (signed_decimal x) = e ∙ ap length same_text in
          subst (λ k. Appended at (blanks (width - k) ++ signed_decimal x) before after r) size
          (append_both at end r (blanks (width - m)) (signed_decimal x) before between after a (subst (λ s. Appended end s between after r) same_text b))
