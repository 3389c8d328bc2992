-- Coefficients in 7 columns each, written one behind another. `centred` returns x for the word v, and x is read back from its bits.
use mathlib.Core.Path.{◌≡◌, sym, ap, subst, ◌∙◌}
use mathlib.Core.List.{List, [], ◌∷◌, append-nil}
use Prim.Native.Nat.{ℕ, ◌+◌, ◌*◌, ◌/◌, ◌^◌, ◌≤◌, ◌<◌}
use native.Mathlib.Omega.{arith}
use lib.IntN.{ℤ, pos, negsuc, nat_abs}
use lib.ListN.{length, get_or, take}
use mir.Syntax.{w32}
use mir.Val.{SFits, to_z, of_z}
use mir.ValLaws.{to_z-of_z}
use Rattle.array.specs.Words.{Words}
use Rattle.array.proofs.Words.{take_words}
use Rattle.array.proofs.Padded.{words_at}
use Rattle.text.specs.Columns.{signed_decimal, right_justified}
use Rattle.text.specs.Text.{Appended}
use Rattle.text.proofs.Append.{append_nothing, append_next}
use Rattle.sheet.specs.Sheet.{centred, columns}
use Rattle.sheet.proofs.SignedWord.{centred_small}
use Rattle.sheet.proofs.Columns.{columns-append, centred_fits, columns-length, seven}

module _ (p v : ℕ) (x : ℤ) (e : x ≡ centred p v) (l : v < p) (small : p ≤ 2 ^ 20) where
  mag_small : (z : ℤ) → nat_abs z ≤ p / 2 → SFits w32 z
  mag_small (pos k) h = record { sfits = omega arith }
  mag_small (negsuc k) h = record { sfits = omega arith }

  read_is : to_z w32 (of_z w32 x) ≡ centred p v
  read_is = to_z-of_z w32 x (subst (SFits w32) (sym e) (mag_small (centred p v) (centred_small p v l))) ∙ e

  pub coefficient_small : nat_abs (to_z w32 (of_z w32 x)) < 2 ^ 31
  coefficient_small = omega (arith, ap nat_abs read_is, centred_small p v l)

  pub coefficient_fits : length (signed_decimal (to_z w32 (of_z w32 x))) ≤ 7
  coefficient_fits = omega (arith, ap (λ z. length (signed_decimal z)) read_is, centred_fits 5 p (seven p small) v l)

  coefficient_text : right_justified 7 (signed_decimal (to_z w32 (of_z w32 x))) ≡ columns 7 p (v ∷ [])
  unfolding columns
  coefficient_text = ap (λ z. right_justified 7 (signed_decimal z)) read_is ∙ sym (append-nil (right_justified 7 (signed_decimal (centred p v))))

pub next_below : (p i : ℕ) (u : List ℕ) → Words p (length u) u → i < length u → get_or u i 0 < p
next_below p i u w l = words_at w i l

module _ (p at i m : ℕ) (u before between : List ℕ) (small : p ≤ 2 ^ 20) (w : Words p (length u) u) (l : i < length u)
    (a : Appended at (columns 7 p (take i u)) before between m) where
  pub next_room : length between ≡ length before → at + 7 * length u ≤ length before → m + 7 ≤ length between
  next_room same room = omega (arith, a.end_is, columns-length 5 p (seven p small) (take_words w i (omega arith)))

  pub next_coefficient : (x : ℤ) (r : ℕ) (after : List ℕ) → x ≡ centred p (get_or u i 0) → Appended m (right_justified 7 (signed_decimal (to_z w32 (of_z w32 x)))) between after r
      → Appended at (columns 7 p (take (i + 1) u)) before after r
  next_coefficient x r after e b =
      append_next 0 (columns 7 p) (columns-append 7 p) at i m r u before between after a l
      (subst (λ t. Appended m t between after r) (coefficient_text p (get_or u i 0) x e (words_at w i l) small) b)

pub no_coefficients : (p at : ℕ) (u before : List ℕ) → Appended at (columns 7 p (take 0 u)) before before at
unfolding columns
no_coefficients p at u before = append_nothing at before
