-- Coefficients in columns of one width: how long they are, one behind another, and that they determine the words.
use mathlib.Core.Path.{◌≡◌, refl, sym, ap, ap₂, ◌∙◌}
use mathlib.Core.List.{List, [], ◌∷◌, ◌++◌, append_assoc}
use Prim.Native.Nat.{ℕ, suc, ◌+◌, ◌*◌, ◌/◌, ◌^◌, ◌≤◌, ◌<◌}
use native.Mathlib.Nat as Nat
use native.Mathlib.Omega.{arith}
use lib.ListN.{length, take, drop, length-append}
use lib.Seq.{take_at, drop_at}
use Rattle.array.specs.Words.{Words, none, more}
use Rattle.text.specs.Columns.{signed_decimal, right_justified}
use Rattle.text.proofs.ColumnDetermines.{right_length, signed_length, column_determines}
use Rattle.sheet.specs.Sheet.{centred, columns}
use Rattle.sheet.proofs.SignedWord.{centred_small, centred_determines}

-- lists of one length, with others behind them
pub parts_equal : (x y x' y' : List ℕ) → length x ≡ length x' → x ++ y ≡ x' ++ y' → (x ≡ x') × (y ≡ y')
parts_equal x y x' y' l e = (
  sym (take_at x y (length x) refl) ∙ ap (take (length x)) e ∙ take_at x' y' (length x) (sym l),
  sym (drop_at x y (length x) refl) ∙ ap (drop (length x)) e ∙ drop_at x' y' (length x) (sym l),
)

pub columns-append : (w p : ℕ) (u v : List ℕ) → columns w p (u ++ v) ≡ columns w p u ++ columns w p v
unfolding columns
columns-append w p [] v = refl
columns-append w p (a ∷ u) v =
    ap (λ l. right_justified w (signed_decimal (centred p a)) ++ l) (columns-append w p u v)
    ∙ sym (append_assoc (right_justified w (signed_decimal (centred p a))) (columns w p u) (columns w p v))

-- a coefficient fits w = d + 2 columns where half of p is below 10^(d + 1)
module _ (d p : ℕ) (small : p / 2 < 10 ^ suc d) where
  pub centred_fits : (v : ℕ) → v < p → length (signed_decimal (centred p v)) ≤ suc (suc d)
  centred_fits v l = signed_length d (centred p v) (omega (arith, centred_small p v l))

  column_length : (v : ℕ) → v < p → length (right_justified (suc (suc d)) (signed_decimal (centred p v))) ≡ suc (suc d)
  column_length v l = right_length (suc (suc d)) (signed_decimal (centred p v)) (centred_fits v l)

  pub columns-length : {n : ℕ} {u : List ℕ} → Words p n u → length (columns (suc (suc d)) p u) ≡ n * suc (suc d)
  unfolding columns
  columns-length none = sym (Nat.zero-mul (suc (suc d)))
  columns-length (more {a} {n} {u} l w) =
      length-append (right_justified (suc (suc d)) (signed_decimal (centred p a))) (columns (suc (suc d)) p u)
      ∙ ap₂ ◌+◌ (column_length a l) (columns-length w) ∙ sym (Nat.suc-mul n (suc (suc d)) ∙ Nat.add_comm (n * suc (suc d)) (suc (suc d)))

  pub columns_determine : {n : ℕ} {u v : List ℕ} → Words p n u → Words p n v → columns (suc (suc d)) p u ≡ columns (suc (suc d)) p v → u ≡ v
  unfolding columns
  columns_determine none none e = refl
  columns_determine (more {a} {n} {u} l w) (more {a = b} l' w') e =
      let (first, others) = parts_equal _ _ _ _ (column_length a l ∙ sym (column_length b l')) e in
      ap₂ ◌∷◌ (centred_determines p a b l l' (column_determines (suc (suc d)) (centred p a) (centred p b) first)) (columns_determine w w' others)

-- 7 columns hold the coefficients of p up to 2^20
pub seven : (p : ℕ) → p ≤ 2 ^ 20 → p / 2 < 10 ^ 6
seven p small = omega arith
