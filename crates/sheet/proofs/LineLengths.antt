-- Lines have 60 bytes each.
use mathlib.Core.Path.{◌≡◌, sym, ap, ap₂, subst, ◌∙◌}
use mathlib.Core.List.{List, ◌++◌}
use Prim.Native.Nat.{ℕ, zero, suc, ◌+◌, ◌*◌, ◌/◌, ◌^◌, ◌≤◌, ◌<◌}
use native.Mathlib.Decide.{dec_lt}
use native.Mathlib.Nat as Nat
use native.Mathlib.Omega.{arith}
use lib.ListN.{length, take, drop, length-append}
use lib.Seq.{take_all}
use Rattle.array.specs.Words.{Words}
use Rattle.array.proofs.Words.{words_length, take_words, drop_words}
use Rattle.text.specs.Ascii.{ascii}
use Rattle.text.specs.Columns.{blanks, filled}
use Rattle.text.proofs.ColumnDetermines.{blanks-length, filled-length}
use Rattle.sheet.specs.Sheet.{columns, line, lines, polynomial}
use Rattle.sheet.proofs.Columns.{seven, columns-length}

-- the first eight of n words, or all where there are fewer
pub front : (p n : ℕ) → (m : ℕ) × (m ≤ 8) × ((u : List ℕ) → Words p n u → Words p m (take 8 u))
front p n = go (dec_lt n 8)
  where
    go : Dec (n < 8) → (m : ℕ) × (m ≤ 8) × ((u : List ℕ) → Words p n u → Words p m (take 8 u))
    go (yes h) = (n, omega arith, λ u w. subst (Words p n) (sym (take_all 8 u (omega (arith, words_length w)))) w)
    go (no h) = (8, omega arith, λ u w. take_words w 8 (omega arith))

module _ (p : ℕ) (small : p ≤ 2 ^ 20) where
  module _ {n : ℕ} {u : List ℕ} (name : List ℕ) (three : length name ≡ 3) (w : Words p n u) where
    pub text_length : length (name ++ columns 7 p u) ≡ 3 + n * 7
    text_length = length-append name (columns 7 p u) ∙ ap₂ ◌+◌ three (columns-length 5 p (seven p small) w)

    pub line-length : n ≤ 8 → length (line p name u) ≡ 60
    unfolding line ascii
    line-length few =
        length-append (filled 59 (name ++ columns 7 p u)) (ascii "\n") ∙ ap (λ k. k + 1) (filled-length 59 (name ++ columns 7 p u) (omega (arith, text_length)))

  lines-length : (k : ℕ) {n : ℕ} {u : List ℕ} (name : List ℕ) → length name ≡ 3 → Words p n u → length (lines p k name u) ≡ k * 60
  unfolding lines
  lines-length zero name three w = sym (Nat.zero-mul 60)
  lines-length (suc k) {n = n} {u = u} name three w =
      let (m, few, first) = front p n in
      length-append (line p name (take 8 u)) (lines p k (blanks 3) (drop 8 u))
      ∙ ap₂ ◌+◌ (line-length name three (first u w) few) (lines-length k (blanks 3) (blanks-length 3) (drop_words w 8))
      ∙ Nat.add_comm 60 (k * 60) ∙ sym (Nat.suc-mul k 60)

  pub polynomial-length : {n : ℕ} {u : List ℕ} (name : List ℕ) → length name ≡ 3 → Words p n u → length (polynomial p n name u) ≡ (n + 7) / 8 * 60
  unfolding polynomial
  polynomial-length {n} name three w = lines-length ((n + 7) / 8) name three w
