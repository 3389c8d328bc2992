-- The sheet has its length and determines the four lists: the lines have one length, so equal sheets have equal lines; within a line the name, the
-- coefficients and the blanks stand at fixed places; and columns determine the words.
use mathlib.Core.Path.{◌≡◌, refl, sym, ap₂, ◌∙◌}
use mathlib.Core.List.{List, ◌++◌}
use Prim.Native.Nat.{ℕ, zero, suc, ◌+◌, ◌*◌, ◌/◌, ◌^◌, ◌≤◌}
use native.Mathlib.Nat as Nat
use native.Mathlib.Omega.{arith}
use lib.ListN.{length, take, length-append, take-append-drop}
use Rattle.array.specs.Words.{Words, none, more}
use Rattle.array.proofs.Words.{drop_words}
use Rattle.text.specs.Ascii.{ascii}
use Rattle.text.specs.Columns.{blanks, filled}
use Rattle.text.proofs.ColumnDetermines.{blanks-length, filled-length}
use Rattle.sheet.specs.Sheet.{columns, line, lines, polynomial, sheet_text, sheet_length}
use Rattle.sheet.specs.Theorem.{SheetHasLength, SheetDetermines}
use Rattle.sheet.proofs.Columns.{parts_equal, seven, columns_determine}
use Rattle.sheet.proofs.LineLengths.{front, text_length, line-length, polynomial-length}

module _ (p : ℕ) (small : p ≤ 2 ^ 20) where
  line_determines : {n : ℕ} {u v : List ℕ} (name : List ℕ) → length name ≡ 3 → n ≤ 8 → Words p n u → Words p n v → line p name u ≡ line p name v → u ≡ v
  unfolding line filled
  line_determines {n} {u} {v} name three few w w' e =
      let text_u = text_length p small name three w in
      let text_v = text_length p small name three w' in
      let fits_u = filled-length 59 (name ++ columns 7 p u) (omega (arith, text_u)) in
      let fits_v = filled-length 59 (name ++ columns 7 p v) (omega (arith, text_v)) in
      let without_newline = (parts_equal _ _ _ _ (fits_u ∙ sym fits_v) e).0 in
      let without_blanks = (parts_equal (name ++ columns 7 p u) _ (name ++ columns 7 p v) _ (text_u ∙ sym text_v) without_newline).0 in
      columns_determine 5 p (seven p small) w w' (parts_equal name _ name _ refl without_blanks).1

  no_words : {n : ℕ} {u v : List ℕ} → n ≤ 0 → Words p n u → Words p n v → u ≡ v
  no_words h none none = refl
  no_words h (more l w) w' = absurd (omega arith)

  lines_determine : (k : ℕ) {n : ℕ} {u v : List ℕ} (name : List ℕ) → length name ≡ 3 → n ≤ k * 8 → Words p n u → Words p n v
      → lines p k name u ≡ lines p k name v → u ≡ v
  unfolding lines
  lines_determine zero name three few w w' e = no_words (omega arith) w w'
  lines_determine (suc k) {n} {u} {v} name three few w w' e =
      let (m, short, first) = front p n in
      let lengths = line-length p small name three (first u w) short ∙ sym (line-length p small name three (first v w') short) in
      let (here, after) = parts_equal (line p name (take 8 u)) _ (line p name (take 8 v)) _ lengths e in
      sym (take-append-drop 8 u)
      ∙ ap₂ ◌++◌ (line_determines name three short (first u w) (first v w') here)
      (lines_determine k (blanks 3) (blanks-length 3) (omega (arith, few, Nat.suc-mul k 8)) (drop_words w 8) (drop_words w' 8) after)
      ∙ take-append-drop 8 v

  polynomial_determines : {n : ℕ} {u v : List ℕ} (name : List ℕ) → length name ≡ 3 → Words p n u → Words p n v
      → polynomial p n name u ≡ polynomial p n name v → u ≡ v
  unfolding polynomial
  polynomial_determines {n} name three w w' e = lines_determine ((n + 7) / 8) name three (omega arith) w w' e

  same_length : {n : ℕ} {u v : List ℕ} (name : List ℕ) → length name ≡ 3 → Words p n u → Words p n v → length (polynomial p n name u) ≡ length (polynomial p n name v)
  same_length name three w w' = polynomial-length p small name three w ∙ sym (polynomial-length p small name three w')

pub sheet_has_length : SheetHasLength
unfolding sheet_text sheet_length ascii
sheet_has_length p n t1 t2 s r small g =
    let T1 : List ℕ = polynomial p n (ascii "T1 ") t1 in
    let T2 : List ℕ = polynomial p n (ascii "T2 ") t2 in
    let S : List ℕ = polynomial p n (ascii "S  ") s in
    let R : List ℕ = polynomial p n (ascii "R  ") r in
    omega (
      arith,
      length-append T1 (T2 ++ (S ++ R)),
      length-append T2 (S ++ R),
      length-append S R,
      polynomial-length p small (ascii "T1 ") refl g.words_1,
      polynomial-length p small (ascii "T2 ") refl g.words_2,
      polynomial-length p small (ascii "S  ") refl g.words_s,
      polynomial-length p small (ascii "R  ") refl g.words_r,
    )

pub sheet_determines : SheetDetermines
unfolding sheet_text ascii
sheet_determines p n t1 t2 s r t1' t2' s' r' small g g' e =
    let (e1, f1) = parts_equal _ _ _ _ (same_length p small (ascii "T1 ") refl g.words_1 g'.words_1) e in
    let (e2, f2) = parts_equal _ _ _ _ (same_length p small (ascii "T2 ") refl g.words_2 g'.words_2) f1 in
    let (e3, e4) = parts_equal _ _ _ _ (same_length p small (ascii "S  ") refl g.words_s g'.words_s) f2 in (
      polynomial_determines p small (ascii "T1 ") refl g.words_1 g'.words_1 e1,
      polynomial_determines p small (ascii "T2 ") refl g.words_2 g'.words_2 e2,
      polynomial_determines p small (ascii "S  ") refl g.words_s g'.words_s e3,
      polynomial_determines p small (ascii "R  ") refl g.words_r g'.words_r e4,
    )
