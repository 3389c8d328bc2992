-- A line comes about in four parts, and a list in one line or two.
use mathlib.Core.Path.{◌≡◌, sym, ap, subst, ◌∙◌}
use mathlib.Core.List.{List, [], ◌∷◌, ◌++◌, append-nil}
use Prim.Native.Nat.{ℕ, ◌+◌, ◌-◌, ◌*◌, ◌/◌, ◌^◌, ◌≤◌, ◌<◌}
use native.Mathlib.Omega.{arith}
use lib.ListN.{length, take, drop, length-drop}
use lib.Seq.{take_all, length-take-le}
use Rattle.array.specs.Words.{Words}
use Rattle.array.proofs.Words.{take_words, drop_words}
use Rattle.text.specs.Ascii.{ascii}
use Rattle.text.specs.Columns.{blanks, filled}
use Rattle.text.specs.Text.{Appended}
use Rattle.text.proofs.Append.{append_both}
use Rattle.sheet.specs.Sheet.{columns, line, lines, polynomial}
use Rattle.sheet.proofs.Columns.{seven, columns-length}
use Rattle.sheet.proofs.LineLengths.{text_length, line-length}

-- a line in its four parts: the place behind the coefficients, and the whole

pub behind_coefficients : {p at start end : ℕ} {name u before named between : List ℕ} → Appended at name before named start
    → Appended start (columns 7 p u) named between end → p ≤ 2 ^ 20 → Words p (length u) u → length name ≡ 3 → end ≡ at + (3 + length u * 7)
behind_coefficients {p} a b small w three = omega (arith, a.end_is, b.end_is, columns-length 5 p (seven p small) w)

pub line_append : (p at start end last r : ℕ) (name u before named between full after : List ℕ) → p ≤ 2 ^ 20 → Words p (length u) u → length u ≤ 8 → length name ≡ 3
    → Appended at name before named start → Appended start (columns 7 p u) named between end → Appended end (blanks (56 - 7 * length u)) between full last
    → Appended last (10 ∷ []) full after r → Appended at (line p name u) before after r
unfolding line filled ascii
line_append p at start end last r name u before named between full after small w few three a b c e =
    let fill : 56 - 7 * length u ≡ 59 - length (name ++ columns 7 p u) = omega (arith, text_length p small name three w) in
    let text : Appended at (name ++ columns 7 p u) before between end = append_both at start end name (columns 7 p u) before named between a b in
    let filling : Appended end (blanks (59 - length (name ++ columns 7 p u))) between full last = subst (λ k. Appended end (blanks k) between full last) fill c in
    append_both at last r (filled 59 (name ++ columns 7 p u)) (10 ∷ []) before full after
    (append_both at end last (name ++ columns 7 p u) (blanks (59 - length (name ++ columns 7 p u))) before between full text filling) e

-- one line, or two: the lists that are handed on are take 8 u and the rest of it

abbrev rest : List ℕ → List ℕ
rest u = take (length u - 8) (drop 8 u)

rest_is : (u : List ℕ) → rest u ≡ drop 8 u
rest_is u = take_all (length u - 8) (drop 8 u) (omega (arith, length-drop 8 u))

eight_length : (u : List ℕ) → 8 < length u → length (take 8 u) ≡ 8
eight_length u many = length-take-le 8 u (omega arith)

pub eight_taken : (u : List ℕ) → 8 < length u → 8 ≡ length (take 8 u)
eight_taken u many = sym (eight_length u many)

module _ (p : ℕ) (u : List ℕ) (w : Words p (length u) u) (many : 8 < length u) where
  pub eight_words : Words p (length (take 8 u)) (take 8 u)
  eight_words = rw (eight_length u many) (take_words w 8 (omega arith))

  pub rest_words : Words p (length (rest u)) (rest u)
  rest_words = subst (λ l. Words p (length l) l) (sym (rest_is u)) (rw (length-drop 8 u) (drop_words w 8))

pub eight_few : (u : List ℕ) → 8 < length u → length (take 8 u) ≤ 8
eight_few u many = omega (arith, eight_length u many)

pub rest_few : (u : List ℕ) → length u ≤ 16 → length (rest u) ≤ 8
rest_few u most = omega (arith, ap length (rest_is u), length-drop 8 u)

module _ (p : ℕ) (name u : List ℕ) where
  one_line : 1 ≤ length u → length u ≤ 8 → polynomial p (length u) name u ≡ line p name u
  unfolding polynomial lines
  one_line some few =
      let one : (length u + 7) / 8 ≡ 1 = omega arith in
      ap (λ k. lines p k name u) one ∙ append-nil (line p name (take 8 u)) ∙ ap (line p name) (take_all 8 u few)

  two_lines : 8 < length u → length u ≤ 16 → polynomial p (length u) name u ≡ line p name (take 8 u) ++ line p (32 ∷ 32 ∷ 32 ∷ []) (rest u)
  unfolding polynomial lines blanks
  two_lines many most =
      let two : (length u + 7) / 8 ≡ 2 = omega arith in
      let few : length (drop 8 u) ≤ 8 = omega (arith, length-drop 8 u) in
      ap (λ k. lines p k name u) two
      ∙ ap (λ l. line p name (take 8 u) ++ l)
      (append-nil (line p (blanks 3) (take 8 (drop 8 u))) ∙ ap (line p (blanks 3)) (take_all 8 (drop 8 u) few ∙ sym (rest_is u)))

  module _ (at : ℕ) (before : List ℕ) where
    pub one_append : 1 ≤ length u → length u ≤ 8 → (r : ℕ) (after : List ℕ) → Appended at (line p name u) before after r
        → Appended at (polynomial p (length u) name u) before after r
    one_append some few r after a = rw (one_line some few) a

    module _ (end : ℕ) (between : List ℕ) (a : Appended at (line p name (take 8 u)) before between end) where
      pub second_room : p ≤ 2 ^ 20 → Words p (length u) u → 8 < length u → length name ≡ 3 → length between ≡ length before
          → at + (length u + 7) / 8 * 60 ≤ length before → end + 60 ≤ length between
      second_room small w many three same room =
          omega (arith, a.end_is, line-length p small name three (eight_words p u w many) (eight_few u many))

      pub two_append : 8 < length u → length u ≤ 16 → (r : ℕ) (after : List ℕ) → Appended end (line p (32 ∷ 32 ∷ 32 ∷ []) (rest u)) between after r
          → Appended at (polynomial p (length u) name u) before after r
      two_append many most r after b =
          rw (two_lines many most) (append_both at end r (line p name (take 8 u)) (line p (32 ∷ 32 ∷ 32 ∷ []) (rest u)) before between after a b)
