-- A record that is added stands behind the others. The report determines the records: a line begins with a letter, the totals with a digit, and a newline is
-- no digit, so that the first newline ends the first number.
use mathlib.Core.Path.{◌≡◌, refl, sym, ap, ap₂, ◌∙◌}
use mathlib.Core.List.{List, [], ◌∷◌, ◌++◌, append_assoc}
use Prim.Native.Nat.{ℕ, ◌≤◌}
use native.Mathlib.Numerals.{add-one}
use native.Mathlib.Omega.{arith}
use lib.ListN.{get_or, drop}
use lib.Seq.{take-suc-set}
use Rattle.text.specs.Ascii.{ascii}
use Rattle.text.specs.Digits.{decimal}
use Rattle.text.specs.Theorem.{Digits}
use Rattle.text.proofs.ColumnDetermines.{decimal_head, decimal_determines}
use Rattle.text.proofs.Theorem.{decimal_is_decimal}
use Rattle.ledger.specs.Ledger.{total, letter, number, line, lines, report}
use Rattle.ledger.specs.Theorem.{AddedBehind, ReportDetermines}
use Rattle.ledger.specs.declared.Direction.{Direction}
use Rattle.ledger.specs.declared.Direction.TheVariants.{Forward, Back}
use Rattle.ledger.specs.declared.Record.{Record}

pub added_behind : AddedBehind
added_behind l x long room = rw (add-one l.count) (take-suc-set l.records l.count x (omega arith))

-- a number and its newline

first_newline : (ds es xs ys : List ℕ) → Digits ds → Digits es → ds ++ (10 ∷ xs) ≡ es ++ (10 ∷ ys) → (ds ≡ es) × (xs ≡ ys)
first_newline [] [] xs ys h l e = (refl, ap (drop 1) e)
first_newline [] (d ∷ es) xs ys h l e = absurd (omega (arith, ap (λ zs. get_or zs 0 0) e, l.0))
first_newline (d ∷ ds) [] xs ys h l e = absurd (omega (arith, ap (λ zs. get_or zs 0 0) e, h.0))
first_newline (d ∷ ds) (d' ∷ es) xs ys h l e =
    let (same, rest) = first_newline ds es xs ys h.2 l.2 (ap (drop 1) e) in
    (ap₂ ◌∷◌ (ap (λ zs. get_or zs 0 0) e) same, rest)

number_then : (k : ℕ) (xs : List ℕ) → number k ++ xs ≡ decimal k ++ (10 ∷ xs)
unfolding number ascii
number_then k xs = append_assoc (decimal k) (10 ∷ []) xs

number_determines : (j k : ℕ) (xs ys : List ℕ) → number j ++ xs ≡ number k ++ ys → (j ≡ k) × (xs ≡ ys)
number_determines j k xs ys e =
    let (digits, rest) = first_newline (decimal j) (decimal k) xs ys (decimal_is_decimal j).digits (decimal_is_decimal k).digits
    (sym (number_then j xs) ∙ e ∙ number_then k ys) in
    (decimal_determines j k digits, rest)

-- a number begins with a digit, a line with a letter

number_begins : (k : ℕ) (xs : List ℕ) → get_or (number k ++ xs) 0 0 ≤ 57
number_begins k xs = rw (number_then k xs) (go (decimal k) (decimal_is_decimal k).digits (decimal_head k))
  where
    go : (ds : List ℕ) → Digits ds → 48 ≤ get_or ds 0 0 → get_or (ds ++ (10 ∷ xs)) 0 0 ≤ 57
    go [] h l = absurd (omega arith)
    go (d ∷ ds) h l = h.1

code : Direction → ℕ
code Forward = 70
code Back = 66

line_then : (x : Record) (xs : List ℕ) → line x ++ xs ≡ code x.direction ∷ 32 ∷ (number x.residues ++ xs)
unfolding line letter ascii code
line_then x xs = go x.direction
  where
    go : (d : Direction) → (letter d ++ (ascii " " ++ number x.residues)) ++ xs ≡ code d ∷ 32 ∷ (number x.residues ++ xs)
    go Forward = refl
    go Back = refl

code_determines : (c d : Direction) → code c ≡ code d → c ≡ d
unfolding code
code_determines Forward Forward e = refl
code_determines Forward Back e = absurd (omega arith)
code_determines Back Forward e = absurd (omega arith)
code_determines Back Back e = refl

letter_above : (d : Direction) → 58 ≤ code d
unfolding code
letter_above Forward = omega arith
letter_above Back = omega arith

line_begins : (x : Record) (xs : List ℕ) → 58 ≤ get_or (line x ++ xs) 0 0
line_begins x xs = rw (line_then x xs) (letter_above x.direction)

line_determines : (x y : Record) (xs ys : List ℕ) → line x ++ xs ≡ line y ++ ys → (x ≡ y) × (xs ≡ ys)
line_determines x y xs ys e =
    let e' = sym (line_then x xs) ∙ e ∙ line_then y ys in
    let (residues, rest) = number_determines x.residues y.residues xs ys (ap (drop 2) e') in
    let direction = code_determines x.direction y.direction (ap (λ zs. get_or zs 0 0) e') in
    (ap₂ (λ d k. record { direction = d; residues = k }) direction residues, rest)

-- lines, and a number behind them

lines_determine : (xs ys : List Record) (j k : ℕ) (us vs : List ℕ) → lines xs ++ (number j ++ us) ≡ lines ys ++ (number k ++ vs) → xs ≡ ys
unfolding lines
lines_determine [] [] j k us vs e = refl
lines_determine [] (y ∷ ys) j k us vs e =
    absurd (omega (arith, ap (λ zs. get_or zs 0 0) (e ∙ append_assoc (line y) (lines ys) (number k ++ vs)), number_begins j us, line_begins y (lines ys ++ (number k ++ vs))))
lines_determine (x ∷ xs) [] j k us vs e =
    absurd (omega (arith, ap (λ zs. get_or zs 0 0) (sym (append_assoc (line x) (lines xs) (number j ++ us)) ∙ e), number_begins k vs, line_begins x (lines xs ++ (number j ++ us))))
lines_determine (x ∷ xs) (y ∷ ys) j k us vs e =
    let (same, rest) = line_determines x y (lines xs ++ (number j ++ us)) (lines ys ++ (number k ++ vs))
    (sym (append_assoc (line x) (lines xs) (number j ++ us)) ∙ e ∙ append_assoc (line y) (lines ys) (number k ++ vs)) in
    ap₂ ◌∷◌ same (lines_determine xs ys j k us vs rest)

pub report_determines : ReportDetermines
unfolding report
report_determines xs ys e =
    lines_determine xs ys (total Forward xs) (total Forward ys) (number (total Back xs)) (number (total Back ys)) e
