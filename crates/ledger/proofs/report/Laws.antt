-- The report comes about in parts: a number and its newline, a record's line, the lines, the totals. How long each is, that there is room for it, and
-- where it then stands.
use mathlib.Core.Path.{◌≡◌, refl, sym, ap, subst, ◌∙◌}
use mathlib.Core.List.{List, [], ◌∷◌, ◌++◌, append-nil}
use Prim.Native.Nat.{ℕ, ◌+◌, ◌^◌, ◌≤◌, ◌<◌}
use native.Mathlib.Numerals.{add-one}
use native.Mathlib.Omega.{arith}
use lib.ListN.{length, get_or, take, length-append}
use lib.Seq.{take-suc, take-length, take_all}
use Rattle.text.specs.Ascii.{ascii}
use Rattle.text.specs.Digits.{decimal}
use Rattle.text.specs.Text.{Appended}
use Rattle.text.proofs.Append.{append_nothing, append_both, append_next}
use Rattle.text.proofs.DecimalDigits.{decimal-length}
use Rattle.ledger.specs.Ledger.{none, total, letter, number, line, lines, report}
use Rattle.ledger.specs.declared.Direction.{Direction}
use Rattle.ledger.specs.declared.Direction.TheVariants.{Forward, Back}
use Rattle.ledger.specs.declared.Record.{Record}
use Rattle.ledger.proofs.Records.{lines-append, lines_monotone}

-- lengths

number_long : (k : ℕ) → length (number k) ≡ length (decimal k) + 1
unfolding number ascii
number_long k = length-append (decimal k) (ascii "\n")

letter_long : (d : Direction) → length (letter d) ≡ 1
unfolding letter ascii
letter_long Forward = refl
letter_long Back = refl

line_long : (x : Record) → length (line x) ≡ length (number x.residues) + 2
unfolding line ascii
line_long x =
    omega (arith, length-append (letter x.direction) (ascii " " ++ number x.residues), length-append (ascii " ") (number x.residues), letter_long x.direction)

pub number_has_length : (k m : ℕ) → m ≡ length (decimal k) → m + 1 ≡ length (number k)
number_has_length k m e = omega (arith, e, number_long k)

pub digits_few : (k m : ℕ) → k < 2 ^ 64 → m ≡ length (decimal k) → m ≤ 20
digits_few k m h e = omega (arith, e, decimal-length 19 k (omega arith))

pub line_has_length : (x : Record) (m : ℕ) → m ≡ length (number x.residues) → m + 2 ≡ length (line x)
line_has_length x m e = omega (arith, e, line_long x)

-- the letters

module _ (d : Direction) where
  pub letter_forward : d ≡ Forward → (70 ∷ []) ≡ letter d
  unfolding letter ascii
  letter_forward e = rw e

  pub letter_back : d ≡ Back → (66 ∷ []) ≡ letter d
  unfolding letter ascii
  letter_back e = rw e

-- a number and its newline

module _ (at k : ℕ) (before : List ℕ) (room : at + length (number k) ≤ length before) where
  pub digits_room : at + length (decimal k) ≤ length before
  digits_room = omega (arith, number_long k)

  module _ (m : ℕ) (between : List ℕ) (a : Appended at (decimal k) before between m) where
    pub newline_room : length between ≡ length before → m < length between
    newline_room same = omega (arith, a.end_is, number_long k)

    pub number_append : (r : ℕ) (after : List ℕ) → Appended m (10 ∷ []) between after r → Appended at (number k) before after r
    unfolding number ascii
    number_append r after b = append_both at m r (decimal k) (10 ∷ []) before between after a b

-- the line of a record

module _ (x : Record) (at a : ℕ) (before : List ℕ) (is_letter : (a ∷ []) ≡ letter x.direction) (room : at + length (line x) ≤ length before) where
  pub letter_room : at < length before
  letter_room = omega (arith, line_long x)

  module _ (m : ℕ) (between : List ℕ) (lettered : Appended at (a ∷ []) before between m) (same : length between ≡ length before) where
    pub blank_room : m < length between
    blank_room = omega (arith, lettered.end_is, line_long x)

    module _ (n : ℕ) (spaced : List ℕ) (blank : Appended m (32 ∷ []) between spaced n) where
      pub residues_room : length spaced ≡ length between → n + length (number x.residues) ≤ length spaced
      residues_room same' = omega (arith, lettered.end_is, blank.end_is, line_long x)

      pub line_append : (r : ℕ) (after : List ℕ) → Appended n (number x.residues) spaced after r → Appended at (line x) before after r
      unfolding line ascii
      line_append r after b =
          append_both at m r (letter x.direction) ((32 ∷ []) ++ number x.residues) before between after
          (subst (λ l. Appended at l before between m) is_letter lettered)
          (append_both m n r (32 ∷ []) (number x.residues) between spaced after blank b)

-- the lines, one record after another

pub no_lines : (xs : List Record) (before : List ℕ) → Appended 0 (lines (take 0 xs)) before before 0
unfolding lines
no_lines xs before = append_nothing 0 before

one_line : (x : Record) → line x ≡ lines (x ∷ [])
unfolding lines
one_line x = sym (append-nil (line x))

pub lines_short : (xs : List Record) → 0 ≡ length (lines (take 0 xs))
unfolding lines
lines_short xs = refl

module _ (xs : List Record) (i : ℕ) (more : i < length xs) where
  next_long : length (lines (take (i + 1) xs)) ≡ length (lines (take i xs)) + length (line (get_or xs i none))
  next_long =
      rw (add-one i, take-suc xs i none more, lines-append, ← one_line (get_or xs i none))
      (length-append (lines (take i xs)) (line (get_or xs i none)))

  pub next_room : (m : ℕ) (before between : List ℕ) → Appended 0 (lines (take i xs)) before between m → length between ≡ length before
      → length (lines xs) ≤ length before → m + length (line (get_or xs i none)) ≤ length between
  next_room m before between a same room =
      omega (arith, a.end_is, next_long, lines_monotone (i + 1) (length xs) xs (omega arith), ap (λ ys. length (lines ys)) (take-length xs))

  pub next_line : (m r : ℕ) (before between after : List ℕ) → Appended 0 (lines (take i xs)) before between m
      → Appended m (line (get_or xs i none)) between after r → Appended 0 (lines (take (i + 1) xs)) before after r
  next_line m r before between after a b =
      append_next none lines lines-append 0 i m r xs before between after a more (subst (λ t. Appended m t between after r) (one_line (get_or xs i none)) b)

  pub lines_longer : (m k : ℕ) → m ≡ length (lines (take i xs)) → k ≡ length (line (get_or xs i none)) → m + k ≡ length (lines (take (i + 1) xs))
  lines_longer m k e f = omega (arith, e, f, next_long)

-- the lines and the totals

report_long : (xs : List Record) → length (report xs) ≡ length (lines xs) + (length (number (total Forward xs)) + length (number (total Back xs)))
unfolding report
report_long xs =
    omega (
      arith,
      length-append (lines xs) (number (total Forward xs) ++ number (total Back xs)),
      length-append (number (total Forward xs)) (number (total Back xs)),
    )

pub report_has_length : (xs : List Record) (m f b g h : ℕ) → m ≡ length (lines xs) → g ≡ total Forward xs → f ≡ length (number g) → h ≡ total Back xs
    → b ≡ length (number h) → m + f + b ≡ length (report xs)
report_has_length xs m f b g h e eg ef eh eb =
    omega (arith, e, ef, eb, ap (λ k. length (number k)) eg, ap (λ k. length (number k)) eh, report_long xs)

module _ (xs : List Record) (before : List ℕ) (room : length before ≡ length (report xs)) where
  pub records_room : length (lines xs) ≤ length before
  records_room = omega (arith, report_long xs)

  module _ (m : ℕ) (listed : List ℕ) (a : Appended 0 (lines xs) before listed m) (same : length listed ≡ length before) (f : ℕ) (ef : f ≡ total Forward xs) where
    pub forward_room : m + length (number f) ≤ length listed
    forward_room = omega (arith, a.end_is, report_long xs, ap (λ k. length (number k)) ef)

    module _ (n : ℕ) (counted : List ℕ) (b : Appended m (number f) listed counted n) (same' : length counted ≡ length listed) (g : ℕ) (eg : g ≡ total Back xs) where
      pub back_room : n + length (number g) ≤ length counted
      back_room = omega (arith, a.end_is, b.end_is, report_long xs, ap (λ k. length (number k)) ef, ap (λ k. length (number k)) eg)

      pub whole_report : (r : ℕ) (after : List ℕ) → Appended n (number g) counted after r → length after ≡ length counted → after ≡ report xs
      unfolding report
      whole_report r after c same'' =
          let forward : Appended m (number (total Forward xs)) listed counted n = subst (λ k. Appended m (number k) listed counted n) ef b in
          let back : Appended n (number (total Back xs)) counted after r = subst (λ k. Appended n (number k) counted after r) eg c in
          let all = append_both 0 m r (lines xs) (number (total Forward xs) ++ number (total Back xs)) before listed after a
          (append_both m n r (number (total Forward xs)) (number (total Back xs)) listed counted after forward back) in
          sym (take_all r after (omega (arith, all.end_is, room))) ∙ all.list_is
