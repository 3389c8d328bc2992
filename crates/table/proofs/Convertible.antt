-- What it means that 9, 10 and 4 do not apply to a conversion: the table has whole groups of words below p, not too many, and the output has
-- its length.
--   Lengths n table out        9 and 10 do not apply; lengths_passed, passed_lengths: that is so exactly where what comes after them decides
--   table_given, given_table   none of the three applies exactly where the number is 0
--   whole_groups               its groups are as many as its length divided by n
use mathlib.Core.Path.{◌≡◌, refl, ap, ◌∙◌}
use mathlib.Core.Bool.{Bool, true, false, ◌||◌, not}
use mathlib.Core.List.{List, [], ◌∷◌}
use Prim.Native.Nat.{ℕ, ◌*◌, ◌/◌, ◌%◌, ◌≤◌}
use native.Mathlib.Nat as Nat
use native.Mathlib.Omega.{arith}
use lib.Dec.{eqb, ltb}
use lib.ListN.{length}
use borrow.Author.Tests.{not-false, eqb-true, eq-eqb, ltb-false, le-ltb}
use Rattle.refusal.specs.Refusal.{refuse, bad_word}
use Rattle.array.specs.Words.{Words}
use Rattle.refusal.proofs.Order.{refuse_none}
use Rattle.refusal.proofs.Lists.{words_of, below_given, given_words}
use Rattle.table.specs.Table.{most_words, refuse_table, table_number}

pub record Lengths (n : ℕ) (table out : List ℕ) : Type 0 where
  pub few : length table ≤ most_words
  pub groups : length table % n ≡ 0
  pub lengths : length out ≡ length table

neither : (a b : Bool) → a || b ≡ false → (a ≡ false) × (b ≡ false)
neither true b h = (h, cc)
neither false b h = (refl, h)

pub lengths_passed : (n rest : ℕ) (table out : List ℕ) → refuse_table n table out rest ≡ 0 → Lengths n table out × (rest ≡ 0)
lengths_passed n rest table out h =
    let (size, h10) = refuse_none 8 (ltb most_words (length table) || not (eqb (length table % n) 0)) _ h in
    let (lengths, end) = refuse_none 9 (not (eqb (length out) (length table))) _ h10 in
    let (few, groups) = neither (ltb most_words (length table)) (not (eqb (length table % n) 0)) size in (
      record {
        few = ltb-false most_words (length table) few;
        groups = eqb-true (length table % n) 0 (not-false (eqb (length table % n) 0) groups);
        lengths = eqb-true (length out) (length table) (not-false (eqb (length out) (length table)) lengths);
      },
      end,
    )

pub passed_lengths : (n rest : ℕ) (table out : List ℕ) → Lengths n table out → refuse_table n table out rest ≡ rest
passed_lengths n rest table out h =
    rw (le-ltb most_words (length table) h.few, eq-eqb (length table % n) 0 h.groups, eq-eqb (length out) (length table) h.lengths)

pub record Convertible (p n : ℕ) (table out : List ℕ) : Type 0 where
  pub sizes : Lengths n table out
  pub words : Words p (length table) table

pub table_given : (p n : ℕ) (table out : List ℕ) → table_number p n table out ≡ 0 → Convertible p n table out
unfolding table_number
table_given p n table out h =
    let (sizes, h4) = lengths_passed n _ table out h in
    let (words, end) = refuse_none 3 (bad_word p (table ∷ [])) 0 h4 in
    record { sizes = sizes; words = words_of p (length table) table refl (below_given p (table ∷ []) words).0 }

pub given_table : {p n : ℕ} {table out : List ℕ} → Convertible p n table out → table_number p n table out ≡ 0
unfolding table_number
given_table {p} {n} {table} {out} h =
    passed_lengths n _ table out h.sizes
    ∙ ap (λ b. refuse 4 b 0) (given_words p (length table) (table ∷ []) (h.words, tt))

pub whole_groups : {p n : ℕ} {table out : List ℕ} → Convertible p n table out → length table / n * n ≡ length table
whole_groups {n = n} {table = table} h = omega (arith, Nat.div-add-mod' (length table) n, h.sizes.groups)
