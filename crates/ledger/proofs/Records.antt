-- Totals and lines of records that stand one behind another.
--   total-append, lines-append   of two lists
--   lines_monotone               more records have longer lines
--   total_of_sum                the total as a sum over the list
--   records_long                the length of an array of structs, as a function is handed it
--   Before xs count i           what a loop over the first elements of such an array, xs, knows before turn i
--   before_next, before_all     the next turn, and the end, where all elements that count have been taken
use mathlib.Core.Path.{◌≡◌, refl, sym, ap, ◌∙◌}
use mathlib.Core.List.{List, [], ◌∷◌, ◌++◌, map, append_assoc}
use Prim.Native.Nat.{ℕ, zero, suc, ◌+◌, ◌≤◌, ◌<◌}
use native.Mathlib.Omega.{arith}
use lib.ListN.{length, take, length-append, length-map}
use Rattle.std.specs.List.{sum_by}
use Rattle.std.proofs.lemmas.List.Sums.{sum_by-cons}
use Rattle.ledger.specs.Ledger.{most_records, residues_in, total, line, lines}
use Rattle.ledger.specs.declared.Direction.{Direction}
use Rattle.ledger.specs.declared.Record.{Record}

pub total-append : (d : Direction) (xs ys : List Record) → total d (xs ++ ys) ≡ total d xs + total d ys
unfolding total
total-append d [] ys = omega arith
total-append d (x ∷ xs) ys = omega (arith, total-append d xs ys)

pub lines-append : (xs ys : List Record) → lines (xs ++ ys) ≡ lines xs ++ lines ys
unfolding lines
lines-append [] ys = refl
lines-append (x ∷ xs) ys = ap (λ l. line x ++ l) (lines-append xs ys) ∙ sym (append_assoc (line x) (lines xs) (lines ys))

pub lines_monotone : (i j : ℕ) (xs : List Record) → i ≤ j → length (lines (take i xs)) ≤ length (lines (take j xs))
unfolding lines
lines_monotone zero j xs h = omega arith
lines_monotone (suc i) zero xs h = absurd (omega arith)
lines_monotone (suc i) (suc j) [] h = omega arith
lines_monotone (suc i) (suc j) (x ∷ xs) h =
    omega (arith, length-append (line x) (lines (take i xs)), length-append (line x) (lines (take j xs)), lines_monotone i j xs (omega arith))

-- the residues of the records, added up
pub total_of_sum : (d : Direction) (xs : List Record) (k : ℕ) → k ≡ sum_by (residues_in d) xs → k ≡ total d xs
unfolding total
total_of_sum d [] k e = e
total_of_sum d (x ∷ xs) k e = omega (arith, e, sum_by-cons (residues_in d) x xs, total_of_sum d xs (sum_by (residues_in d) xs) refl)

-- loops over the records that count

pub records_long : (X Y : Type 0) (f : X → Y) (xs : List X) (n : ℕ) → length (map f xs) ≡ n → length xs ≡ n
records_long X Y f xs n e = sym (length-map xs f) ∙ e

pub record Before {A : Type 0} (xs : List A) (count i : ℕ) : Type 0 where
  pub within : i ≤ count
  pub few : count ≤ most_records
  pub long : length xs ≡ most_records

module _ {A : Type 0} (xs : List A) (count i : ℕ) (h : Before xs count i) where
  pub before_next : i < count → Before xs count (i + 1)
  before_next more = record { within = omega arith; few = h.few; long = h.long }

  pub before_there : i < count → i < length xs
  before_there more = omega arith

  pub before_all : count ≤ i → take i xs ≡ take count xs
  before_all end = let same : i ≡ count = omega arith in ap (λ k. take k xs) same
