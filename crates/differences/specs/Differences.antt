-- Tables stored as differences (request S-11: "The first n words stay; each later word becomes itself minus the word n places before, wrapped at 32 bits.
-- A second call restores the table"). Lists are of 32-bit words.
--   minus a b               a − b wrapped at 32 bits, for two words: a + (2^32 − b), which is not below 0, modulo 2^32
--   differences n table     the first n words of the table, and then word k minus word k − n, for k = n, n + 1, …
--   sum_of xs               the sum of all words of xs
--   restored n table        word k is the sum of the k / n + 1 words k, k − n, k − 2·n, … of the table, wrapped at 32 bits
--   differences_number n table out  the answer of both calls ("Refusals 2, 9 and 10 apply, in that order")
--   differences_output n table out  what the list lent for the differences holds after the call
--   restore_output n table out      what the list lent for the restored table holds after the call
use Rattle.std.specs.Prelude.{ℕ, ◌+◌, ◌-◌, ◌*◌, ◌/◌, ◌%◌, List, [], ◌∷◌, ◌++◌, map, length, take, slice_index}
use Rattle.algebra.specs.Lists.{range}
use Rattle.array.specs.Words.{word_bound}
use Rattle.refusal.specs.Refusal.{refuse, bad_degree, written}
use Rattle.table.specs.Table.{refuse_table}

unfoldable pub minus : ℕ → ℕ → ℕ
minus a b = (a + (word_bound - b)) % word_bound

unfoldable pub differences : ℕ → List ℕ → List ℕ
differences n table = take n table ++ map (λ k. minus (slice_index table k) (slice_index table (k - n))) (range n (length table - n))

unfoldable pub sum_of : List ℕ → ℕ
sum_of [] = 0
sum_of (a ∷ xs) = a + sum_of xs

unfoldable pub restored : ℕ → List ℕ → List ℕ
restored n table = map (λ k. sum_of (map (λ i. slice_index table (k - i * n)) (range 0 (k / n + 1))) % word_bound) (range 0 (length table))

unfoldable pub differences_number : ℕ → List ℕ → List ℕ → ℕ
differences_number n table out = refuse 2 (bad_degree n) (refuse_table n table out 0)

unfoldable pub differences_output : ℕ → List ℕ → List ℕ → List ℕ
differences_output n table out = written (differences_number n table out) (differences n table) out

unfoldable pub restore_output : ℕ → List ℕ → List ℕ → List ℕ
restore_output n table out = written (differences_number n table out) (restored n table) out
