-- What is proved of tables stored as differences (request S-11: "Every list of 32-bit words whose length is allowed comes back, whether its words are below p or not").
--   Allowed n table         n is 1 to 16, and the table has at most 16,384 words of 32 bits, a multiple of n of them
--   Each n table image later    image has the table's length and its first n words, and each later word k is later k
--   EachDifference          so for what `differences` writes: each later word is the table's minus the table's word n places before, wrapped at 32 bits
--   EachRestored            and for what `restore` writes: each later word is the table's plus the restored word n places before, wrapped at 32 bits
--   ComesBack n table out other   with lists out and other of the table's length for what is written, no call refuses; stored and then restored the table is as it was, and so it
--                           is restored and then stored
--   EveryTableComesBack     that is so for every table that is allowed
use Rattle.std.specs.Prelude.{◌≡◌, ℕ, ◌+◌, ◌-◌, ◌%◌, ◌<◌, ◌≤◌, List, length, slice_index}
use Rattle.array.specs.Words.{Words, word_bound}
use Rattle.refusal.specs.Refusal.{largest_degree}
use Rattle.table.specs.Table.{most_words}
use Rattle.differences.specs.Differences.{minus, differences_number, differences_output, restore_output}

pub record Allowed (n : ℕ) (table : List ℕ) : Type 0 where
  pub degree : (1 ≤ n) × (n ≤ largest_degree)
  pub most : length table ≤ most_words
  pub groups : length table % n ≡ 0
  pub words : Words word_bound (length table) table

pub record Each (n : ℕ) (table image : List ℕ) (later : ℕ → ℕ) : Type 0 where
  pub same_length : length image ≡ length table
  pub first : (k : ℕ) → k < n → k < length table → slice_index image k ≡ slice_index table k
  pub others : (k : ℕ) → n ≤ k → k < length table → slice_index image k ≡ later k

abbrev pub EachDifference : Type 0
EachDifference =
    (n : ℕ) (table out : List ℕ) → differences_number n table out ≡ 0
    → Each n table (differences_output n table out) (λ k. minus (slice_index table k) (slice_index table (k - n)))

abbrev pub EachRestored : Type 0
EachRestored =
    (n : ℕ) (table out : List ℕ) → Allowed n table → length out ≡ length table
    → Each n table (restore_output n table out) (λ k. (slice_index table k + slice_index (restore_output n table out) (k - n)) % word_bound)

pub record ComesBack (n : ℕ) (table out other : List ℕ) : Type 0 where
  pub accepted : differences_number n table out ≡ 0
  pub restores : (differences_number n (differences_output n table out) other ≡ 0) × (restore_output n (differences_output n table out) other ≡ table)
  pub stores : (differences_number n (restore_output n table out) other ≡ 0) × (differences_output n (restore_output n table out) other ≡ table)

abbrev pub EveryTableComesBack : Type 0
EveryTableComesBack =
    (n : ℕ) (table out other : List ℕ) → Allowed n table → length out ≡ length table → length other ≡ length table → ComesBack n table out other
