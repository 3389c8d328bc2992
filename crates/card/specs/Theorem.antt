-- What is proved of cards. `lent` and `out` are any lists of the length that the call asks for.
--   WrittenReadsBack   "A written card reads back as what was given"
--   ReadIsWritten      "every card that the reader takes is the one the writer makes of its result"
--   OneMeaning         so no two cards mean the same, be they wide or narrow
--   LongestCard        "the longest card now has 166 bytes" (request S-9)
--   NarrowAsBefore     for p up to 65,535 a card is laid out as document 01 says: "p in 16 bits, n − 1 in 4, kind in 4, then coefficients"
use Rattle.std.specs.Prelude.{◌≡◌, List, ◌++◌, ℕ, ◌-◌, ◌≤◌, ◌<◌, length, take, replicate}
use Rattle.algebra.specs.Lists.{All}
use Rattle.card.specs.Bits.{bits, packed}
use Rattle.card.specs.Card.{width, word_count, all_bits, card, card_length, read_number, read_prime, read_degree, read_kind, read_output, write_number, write_output}

pub record Answer (p n kind : ℕ) (words ys out : List ℕ) : Type 0 where
  pub accepted : read_number ys out ≡ 0
  pub prime : read_prime ys out ≡ p
  pub degree : read_degree ys out ≡ n
  pub kind_is : read_kind ys out ≡ kind
  pub words_are : read_output ys out ≡ words ++ replicate (64 - length words) 0

abbrev pub WrittenReadsBack : Type 0
WrittenReadsBack =
    (p n kind : ℕ) (words lent out : List ℕ) → write_number p n kind words lent ≡ 0 → length out ≡ 64
    → Answer p n kind words (write_output p n kind words lent) out

-- the coefficients among the words that the reader writes
abbrev pub read_words : List ℕ → List ℕ → List ℕ
read_words ys out = take (word_count (read_degree ys out) (read_kind ys out)) (read_output ys out)

abbrev pub ReadIsWritten : Type 0
ReadIsWritten =
    (ys out lent : List ℕ) → All (λ y. y < 256) ys → read_number ys out ≡ 0 → length lent ≡ length ys
    → (write_number (read_prime ys out) (read_degree ys out) (read_kind ys out) (read_words ys out) lent ≡ 0)
    × (write_output (read_prime ys out) (read_degree ys out) (read_kind ys out) (read_words ys out) lent ≡ ys)

abbrev pub OneMeaning : Type 0
OneMeaning =
    (ys zs out : List ℕ) → All (λ y. y < 256) ys → All (λ y. y < 256) zs → read_number ys out ≡ 0 → read_number zs out ≡ 0
    → read_prime ys out ≡ read_prime zs out → read_degree ys out ≡ read_degree zs out → read_kind ys out ≡ read_kind zs out → read_output ys out ≡ read_output zs out
    → ys ≡ zs

abbrev pub LongestCard : Type 0
LongestCard =
    ((p n kind : ℕ) (words out : List ℕ) → write_number p n kind words out ≡ 0
    → (length (card p n kind words) ≡ card_length p n kind) × (card_length p n kind ≤ 166))
    × (card_length 1048573 16 2 ≡ 166)

abbrev pub NarrowAsBefore : Type 0
NarrowAsBefore =
    (p n kind : ℕ) (words : List ℕ) → p ≤ 65535
    → card p n kind words ≡ packed (bits 16 p ++ (bits 4 (n - 1) ++ (bits 4 kind ++ all_bits (width p) words)))
