-- The theorems of cards: a written card reads back, a card that is read is the one that is written of its result, and the longest card.
use mathlib.Core.Path.{◌≡◌, refl, sym, ap, ap₂, ◌∙◌}
use mathlib.Core.Bool.{◌&&◌}
use mathlib.Core.List.{List, ◌++◌}
use Prim.Native.Nat.{ℕ, ◌+◌, ◌-◌, ◌*◌, ◌/◌, ◌≤◌, ◌<◌}
use native.Mathlib.Omega.{arith}
use lib.ListN.{length, replicate}
use lib.Seq.{take_at}
use Rattle.algebra.specs.Lists.{All, range, first}
use borrow.Author.Tests.{le-ltb}
use Rattle.modular.specs.Prime.{largest_prime}
use Rattle.card.specs.Bits.{packed, unpacked}
use Rattle.card.specs.Card.{layout, header_bits, is_over, width, word_count, all_bits, header, card, card_length, is_wide, card_prime, card_degree, card_kind, card_words, read_number, read_prime, read_degree, read_kind, read_output, write_number, write_output}
use Rattle.card.specs.Theorem.{Answer, WrittenReadsBack, read_words, ReadIsWritten, OneMeaning, LongestCard, NarrowAsBefore}
use Rattle.card.proofs.Zeros.{is_zero, zeros_pass, all_append}
use Rattle.card.proofs.Width.{width_most, bits_most}
use Rattle.refusal.specs.Refusal.{written}
use Rattle.array.proofs.Words.{words_length}
use Rattle.card.proofs.CardKinds.{kind_bounds, count_most}
use Rattle.card.proofs.Refusals.{Writable, writable, write_accepts, Readable, readable, read_accepts}
use Rattle.card.proofs.Written.{says_wide, says_prime, says_degree, says_kind, says_words, says_fill, fill_count, card-length, unpacked-card}
use Rattle.card.proofs.Header.{layout_bounds, header_taken, layout_right, layout_taken, degree_least, degree_most, words_counted}
use Rattle.card.proofs.Read.{written_again}

-- the length that the writer asks for is the length of the card that it writes
written_length : (p n kind : ℕ) (words : List ℕ) → length words ≡ word_count n kind → length (card p n kind words) ≡ card_length p n kind
unfolding card_length
written_length p n kind words count = card-length p n kind words ∙ ap (λ k. (header_bits (layout (is_over p)) + k * width p + 7) / 8) count

-- what the reader answers where it refuses nothing
answer : (p n kind : ℕ) (words ys out : List ℕ) → read_number ys out ≡ 0 → card_prime ys ≡ p → card_degree ys ≡ n → card_kind ys ≡ kind → card_words ys ≡ words
    → Answer p n kind words ys out
unfolding read_prime read_degree read_kind read_output
answer p n kind words ys out accepted prime degree kind_is words_are =
    record {
      accepted = accepted;
      prime = rw accepted prime;
      degree = rw accepted degree;
      kind_is = rw accepted kind_is;
      words_are = rw (accepted, words_are);
    }

card_reads_back : (p n kind : ℕ) (words lent out : List ℕ) → write_number p n kind words lent ≡ 0 → length out ≡ 64 → Answer p n kind words (card p n kind words) out
card_reads_back p n kind words lent out accepted room =
    let a : Writable p n kind words lent = writable p n kind words lent accepted in
    let k_bounds : (1 ≤ kind) × (kind ≤ 2) = kind_bounds kind a.kind_good in
    let count : length words ≡ word_count n kind = words_length a.below in
    let ys : List ℕ = card p n kind words in
    let fill : ℕ = fill_count p n kind words in
    let bits_are : unpacked ys ≡ header (layout (is_over p)) p n kind (all_bits (width p) words ++ replicate fill 0) = unpacked-card p n kind words in
    let wide : is_wide ys ≡ is_over p = says_wide p n kind fill words ys bits_are a.prime.0 in
    let prime : card_prime ys ≡ p = says_prime p n kind fill words ys bits_are wide a.small in
    let degree : card_degree ys ≡ n = says_degree p n kind fill words ys bits_are wide a.low a.high in
    let kind_is : card_kind ys ≡ kind = says_kind p n kind fill words ys bits_are wide (omega arith) in
    let words_are : card_words ys ≡ words = says_words p n kind fill words ys bits_are wide prime degree kind_is count a.small a.below in
    answer p n kind words ys out
    (read_accepts ys out
    (record {
      lent = room;
      header = header_taken ys (is_over p) wide (omega (arith, card-length p n kind words));
      prime = rw prime a.prime;
      small = rw prime a.small;
      layout_good = layout_taken ys (wide ∙ ap is_over (sym prime));
      kind_good = rw kind_is a.kind_good;
      size = rw (prime, degree, kind_is) (written_length p n kind words count);
      fill = rw (says_fill p n kind fill words ys bits_are wide prime degree kind_is count) (all_append is_zero (replicate (layout (is_over p)).after 0) (replicate fill 0) ∙ ap₂ ◌&&◌ (zeros_pass (layout (is_over p)).after) (zeros_pass fill));
      below = rw (prime, degree, kind_is, words_are) a.below;
    }))
    prime
    degree
    kind_is
    words_are

-- an accepted call writes the card
written_card : (p n kind : ℕ) (words lent : List ℕ) → write_number p n kind words lent ≡ 0 → write_output p n kind words lent ≡ card p n kind words
unfolding write_output
written_card p n kind words lent accepted = ap (λ k. written k (card p n kind words) lent) accepted

pub written_reads_back : WrittenReadsBack
written_reads_back p n kind words lent out accepted room =
    rw (written_card p n kind words lent accepted) (card_reads_back p n kind words lent out accepted room)

module _ (ys out lent : List ℕ) (are_bytes : All (λ y. y < 256) ys) (accepted : read_number ys out ≡ 0) (room : length lent ≡ length ys) where
  -- the writer takes what the card says, and makes the card of it
  card_is_written : (write_number (card_prime ys) (card_degree ys) (card_kind ys) (card_words ys) lent ≡ 0)
      × (write_output (card_prime ys) (card_degree ys) (card_kind ys) (card_words ys) lent ≡ ys)
  card_is_written =
      let a : Readable ys out = readable ys out accepted in
      let taken : write_number (card_prime ys) (card_degree ys) (card_kind ys) (card_words ys) lent ≡ 0 =
      write_accepts (card_prime ys) (card_degree ys) (card_kind ys) (card_words ys) lent
      (record {
        prime = a.prime;
        small = a.small;
        low = degree_least ys;
        high = degree_most ys a.header;
        kind_good = a.kind_good;
        below = a.below;
        size = room ∙ a.size;
      }) in
      (taken, written_card (card_prime ys) (card_degree ys) (card_kind ys) (card_words ys) lent taken ∙ written_again ys are_bytes (layout_right ys a.header a.layout_good) a.size a.fill)

  result_is_written : (p n kind : ℕ) (words : List ℕ) → p ≡ card_prime ys → n ≡ card_degree ys → kind ≡ card_kind ys → words ≡ card_words ys
      → (write_number p n kind words lent ≡ 0) × (write_output p n kind words lent ≡ ys)
  result_is_written p n kind words prime degree kind_is words_are = rw (prime, degree, kind_is, words_are) card_is_written

pub read_is_written : ReadIsWritten
read_is_written ys out lent are_bytes accepted room =
    let r : Answer (card_prime ys) (card_degree ys) (card_kind ys) (card_words ys) ys out =
    answer (card_prime ys) (card_degree ys) (card_kind ys) (card_words ys) ys out accepted refl refl refl refl in
    result_is_written ys out lent are_bytes accepted room _ _ _ _ r.prime r.degree r.kind_is
    (rw (r.degree, r.kind_is, r.words_are)
    (take_at (card_words ys) (replicate (64 - length (card_words ys)) 0) (word_count (card_degree ys) (card_kind ys)) (words_counted ys)))

-- a card that is read is made of its result
made_again : (ys out : List ℕ) → All (λ y. y < 256) ys → read_number ys out ≡ 0 → card (read_prime ys out) (read_degree ys out) (read_kind ys out) (read_words ys out) ≡ ys
made_again ys out are_bytes accepted =
    let (taken, output) = read_is_written ys out ys are_bytes accepted refl in
    sym (written_card (read_prime ys out) (read_degree ys out) (read_kind ys out) (read_words ys out) ys taken) ∙ output

pub one_meaning : OneMeaning
one_meaning ys zs out y_bytes z_bytes y_read z_read prime degree kind words =
    sym (made_again ys out y_bytes y_read) ∙ rw (prime, degree, kind, words) (made_again zs out z_bytes z_read)

-- at most 64 coefficients of 20 bits behind a header of six bytes
pub length_most : (p n kind : ℕ) → p ≤ largest_prime → n ≤ 16 → card_length p n kind ≤ 166
unfolding card_length
length_most p n kind p_most n_most =
    omega (arith, layout_bounds (is_over p) (layout (is_over p)) refl, bits_most (width p) (word_count n kind) (width_most p p_most) (count_most n kind n_most))

pub longest_card : LongestCard
unfolding card_length width range first
longest_card = (longest, refl)
  where
    longest : (p n kind : ℕ) (words out : List ℕ) → write_number p n kind words out ≡ 0 → (length (card p n kind words) ≡ card_length p n kind) × (card_length p n kind ≤ 166)
    longest p n kind words out accepted =
        let a : Writable p n kind words out = writable p n kind words out accepted in (
          written_length p n kind words (words_length a.below),
          length_most p n kind a.small a.high,
        )

-- up to 65,535 the layout is the narrow one
pub narrow_as_before : NarrowAsBefore
unfolding card header
narrow_as_before p n kind words h = ap (λ b. packed (header (layout b) p n kind (all_bits (width p) words))) (le-ltb 65535 p h)
