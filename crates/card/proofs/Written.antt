-- What a written card says when it is read: each field in turn, from the list of its bits.
--   front l p n kind              the bits of the header up to those of kind
--   fill_count p n kind words     how many zeros fill the last byte
use mathlib.Core.Path.{◌≡◌, refl, sym, ap, subst, ◌∙◌}
use mathlib.Core.Bool.{Bool, true, false}
use mathlib.Core.List.{List, [], ◌++◌, append_assoc}
use Prim.Native.Nat.{ℕ, ◌+◌, ◌-◌, ◌*◌, ◌/◌, ◌^◌, ◌≤◌, ◌<◌}
use native.Mathlib.Omega.{arith}
use lib.Dec.{eqb, lit<}
use lib.ListN.{length, take, drop, replicate, length-replicate}
use lib.Seq.{take_at, drop-append-add, drop_at}
use borrow.Author.Tests.{ne_eqb, ltb-false}
use Rattle.array.specs.Words.{Words, none}
use Rattle.array.proofs.Words.{words_length, words_up, append_words, zeros_words}
use Rattle.modular.specs.Prime.{largest_prime}
use Rattle.card.specs.Bits.{bits, number_from, unpacked}
use Rattle.card.specs.Card.{layout, header_bits, is_over, width, word_count, all_bits, header, card, field_at, fields_at, is_wide, card_prime, card_degree, card_kind, card_words, fill_of, fill_bits}
use Rattle.card.specs.declared.layout.Layout.{Layout}
use Rattle.card.proofs.Bits.{bits_words, bits-length}
use Rattle.card.proofs.Packed.{Bytes, packed_below, packed-length, unpacked-packed}
use Rattle.card.proofs.Fields.{all_bits_words, all_bits-length, field_here, field_skip, fields_here, fields_skip}
use Rattle.card.proofs.Header.{prime_fits}
use Rattle.card.proofs.Width.{width_holds}

module _ (l : Layout) (p n kind : ℕ) where
  pub header-append : (xs ys : List ℕ) → header l p n kind xs ++ ys ≡ header l p n kind (xs ++ ys)
  unfolding header
  header-append xs ys = simp append_assoc

  bits_of_header : {m : ℕ} {rest : List ℕ} → Words 2 m rest → Words 2 (header_bits l + m) (header l p n kind rest)
  unfolding header
  bits_of_header {m} {rest} b =
      let e : l.before + (l.digits + (4 + (4 + (l.after + m)))) ≡ header_bits l + m = omega arith in
      subst (λ k. Words 2 k (header l p n kind rest)) e
      (append_words (zeros_words l.before (lit< tt))
      (append_words (bits_words l.digits p) (append_words (bits_words 4 (n - 1)) (append_words (bits_words 4 kind) (append_words (zeros_words l.after (lit< tt)) b)))))

  zeros_length : length {A = ℕ} (replicate l.before 0) ≡ l.before
  zeros_length = length-replicate {A = ℕ} l.before 0

  header_prime : (rest : List ℕ) → p < 2 ^ l.digits → field_at (header l p n kind rest) l.before l.digits ≡ p
  unfolding header
  header_prime rest h = field_skip (replicate l.before 0) _ 0 l.before l.digits (omega (arith, zeros_length)) ∙ field_here l.digits p _ h

  header_degree : (rest : List ℕ) → 1 ≤ n → n ≤ 16 → field_at (header l p n kind rest) (l.before + l.digits) 4 ≡ n - 1
  unfolding header
  header_degree rest low h =
      field_skip (replicate l.before 0) _ l.digits (l.before + l.digits) 4 (omega (arith, zeros_length))
      ∙ field_skip (bits l.digits p) _ 0 l.digits 4 (omega (arith, bits-length l.digits p))
      ∙ field_here 4 (n - 1) _ (omega arith)

  header_kind : (rest : List ℕ) → kind ≤ 15 → field_at (header l p n kind rest) (l.before + l.digits + 4) 4 ≡ kind
  unfolding header
  header_kind rest h =
      field_skip (replicate l.before 0) _ (l.digits + 4) (l.before + l.digits + 4) 4 (omega (arith, zeros_length))
      ∙ field_skip (bits l.digits p) _ 4 (l.digits + 4) 4 (omega (arith, bits-length l.digits p))
      ∙ field_skip (bits 4 (n - 1)) _ 0 4 4 (omega (arith, bits-length 4 (n - 1)))
      ∙ field_here 4 kind _ (omega arith)

  -- what comes after the header
  pub header_split : (rest : List ℕ) → header l p n kind rest ≡ header l p n kind [] ++ rest
  header_split rest = sym (header-append [] rest)

  pub header_place : (i : ℕ) → header_bits l + i ≡ length (header l p n kind []) + i
  header_place i = omega (arith, words_length (bits_of_header none))

  header_words : (rest : List ℕ) (w k : ℕ) → fields_at (header l p n kind rest) (header_bits l) w k ≡ fields_at rest 0 w k
  header_words rest w k = rw header_split (fields_skip (header l p n kind []) rest 0 (header_bits l) w k (omega (arith, header_place 0)))

  header-drop : (rest : List ℕ) (k : ℕ) → drop (header_bits l + k) (header l p n kind rest) ≡ drop k rest
  header-drop rest k = rw (header_split, header_place) (drop-append-add (header l p n kind []) rest k)

  -- the zero bits after kind
  front : List ℕ
  front = replicate l.before 0 ++ (bits l.digits p ++ (bits 4 (n - 1) ++ bits 4 kind))

  front_length : length front ≡ l.before + l.digits + 8
  unfolding front
  front_length =
      let e : l.before + (l.digits + (4 + 4)) ≡ l.before + l.digits + 8 = omega arith in
      words_length (append_words (zeros_words {p = 2} l.before (lit< tt)) (append_words (bits_words l.digits p) (append_words (bits_words 4 (n - 1)) (bits_words 4 kind)))) ∙ e

  header-front : (rest : List ℕ) → header l p n kind rest ≡ front ++ (replicate l.after 0 ++ rest)
  unfolding header front
  header-front rest = simp append_assoc

  header-after : (rest : List ℕ) → take l.after (drop (l.before + l.digits + 8) (header l p n kind rest)) ≡ replicate l.after 0
  header-after rest =
      rw header-front
      (ap (take l.after) (drop_at front (replicate l.after 0 ++ rest) (l.before + l.digits + 8) front_length)
      ∙ take_at (replicate l.after 0) rest l.after (length-replicate {A = ℕ} l.after 0))

-- a card starts with 16 zero bits exactly where it is wide
header_wide : (p n kind : ℕ) (rest : List ℕ) → 2 ≤ p → eqb (field_at (header (layout (is_over p)) p n kind rest) 0 16) 0 ≡ is_over p
unfolding header field_at number_from
header_wide p n kind rest big = by_layout (is_over p) refl
  where
    by_layout : (b : Bool) → is_over p ≡ b → eqb (field_at (header (layout b) p n kind rest) 0 16) 0 ≡ b
    by_layout true e = refl
    by_layout false e =
        let small : p < 2 ^ 16 = omega (arith, ltb-false 65535 p e) in
        ap (λ k. eqb k 0) (field_here 16 p _ small) ∙ ne_eqb p 0 (omega arith)

-- a string of bytes says what its bits are put together of
module _ (p n kind fill : ℕ) (words ys : List ℕ) (bits_are : unpacked ys ≡ header (layout (is_over p)) p n kind (all_bits (width p) words ++ replicate fill 0)) where
  pub says_wide : 2 ≤ p → is_wide ys ≡ is_over p
  unfolding is_wide
  says_wide big = rw bits_are (header_wide p n kind _ big)

  module _ (wide : is_wide ys ≡ is_over p) where
    pub says_prime : p ≤ largest_prime → card_prime ys ≡ p
    unfolding card_prime
    says_prime h = rw (wide, bits_are) (header_prime (layout (is_over p)) p n kind _ (prime_fits p h))

    pub says_degree : 1 ≤ n → n ≤ 16 → card_degree ys ≡ n
    unfolding card_degree
    says_degree low h = rw (wide, bits_are, header_degree (layout (is_over p)) p n kind (all_bits (width p) words ++ replicate fill 0) low h) (omega arith)

    pub says_kind : kind ≤ 15 → card_kind ys ≡ kind
    unfolding card_kind
    says_kind h = rw (wide, bits_are) (header_kind (layout (is_over p)) p n kind _ h)

    module _ (prime : card_prime ys ≡ p) (degree : card_degree ys ≡ n) (kind_is : card_kind ys ≡ kind) (count : length words ≡ word_count n kind) where
      pub says_words : p ≤ largest_prime → Words p (word_count n kind) words → card_words ys ≡ words
      unfolding card_words
      says_words h below =
          rw (wide, bits_are, prime, degree, kind_is, header_words) (fields_here (width p) (replicate fill 0) (words_up (width_holds p h) below))

      pub says_fill : fill_bits ys ≡ replicate (layout (is_over p)).after 0 ++ replicate fill 0
      unfolding fill_bits fill_of
      says_fill =
          rw (wide, bits_are, prime, degree, kind_is, ← count, header-drop, header-after)
          (ap (λ (r : List ℕ). replicate (layout (is_over p)).after 0 ++ r)
          (drop_at (all_bits (width p) words) (replicate fill 0) (length words * width p) (all_bits-length (width p) words)))

module _ (p n kind : ℕ) (words : List ℕ) where
  -- the bits before those that fill the last byte
  abbrev used : ℕ
  used = header_bits (layout (is_over p)) + length words * width p

  unfoldable pub fill_count : ℕ
  fill_count = 8 * ((used + 7) / 8) - used

  card_bits : Words 2 used (header (layout (is_over p)) p n kind (all_bits (width p) words))
  card_bits = bits_of_header (layout (is_over p)) p n kind (all_bits_words (width p) words)

  pub card-length : length (card p n kind words) ≡ (header_bits (layout (is_over p)) + length words * width p + 7) / 8
  unfolding card
  card-length = packed-length (header (layout (is_over p)) p n kind (all_bits (width p) words)) ∙ ap (λ k. (k + 7) / 8) (words_length card_bits)

  pub unpacked-card : unpacked (card p n kind words) ≡ header (layout (is_over p)) p n kind (all_bits (width p) words ++ replicate fill_count 0)
  unfolding card fill_count
  unpacked-card =
      unpacked-packed (header (layout (is_over p)) p n kind (all_bits (width p) words)) card_bits
      ∙ ap (λ k. header (layout (is_over p)) p n kind (all_bits (width p) words) ++ replicate (8 * ((k + 7) / 8) - k) 0) (words_length card_bits)
      ∙ header-append (layout (is_over p)) p n kind (all_bits (width p) words) (replicate fill_count 0)

  pub card_bytes : Bytes (card p n kind words)
  unfolding card
  card_bytes = packed_below (header (layout (is_over p)) p n kind (all_bits (width p) words)) card_bits
