-- What a card that is read is made of: the bits of its header, of its words and of its fill are all its bits, so the writer makes the
-- same card of them.
--   used_bits ys   how many bits come before those that fill the last byte
use mathlib.Core.Path.{◌≡◌, refl, sym, ap, ap₂, ◌∙◌}
use mathlib.Core.Bool.{Bool, true, false, and-eq-true_iff}
use mathlib.Core.List.{List, ◌++◌}
use Prim.Native.Nat.{ℕ, ◌+◌, ◌-◌, ◌*◌, ◌/◌, ◌≤◌}
use native.Mathlib.Omega.{arith}
use lib.ListN.{length, take, drop, replicate, length-drop, take-append-drop}
use lib.Seq.{take-add, drop-drop, length-take-le}
use borrow.Author.Tests.{eqb-true}
use Rattle.algebra.specs.Lists.{all}
use Rattle.card.specs.Bits.{bits, unpacked}
use Rattle.card.specs.Card.{layout, header_bits, is_over, layout_at, width, word_count, all_bits, header, card, card_length, field_at, fields_at, is_wide, card_prime, card_degree, card_kind, card_words, fill_of, fill_bits}
use Rattle.card.specs.declared.layout.Layout.{Layout}
use Rattle.array.specs.Words.{Words}
use Rattle.card.proofs.Zeros.{is_zero, all_zeros, all_append}
use Rattle.card.proofs.Packed.{Bytes, unpacked-length, unpacked_words, unpacked_injective}
use Rattle.card.proofs.Fields.{bits_of_field, bits_of_fields, zero_field}
use Rattle.card.proofs.Header.{words_counted}
use Rattle.card.proofs.Written.{header-append, fill_count, unpacked-card, card_bytes}

take_more : (n m i : ℕ) (bs : List ℕ) → take n (drop i bs) ++ take m (drop (i + n) bs) ≡ take (n + m) (drop i bs)
take_more n m i bs = ap (λ (l : List ℕ). take n (drop i bs) ++ take m l) (sym (drop-drop n i bs)) ∙ sym (take-add n m (drop i bs))

-- the bits of a header and of k words that were read are the first bits, where those that have to be are 0
bits_read : {m : ℕ} (l : Layout) (bs : List ℕ) → Words 2 m bs → (w k : ℕ) → header_bits l + k * w ≤ m
    → take l.before bs ≡ replicate l.before 0 → take l.after (drop (l.before + l.digits + 8) bs) ≡ replicate l.after 0
    → header l (field_at bs l.before l.digits) (field_at bs (l.before + l.digits) 4 + 1) (field_at bs (l.before + l.digits + 4) 4) (all_bits w (fields_at bs (header_bits l) w k))
    ≡ take (header_bits l + k * w) bs
unfolding header
bits_read l bs b w k h first last =
    let less : field_at bs (l.before + l.digits) 4 + 1 - 1 ≡ field_at bs (l.before + l.digits) 4 = omega arith in
    let place : l.before + l.digits + 8 ≡ l.before + l.digits + 4 + 4 = omega arith in
    let total : l.before + (l.digits + (4 + (4 + (l.after + k * w)))) ≡ header_bits l + k * w = omega arith in
    ap₂ ◌++◌ (sym first)
    (ap₂ ◌++◌
    (bits_of_field b l.before l.digits (omega arith))
    (ap₂ ◌++◌
    (ap (bits 4) less ∙ bits_of_field b (l.before + l.digits) 4 (omega arith))
    (ap₂ ◌++◌
    (bits_of_field b (l.before + l.digits + 4) 4 (omega arith))
    (ap₂ ◌++◌ (sym last) (bits_of_fields b (header_bits l) w k h) ∙ take_more l.after (k * w) (l.before + l.digits + 8) bs
    ∙ ap (λ i. take (l.after + k * w) (drop i bs)) place)
    ∙ take_more 4 (l.after + k * w) (l.before + l.digits + 4) bs)
    ∙ take_more 4 (4 + (l.after + k * w)) (l.before + l.digits) bs)
    ∙ take_more l.digits (4 + (4 + (l.after + k * w))) l.before bs)
    ∙ sym (take-add l.before (l.digits + (4 + (4 + (l.after + k * w)))) bs)
    ∙ ap (λ m. take m bs) total

module _ (ys : List ℕ) (are_bytes : Bytes ys) (right : is_over (card_prime ys) ≡ is_wide ys)
    (long : length ys ≡ card_length (card_prime ys) (card_degree ys) (card_kind ys)) (zeros : all is_zero (fill_bits ys) ≡ true) where
  -- how many bits come before those that fill the last byte
  abbrev used_bits : ℕ
  used_bits = header_bits (layout_at ys) + word_count (card_degree ys) (card_kind ys) * width (card_prime ys)

  long_enough : length ys ≡ (used_bits + 7) / 8
  unfolding card_length
  long_enough = long ∙ ap (λ b. (header_bits (layout b) + word_count (card_degree ys) (card_kind ys) * width (card_prime ys) + 7) / 8) right

  used_most : used_bits ≤ 8 * length ys
  used_most = omega (arith, long_enough)

  header_most : header_bits (layout_at ys) ≤ 8 * length ys
  header_most = omega (arith, used_most)

  -- a wide card starts with zeros
  first_zeros : take (layout_at ys).before (unpacked ys) ≡ replicate (layout_at ys).before 0
  unfolding is_wide
  first_zeros = by_layout (is_wide ys) refl header_most
    where
      by_layout : (b : Bool) → is_wide ys ≡ b → header_bits (layout b) ≤ 8 * length ys → take (layout b).before (unpacked ys) ≡ replicate (layout b).before 0
      by_layout true e h = zero_field (unpacked_words ys) 0 16 (omega arith) (eqb-true (field_at (unpacked ys) 0 16) 0 e)
      by_layout false e h = refl

  fill_parts : (all is_zero (take (layout_at ys).after (drop ((layout_at ys).before + (layout_at ys).digits + 8) (unpacked ys))) ≡ true) × (all is_zero (drop used_bits (unpacked ys)) ≡ true)
  unfolding fill_bits fill_of
  fill_parts =
      (and-eq-true_iff (all is_zero (take (layout_at ys).after (drop ((layout_at ys).before + (layout_at ys).digits + 8) (unpacked ys)))) (all is_zero (drop used_bits (unpacked ys)))).0
      (sym (all_append is_zero (take (layout_at ys).after (drop ((layout_at ys).before + (layout_at ys).digits + 8) (unpacked ys))) (drop used_bits (unpacked ys))) ∙ zeros)

  last_zeros : take (layout_at ys).after (drop ((layout_at ys).before + (layout_at ys).digits + 8) (unpacked ys)) ≡ replicate (layout_at ys).after 0
  last_zeros =
      all_zeros (take (layout_at ys).after (drop ((layout_at ys).before + (layout_at ys).digits + 8) (unpacked ys))) fill_parts.0
      ∙ ap (λ k. replicate k 0)
      (length-take-le (layout_at ys).after (drop ((layout_at ys).before + (layout_at ys).digits + 8) (unpacked ys))
      (omega (arith, header_most, unpacked-length ys, length-drop ((layout_at ys).before + (layout_at ys).digits + 8) (unpacked ys))))

  bits_used : header (layout_at ys) (card_prime ys) (card_degree ys) (card_kind ys) (all_bits (width (card_prime ys)) (card_words ys)) ≡ take used_bits (unpacked ys)
  unfolding card_prime card_degree card_kind card_words
  bits_used =
      bits_read (layout_at ys) (unpacked ys) (unpacked_words ys) (width (card_prime ys)) (word_count (card_degree ys) (card_kind ys)) used_most first_zeros last_zeros

  abbrev filling : List ℕ
  filling = replicate (fill_count (card_prime ys) (card_degree ys) (card_kind ys) (card_words ys)) 0

  bits_filling : drop used_bits (unpacked ys) ≡ filling
  unfolding fill_count
  bits_filling = all_zeros (drop used_bits (unpacked ys)) fill_parts.1 ∙ ap (λ k. replicate k 0) count
    where
      count : length (drop used_bits (unpacked ys)) ≡ fill_count (card_prime ys) (card_degree ys) (card_kind ys) (card_words ys)
      count = length-drop used_bits (unpacked ys) ∙ rw (words_counted ys, right) (omega (arith, unpacked-length ys, long_enough))

  pub written_again : card (card_prime ys) (card_degree ys) (card_kind ys) (card_words ys) ≡ ys
  written_again =
      unpacked_injective (card (card_prime ys) (card_degree ys) (card_kind ys) (card_words ys)) ys (card_bytes (card_prime ys) (card_degree ys) (card_kind ys) (card_words ys)) are_bytes
      (unpacked-card (card_prime ys) (card_degree ys) (card_kind ys) (card_words ys)
      ∙ ap (λ b. header (layout b) (card_prime ys) (card_degree ys) (card_kind ys) (all_bits (width (card_prime ys)) (card_words ys) ++ filling)) right
      ∙ sym (header-append (layout_at ys) (card_prime ys) (card_degree ys) (card_kind ys) (all_bits (width (card_prime ys)) (card_words ys)) filling)
      ∙ ap₂ ◌++◌ bits_used (sym bits_filling)
      ∙ take-append-drop used_bits (unpacked ys))
