-- The reader's answers: where the call is refused the list is as it was, else the answer and the list are what the card says.
use mathlib.Core.Path.{◌≡◌, sym, ap, ap₂, ◌∙◌}
use mathlib.Core.Bool.{Bool, false}
use mathlib.Core.List.{List, ◌++◌}
use Prim.Native.Nat.{ℕ, ◌+◌, ◌-◌, ◌*◌, ◌≤◌}
use native.Mathlib.Omega.{arith}
use lib.ListN.{length, replicate, length-append}
use Rattle.card.specs.Bits.{unpacked}
use Rattle.card.specs.Card.{layout, header_bits, is_over, layout_at, width, word_count, card_length, is_wide, bad_header, card_prime, card_degree, card_kind, card_words, fields_at, read_number, read_prime, read_degree, read_kind, read_output}
use Rattle.card.proofs.Header.{header_bytes, degree_most, layout_right}
use Rattle.card.proofs.CardKinds.{count_most as counted_most}
use Rattle.card.proofs.Fields.{fields_length}
use Rattle.card.specs.Kind.{kind_number}
use Rattle.card.specs.declared.kind.Kind.{Kind}
use Rattle.refusal.specs.Number.{number as refusal_number}
use Rattle.refusal.specs.declared.number.Refusal.{Refusal}
use Rattle.refusal.proofs.Refused.{refused}
use Rattle.refusal.proofs.Written.{output_old}
use Rattle.modular.specs.Prime.{largest_prime}
use Rattle.card.proofs.Refusals.{Readable, readable}

-- an answer that is refused leaves the lent list as it was
pub refused_output : (ys out : List ℕ) (e : Refusal) → refusal_number e ≡ read_number ys out → out ≡ read_output ys out
unfolding read_output
refused_output ys out e h = output_old (refusal_number e) (read_number ys out) _ out h (refused e)

module _ (ys out : List ℕ) (taken : 0 ≡ read_number ys out) where
  accepted : read_number ys out ≡ 0
  accepted = sym taken

  good : Readable ys out
  good = readable ys out accepted

  pub room_is : length out ≡ 64
  room_is = good.lent

  pub prime_most : (p : ℕ) → p ≡ card_prime ys → p ≤ largest_prime
  prime_most p e = rw e good.small

  pub header_there : bad_header ys ≡ false
  header_there = good.header

  pub bytes_there : 2 ≤ length ys
  bytes_there = omega (arith, header_bytes ys header_there)

  pub accepted_prime : (p : ℕ) → p ≡ card_prime ys → p ≡ read_prime ys out
  unfolding read_prime
  accepted_prime p ep = ep ∙ rw accepted

  pub accepted_degree : (n : ℕ) → n ≡ card_degree ys → n ≡ read_degree ys out
  unfolding read_degree
  accepted_degree n en = en ∙ rw accepted

  pub accepted_kind : (kind : ℕ) → kind ≡ card_kind ys → kind ≡ read_kind ys out
  unfolding read_kind
  accepted_kind kind ek = ek ∙ rw accepted

  module _ (wide : Bool) (p n start w count : ℕ) (kind : Kind) (f : wide ≡ is_wide ys) (ep : p ≡ card_prime ys) (en : n ≡ card_degree ys) (ek : kind_number kind ≡ card_kind ys)
      (es : start ≡ header_bits (layout wide)) (ew : w ≡ width p) (counted : count ≡ word_count n (kind_number kind)) where
    width_is : w ≡ width (card_prime ys)
    width_is = ew ∙ ap width ep

    count_is : count ≡ word_count (card_degree ys) (card_kind ys)
    count_is = counted ∙ ap₂ (λ a b. word_count a b) en ek

    start_is : start ≡ header_bits (layout_at ys)
    start_is = es ∙ ap (λ b. header_bits (layout b)) f

    layout_is : is_over (card_prime ys) ≡ is_wide ys
    layout_is = layout_right ys header_there good.layout_good

    pub words_there : start + count * w ≤ 8 * length ys
    unfolding card_length
    words_there = rw (width_is, count_is, start_is, ← layout_is) (omega (arith, good.size))

    pub count_most : count ≤ 64
    count_most = rw count_is (counted_most (card_degree ys) (card_kind ys) (degree_most ys header_there))

    -- the words of the card in the first places, and zeros in the others
    pub accepted_output : (given rest first zeros : List ℕ) → out ≡ given ++ rest → length given ≡ count → first ≡ fields_at (unpacked ys) start w (length given)
        → zeros ≡ replicate (length rest) 0 → first ++ zeros ≡ read_output ys out
    unfolding read_output card_words
    accepted_output given rest first zeros parts size copied filled =
        let left : length rest ≡ 64 - count = omega (arith, room_is, ap length parts, length-append given rest, size) in
        ap₂ ◌++◌ (copied ∙ ap (fields_at (unpacked ys) start w) size) (filled ∙ ap (λ k. replicate k 0) left)
        ∙ rw (accepted, fields_length (unpacked ys) (header_bits (layout_at ys)) (width (card_prime ys)) (word_count (card_degree ys) (card_kind ys)), width_is, count_is, start_is)
