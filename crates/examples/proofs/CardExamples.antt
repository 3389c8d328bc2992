-- Wide cards, computed.
use mathlib.Core.Path.{refl}
use Rattle.algebra.specs.Lists.{all, first, range}
use Rattle.modular.specs.Prime.{is_prime}
use Rattle.refusal.specs.Refusal.{bad_prime, bad_length}
use Rattle.card.specs.Bits.{bits, number_from, bytes, packed, unpacked}
use Rattle.card.specs.Card.{width, all_bits, header, card, field_at, fields_at, is_wide, card_prime, card_degree, card_kind, card_words, bad_header, bad_layout, read_number}
use Rattle.examples.specs.CardExamples.{CardExamples}

pub card_examples : CardExamples
unfolding all first range is_prime bad_prime bad_length bits number_from bytes packed unpacked width all_bits header card field_at fields_at is_wide card_prime card_degree card_kind card_words bad_header bad_layout
    read_number
card_examples =
    record {
      job_card = refl;
      job_prime = refl;
      job_degree = refl;
      job_kind = refl;
      job_words = refl;
      small_prime = refl;
      small_composite = refl;
      three_bytes = refl;
      five_bytes = refl;
    }
