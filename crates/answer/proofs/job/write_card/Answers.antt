-- `job::write_card` hands the writer a list of the card's length.
use Rattle.answer.proofs.job.PairCard.{prime_fits, words_few, written_well, card_written}
use Rattle.answer.proofs.job.write_card.Goals as goal

pub byte_count-size-requires : goal.byte_count-size-requires
byte_count-size-requires c = (search prime_fits, search words_few)

pub unwrap-requires : goal.unwrap-requires
unwrap-requires c = written_well _ _ _ c.requires.0 _ _ c.byte_count-size.ensures.0 c.requires.1 _ _ c.from-kind.ensures c.write.ensures.number

pub returns : goal.returns
returns c =
    card_written _ _ _ c.requires.0 _ _ c.byte_count-size.ensures.0 c.requires.1 _ _ c.from-kind.ensures c.write.ensures.output
