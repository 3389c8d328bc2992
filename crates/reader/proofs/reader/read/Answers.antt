-- `reader::read`: refused, nothing is written; else the fields and the words are those of the card.
use Rattle.std.proofs.Common.{rules, arith, ◌∙◌}
use Rattle.reader.proofs.Answers.{refused_output, room_is, bytes_there, prime_most, words_there, accepted_prime, accepted_degree, accepted_kind, accepted_output}
use Rattle.reader.proofs.reader.read.Goals as goal

pub returns-in_err-said-clause-words : goal.returns-in_err-said-clause-words
returns-in_err-said-clause-words c = refused_output _ _ _ c.in_err-said.ensures.number

pub is_wide-requires : goal.is_wide-requires
is_wide-requires c = bytes_there _ _ c.in_ok-said.ensures.number

pub split_at_mut-given-requires : goal.split_at_mut-given-requires
split_at_mut-given-requires c = omega (arith, room_is _ _ c.in_ok-said.ensures.number, c.word_count.ensures.1)

pub width-requires : goal.width-requires
width-requires c = prime_most _ _ c.in_ok-said.ensures.number _ c.in_ok-said.ensures.said.0

pub copy_words-requires : goal.copy_words-requires
copy_words-requires c =
    let said = c.in_ok-said.ensures.said in (
      search rules,
      search rules,
      omega (arith, c.word_count.ensures.1, c.split_at_mut-given.ensures.front_len),
      words_there _ _ c.in_ok-said.ensures.number _ _ _ _ _ _ _ c.is_wide.ensures said.0 said.1 said.2 c.header_bits-start.ensures.0 c.width.ensures.0
          (c.split_at_mut-given.ensures.front_len ∙ c.word_count.ensures.0),
    )

pub returns-clause-said : goal.returns-clause-said
returns-clause-said c =
    let taken = c.in_ok-said.ensures.number in
    (accepted_prime _ _ taken _ c.in_ok-said.ensures.said.0, accepted_degree _ _ taken _ c.in_ok-said.ensures.said.1, accepted_kind _ _ taken _ c.in_ok-said.ensures.said.2)

pub returns-clause-words : goal.returns-clause-words
returns-clause-words c =
    let said = c.in_ok-said.ensures.said in
    accepted_output _ _ c.in_ok-said.ensures.number _ _ _ _ _ _ _ c.is_wide.ensures said.0 said.1 said.2 c.header_bits-start.ensures.0 c.width.ensures.0
    c.word_count.ensures.0 _ _ _ _ c.split_at_mut-given.ensures.value c.split_at_mut-given.ensures.front_len c.copy_words.ensures (c.fill.ensures.after (λ y h. h))
