use Rattle.std.proofs.Common.{rules}
use Rattle.residue.proofs.Step.{word_few}
use Rattle.residue.proofs.product.Rows.{added_word}
use Rattle.residue.proofs.product.add_rows.Goals as goal

pub add_at-requires-clause-small : goal.add_at-requires-clause-small
add_at-requires-clause-small c = (search rules, search word_few, search rules, search word_few, search added_word)

pub add_at-requires-in-loop-j-clause-small : goal.add_at-requires-in-loop-j-clause-small
add_at-requires-in-loop-j-clause-small c = (search rules, search word_few, search rules, search word_few, search added_word)
