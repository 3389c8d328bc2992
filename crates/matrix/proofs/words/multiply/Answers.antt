-- Few words are lent alone, many with what follows them.
use Rattle.matrix.proofs.words.WordLoop.{few_given}
use Rattle.matrix.proofs.words.multiply.Goals as goal

pub multiply_few-requires-clause-square : goal.multiply_few-requires-clause-square
multiply_few-requires-clause-square c = few_given _ _ _ _ _ c.in-1.is c.requires.rows.0 c.requires.sizes.2 c.requires.rows.1

pub multiply_few-requires-in-2-clause-square : goal.multiply_few-requires-in-2-clause-square
multiply_few-requires-in-2-clause-square c = few_given _ _ _ _ _ c.in-2.is c.requires.rows.0 c.requires.sizes.2 c.requires.rows.1

pub multiply_few-requires-in-3-clause-square : goal.multiply_few-requires-in-3-clause-square
multiply_few-requires-in-3-clause-square c = few_given _ _ _ _ _ c.in-3.is c.requires.rows.0 c.requires.sizes.2 c.requires.rows.1

pub multiply_few-requires-in-4-clause-square : goal.multiply_few-requires-in-4-clause-square
multiply_few-requires-in-4-clause-square c = few_given _ _ _ _ _ c.in-4.is c.requires.rows.0 c.requires.sizes.2 c.requires.rows.1

pub multiply_few-requires-in-5-clause-square : goal.multiply_few-requires-in-5-clause-square
multiply_few-requires-in-5-clause-square c = few_given _ _ _ _ _ c.in-5.is c.requires.rows.0 c.requires.sizes.2 c.requires.rows.1
