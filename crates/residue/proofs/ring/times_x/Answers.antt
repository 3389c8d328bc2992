-- A step of Horner's rule by itself, and its words reduced.
use Rattle.std.proofs.Common.{rules}
use Rattle.residue.proofs.ring.TimesX.{word_delayed, top_below, opposite_zero, stepped_delayed, times_x_is}
use Rattle.residue.proofs.ring.times_x.Goals as goal

pub overflow_sub-q-2 : goal.overflow_sub-q-2
overflow_sub-q-2 c = search top_below

pub step-requires-clause-opposite : goal.step-requires-clause-opposite
step-requires-clause-opposite c = (search rules, search opposite_zero)

pub step-requires-clause-delayed : goal.step-requires-clause-delayed
step-requires-clause-delayed c = search word_delayed

pub reduce-requires-clause-delayed : goal.reduce-requires-clause-delayed
reduce-requires-clause-delayed c = search stepped_delayed

pub returns : goal.returns
returns c = search times_x_is
