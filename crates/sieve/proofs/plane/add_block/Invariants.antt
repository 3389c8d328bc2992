-- Before turn x the first x words of the block are there.
use Rattle.sieve.specs.Clauses.{Block}
use Rattle.sieve.proofs.plane.add_block.Given as goal

abbrev pub invariant-loop-x : goal.invariant-loop-x
invariant-loop-x l = Block l.p l.x l.to l.v l.initial.xs l.xs
