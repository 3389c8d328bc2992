use Rattle.std.proofs.Common.{rules}
use Rattle.array.proofs.Painted.{painted_none}
use Rattle.array.proofs.Padded.{holds_word}
use Rattle.residue.proofs.difference.Subtraction.{minus_turn, minus_done}
use Rattle.residue.proofs.difference.subtract.Goals as goal

pub loop-i-init : goal.loop-i-init
loop-i-init c = search painted_none

pub sub-requires : goal.sub-requires
sub-requires c = (search rules, search holds_word, search holds_word)

pub loop-i-preserved : goal.loop-i-preserved
loop-i-preserved c = search minus_turn

pub returns : goal.returns
returns c = search minus_done
