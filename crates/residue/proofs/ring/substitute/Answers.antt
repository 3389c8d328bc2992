use Rattle.std.proofs.Common.{rules, arith}
use Rattle.array.proofs.Padded.{holds_word}
use Rattle.residue.proofs.ring.HornerLoop.{substitute_starts, substitute_holds, lowest_below, substitute_turn}
use Rattle.residue.proofs.ring.substitute.Goals as goal

pub loop-i-init : goal.loop-i-init
loop-i-init c = search substitute_starts

pub multiply-w-requires : goal.multiply-w-requires
multiply-w-requires c = (search rules, search substitute_holds)

pub add-requires : goal.add-requires
add-requires c =
    (search rules, lowest_below _ _ _ _ _ _ _ c.loop-i.invariant c.args.t.now.d.reduces.big c.args.t.now.below c.requires.0 c.requires.1 _ c.multiply-w.ensures c.loop-i-test.true c.loop-i.auto.i, holds_word c.requires.1 _ (omega arith))

pub loop-i-preserved : goal.loop-i-preserved
loop-i-preserved c = search substitute_turn
