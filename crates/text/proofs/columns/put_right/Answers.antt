-- The blanks, and the number behind them.
use Rattle.std.proofs.Common.{arith}
use Rattle.text.proofs.columns.Right.{right_small, right_place, right_append}
use Rattle.text.proofs.columns.put_right.Goals as goal

pub put_signed-requires : goal.put_signed-requires
put_signed-requires c =
    let place = right_place c.args.x c.ranges.x _ _ c.signed_length.ensures c.requires.1 _ _ _ _ c.put_blanks-end.ensures in
    (search right_small, omega (arith, place))

pub returns : goal.returns
returns c = search right_append
