-- One line for up to eight coefficients, else two.
use Rattle.std.proofs.Common.{rules}
use Rattle.sheet.proofs.lines.LineParts.{eight_words, eight_few, rest_words, rest_few, one_append, second_room, two_append}
use Rattle.sheet.proofs.lines.put_polynomial.Goals as goal

pub returns-then-u-le8 : goal.returns-then-u-le8
returns-then-u-le8 c = search one_append

pub put_line-end-requires : goal.put_line-end-requires
put_line-end-requires c = (search rules, search eight_words, search eight_few, search rules, search rules)

pub put_line-requires-2 : goal.put_line-requires-2
put_line-requires-2 c = (search rules, search rest_words, search rest_few, search rules, search second_room)

pub returns : goal.returns
returns c = search two_append
