-- T1, T2, S and R, one behind another.
use Rattle.std.proofs.Common.{rules}
use Rattle.text.specs.Ascii.{ascii}
use Rattle.sheet.proofs.print.FourLists.{own_words, own_some, own_few, printable, room_1, room_2, room_3, room_4, whole_sheet}
use Rattle.sheet.proofs.print.put_sheet.Goals as goal

pub put_polynomial-second-requires : goal.put_polynomial-second-requires
put_polynomial-second-requires c = (search printable, search own_words, search own_some, search own_few, search rules, search room_1)

pub put_polynomial-third-requires : goal.put_polynomial-third-requires
unfolding ascii
put_polynomial-third-requires c = (search printable, search own_words, search own_some, search own_few, search rules, search room_2)

pub put_polynomial-fourth-requires : goal.put_polynomial-fourth-requires
unfolding ascii
put_polynomial-fourth-requires c = (search printable, search own_words, search own_some, search own_few, search rules, search room_3)

pub put_polynomial-requires : goal.put_polynomial-requires
unfolding ascii
put_polynomial-requires c = (search printable, search own_words, search own_some, search own_few, search rules, search room_4)

pub returns : goal.returns
unfolding ascii
returns c = search whole_sheet
