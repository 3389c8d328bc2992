-- The name, the coefficients, the blanks and the newline, one behind another.
use Rattle.std.proofs.Common.{arith, rules}
use Rattle.text.proofs.ColumnDetermines.{blanks_end}
use Rattle.sheet.proofs.lines.LineParts.{behind_coefficients, line_append}
use Rattle.sheet.proofs.lines.put_line.Goals as goal

pub put_blanks-last-requires : goal.put_blanks-last-requires
put_blanks-last-requires c =
    omega (arith, behind_coefficients c.put-start.ensures c.put_coefficients-end.ensures (search rules) (search rules) (search rules))

pub put_byte-requires : goal.put_byte-requires
put_byte-requires c =
    omega (
      arith,
      behind_coefficients c.put-start.ensures c.put_coefficients-end.ensures (search rules) (search rules) (search rules),
      blanks_end _ c.put_blanks-last.ensures,
    )

pub returns : goal.returns
returns c = search line_append
