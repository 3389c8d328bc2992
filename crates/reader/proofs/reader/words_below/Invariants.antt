-- `reader::words_below`: after k words below p those from k on decide.
use mathlib.Core.Path.{◌≡◌}
use lib.ListN.{drop}
use Rattle.array.specs.Words.{all_below}
use Rattle.card.specs.Bits.{unpacked}
use Rattle.card.specs.Card.{fields_at}
use Rattle.reader.proofs.reader.words_below.Given as goal

abbrev pub invariant-loop-k : goal.invariant-loop-k
invariant-loop-k l = all_below l.p (fields_at (unpacked l.card) l.start l.w l.count) ≡ all_below l.p (drop l.k (fields_at (unpacked l.card) l.start l.w l.count))
