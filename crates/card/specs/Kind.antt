-- The numbers of the kinds of cards (document 01, "Field cards").
--   kind_number k    1 for a job, 2 for a pair card
use Rattle.std.specs.Prelude.{ℕ}
use Rattle.card.specs.declared.kind.Kind.{Kind}
use Rattle.card.specs.declared.kind.Kind.TheVariants.{Job, Pair}

abbrev pub kind_number : Kind → ℕ
kind_number Job = 1
kind_number Pair = 2
