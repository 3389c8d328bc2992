-- What a value counts as, and how many of its records count, by which the calls go.
use Rattle.std.specs.Prelude.{Bool, true, false, ℕ}
use Rattle.work.specs.Work.{new_work, valid_work, looked}
use Rattle.work.specs.declared.Work.{Work}
use Rattle.work.specs.declared.counted.CountsAs.{CountsAs}

abbrev pub counted_if : Bool → Work → ℕ → CountsAs
counted_if true x k = record { valid = true; work = looked x; count = k }
counted_if false x k = record { valid = false; work = new_work; count = 0 }

unfoldable pub counted_as : Work → ℕ → CountsAs
counted_as x k = counted_if (valid_work x k) x k
