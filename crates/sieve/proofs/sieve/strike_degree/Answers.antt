use Rattle.std.proofs.Common.{rules}
use Rattle.sieve.proofs.sieve.Passing.{size_fits, passing_none, passing_struck, passing_skipped, passing_end}
use Rattle.sieve.proofs.sieve.strike_degree.Goals as goal
use Rattle.sieve.proofs.sieve.strike_degree.Goals.{then-marks-size-eq0, else-marks-size-eq0}

pub power-size-requires : goal.power-size-requires
power-size-requires c = (search rules, search size_fits)

pub loop-c-init : goal.loop-c-init
loop-c-init c = search passing_none

pub loop-c-preserved : goal.loop-c-preserved
loop-c-preserved c =
    elim c.if-marks-size-eq0.branch [ then-marks-size-eq0 w ↦ search passing_struck | else-marks-size-eq0 w ↦ search passing_skipped ]

pub returns-clause-progress : goal.returns-clause-progress
returns-clause-progress c = (search passing_end, search rules)
