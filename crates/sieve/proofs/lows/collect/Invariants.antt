-- Before turn h the first h numbers have their further digit.
use mathlib.Core.Path.{◌≡◌}
use lib.ListN.{length}
use Rattle.sieve.specs.Clauses.{Collected}
use Rattle.sieve.proofs.lows.collect.Given as goal

abbrev pub invariant-loop-h : goal.invariant-loop-h
invariant-loop-h l = (length l.codes ≡ 32768) × Collected l.p l.h l.s l.xs l.initial.codes l.codes
