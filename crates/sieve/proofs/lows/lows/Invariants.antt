-- Before the turn for digit j − 1 the numbers have the digits from j on.
use mathlib.Core.Path.{◌≡◌}
use lib.ListN.{length, take}
use Rattle.sieve.specs.Clauses.{Lows}
use Rattle.sieve.proofs.lows.lows.Given as goal

abbrev pub invariant-loop-j : goal.invariant-loop-j
invariant-loop-j l = (length l.xs ≡ 32768) × Lows l.t.d.p (take l.t.n l.t.words) l.k l.j l.codes
