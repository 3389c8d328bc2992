-- Before each turn the power is that of as many factors as were multiplied.
use mathlib.Core.Path.{◌≡◌}
use Prim.Native.Nat.{◌^◌}
use Rattle.sieve.proofs.digits.power.Given as goal

abbrev pub invariant-loop : goal.invariant-loop
invariant-loop l = l.r ≡ l.p ^ l.counter
