-- Before a turn at a word the words before it are digits, and what is left of c is c / p^i for the i-th word.
use mathlib.Core.Path.{◌≡◌}
use Prim.Native.Nat.{◌/◌, ◌^◌}
use Rattle.array.proofs.Painted.{painted}
use Rattle.sieve.proofs.digits.Turns.{digit_of}
use Rattle.sieve.proofs.digits.write_digits.Given as goal

abbrev pub invariant-loop-word : goal.invariant-loop-word
invariant-loop-word l = (l.rest ≡ l.c / l.p ^ l.word-index) × (l.out ≡ painted l.initial.out (digit_of l.p l.c) l.word-index)
