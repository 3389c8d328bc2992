-- `word::power`: before each turn r·b^e = a^k; the measure is e, which halves.
use Rattle.modular.proofs.word.PowerLoop.{PowerLoop}
use Rattle.modular.proofs.word.power.Given as goal

abbrev pub invariant-loop-e : goal.invariant-loop-e
invariant-loop-e l = PowerLoop l.d l.p l.a l.k l.r l.b l.e

abbrev pub decreases-loop-e : goal.decreases-loop-e
decreases-loop-e l = l.e
