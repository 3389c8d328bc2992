-- What is reduced is small enough, and zeros hold n words.
use Rattle.array.proofs.Filling.{holds_zeros}
use Rattle.traces.proofs.polynomial.expression.Goals as goal

pub returns-then-c-eq0 : goal.returns-then-c-eq0
returns-then-c-eq0 c = search holds_zeros
