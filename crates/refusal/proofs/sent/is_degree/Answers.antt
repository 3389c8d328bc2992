-- `is_degree`, by the outcome of its first test.
use Rattle.refusal.proofs.Tests.{degree_low, degree_high}
use Rattle.refusal.proofs.sent.is_degree.Goals as goal

pub returns-then-n-ge1 : goal.returns-then-n-ge1
returns-then-n-ge1 c = search degree_high

pub returns-else-n-ge1 : goal.returns-else-n-ge1
returns-else-n-ge1 c = search degree_low
