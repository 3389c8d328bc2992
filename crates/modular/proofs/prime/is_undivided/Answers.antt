-- `prime::is_undivided`: one law for each return.
use Rattle.std.proofs.Common.{rules}
use Rattle.modular.proofs.prime.TrialDivision.{first_size, first_positive, middle_positive, others_positive, first_divided, middle_divided, decided_early, decided}
use Rattle.modular.proofs.prime.is_undivided.Goals as goal

pub slice_bounds-first_divisor-end : goal.slice_bounds-first_divisor-end
slice_bounds-first_divisor-end c = search first_size

pub first_divisor-requires : goal.first_divisor-requires
first_divisor-requires c = search first_positive

pub returns-then-first_divisor-p : goal.returns-then-first_divisor-p
returns-then-first_divisor-p c = search first_divided

pub first_divisor-requires-2 : goal.first_divisor-requires-2
first_divisor-requires-2 c = search middle_positive

pub returns-then-first_divisor-p-2 : goal.returns-then-first_divisor-p-2
returns-then-first_divisor-p-2 c = search middle_divided

pub returns-then-p-lt65536 : goal.returns-then-p-lt65536
returns-then-p-lt65536 c = search decided_early

pub first_divisor-requires-3 : goal.first_divisor-requires-3
first_divisor-requires-3 c = search others_positive

pub returns : goal.returns
returns c =
    decided c.args.primes.now (search rules) _ (search rules) _ _ c.first_divisor.ensures c.if-first_divisor-p.false c.first_divisor-2.ensures c.if-first_divisor-p-2.false (search rules) _ c.first_divisor-3.ensures
