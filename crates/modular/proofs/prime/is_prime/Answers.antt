-- `prime::is_prime`: the table is complete, by computation on the table of the code.
use Rattle.std.proofs.Common.{rules}
use mathlib.Core.Path.{refl}
use Rattle.algebra.specs.Lists.{all, range}
use Rattle.modular.specs.Prime.{is_prime}
use Rattle.modular.proofs.prime.TrialDivision.{too_small, too_large}
use Rattle.modular.proofs.prime.is_prime.Goals as goal

pub returns-then-p-lt2 : goal.returns-then-p-lt2
returns-then-p-lt2 c = search too_small

pub returns-then-p-gt-LARGEST : goal.returns-then-p-gt-LARGEST
returns-then-p-gt-LARGEST c = search too_large

pub is_undivided-requires : goal.is_undivided-requires
unfolding is_prime all range
is_undivided-requires c = (search rules, search rules, record { size = refl; primes = refl; complete = refl; large = refl })
