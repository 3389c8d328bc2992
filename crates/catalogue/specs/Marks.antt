-- What the functions on the sieve's marks give. Only contracts between functions of this crate rest on it.
--   unmarked size marks    the codes below `size` that are not marked, in ascending order; code c has mark size + c
use Rattle.std.specs.Prelude.{List, ℕ, ◌+◌, eqb, get_or}
use Rattle.algebra.specs.Lists.{filter, range}

unfoldable pub unmarked : ℕ → List ℕ → List ℕ
unmarked size marks = filter (λ c. eqb (get_or marks (size + c) 0) 0) (range 0 size)
