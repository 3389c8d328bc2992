-- Every model of a size (request S-12: "For p^n up to 65,536 count the monic polynomials of degree n without a monic divisor of degree 1 to n − 1. A second call lists them as n
-- words each, compared from the highest power down, ascending, none missing or repeated. The count is the number listed. Its output list must have exactly n times that many
-- words, else 3. Refused: 29 when p^n exceeds 65,536, after 1 and 2 and before 3").
--   most_polynomials      65,536: p^n, the number of monic polynomials of degree n, is at most this
--   models p n            of the list of all lists of n words below p, in ascending order, those whose monic polynomial has no monic divisor of degree 1 to n − 1
--   refuse_size p n rest  1, 2 and 29 in their order; then what comes after
--   count_number p n      the number of the first call: 1, 2, 29 or 0
--   model_count p n       its count: how many models there are where the number is 0, else 0
--   list_number p n out   the number of the second call: 1, 2, 29, 3 or 0
--   list_output p n out   what the list lent to it holds after the call: the models one after the other where the number is 0, else what it held
use Rattle.std.specs.Prelude.{true, false, not, ℕ, ◌*◌, ◌^◌, eqb, ltb, length}
use mathlib.Core.List.{List, flatten}
use Rattle.algebra.specs.Lists.{filter}
use Rattle.quotient.specs.DivisorTest.{has_divisor}
use Rattle.quotient.specs.Residue.{residues}
use Rattle.refusal.specs.Refusal.{refuse, bad_prime, bad_degree, written}

abbrev pub most_polynomials : ℕ
most_polynomials = 65536

unfoldable pub models : ℕ → ℕ → List (List ℕ)
models p n = filter (λ t. not (has_divisor p t)) (residues p n)

abbrev pub refuse_size : ℕ → ℕ → ℕ → ℕ
refuse_size p n rest = refuse 1 (bad_prime p) (refuse 2 (bad_degree n) (refuse 29 (ltb most_polynomials (p ^ n)) rest))

unfoldable pub count_number : ℕ → ℕ → ℕ
count_number p n = refuse_size p n 0

unfoldable pub model_count : ℕ → ℕ → ℕ
model_count p n = elim (eqb (count_number p n) 0) [ true ↦ length (models p n) | false ↦ 0 ]

unfoldable pub list_number : ℕ → ℕ → List ℕ → ℕ
list_number p n out = refuse_size p n (refuse 3 (not (eqb (length out) (n * length (models p n)))) 0)

unfoldable pub list_output : ℕ → ℕ → List ℕ → List ℕ
list_output p n out = written (list_number p n out) (flatten (models p n)) out
