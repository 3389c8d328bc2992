-- The inverse of a word modulo p.
--   inverse p a   the first b below p with a·b = 1 mod p; 0 where there is none
use Rattle.std.specs.Prelude.{ℕ, ◌*◌, ◌%◌, eqb}
use Rattle.algebra.specs.Lists.{first, range}

unfoldable pub inverse : ℕ → ℕ → ℕ
inverse p a = first (λ b. eqb ((a * b) % p) 1) 0 (range 0 p)
