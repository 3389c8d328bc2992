-- Lists of words below p as numbers: the words are the digits in base p, the constant the lowest, so that the order of the numbers is that of the lists, compared from the
-- highest power down.
--   digits p n c   the lowest n digits of the number c
--   code p u       the number with the digits u
use Rattle.std.specs.Prelude.{List, [], ◌∷◌, ℕ, zero, suc, ◌+◌, ◌*◌, ◌/◌, ◌%◌}

unfoldable pub digits : ℕ → ℕ → ℕ → List ℕ
digits p zero c = []
digits p (suc n) c = c % p ∷ digits p n (c / p)

unfoldable pub code : ℕ → List ℕ → ℕ
code p [] = 0
code p (a ∷ u) = a + p * code p u
