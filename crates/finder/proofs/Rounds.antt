-- The rounds of the second method decide whether a modulus has a proper divisor, and there is only one tower, as specs/Rounds.antt states it.
use mathlib.Core.Path.{ap, sym, ◌∙◌}
use Prim.Native.Nat.{zero, suc, ◌^◌}
use native.Mathlib.Nat.{add-zero}
use native.Mathlib.Omega.{arith}
use Rattle.galois.proofs.Rounds.{rounds_irreducible, rounds_unique, rounds_are}
use Rattle.finder.specs.Rounds.{RoundsDecide, OneTower}

pub rounds_decide : RoundsDecide
rounds_decide p zero k t m low size = absurd (omega (arith, m.degree.0))
rounds_decide p (suc n) zero t m low size = absurd (omega arith)
rounds_decide p (suc n) (suc k) t m low size = (
  λ irreducible. (_, _, rounds_are m.prime m.modulus irreducible (suc k) 0 (size ∙ ap (λ i. p ^ i) (sym (add-zero (suc k))))),
  λ h. let (a, α, r) = h in rounds_irreducible m.prime m.modulus k a α size r,
)

pub one_tower : OneTower
one_tower p zero k t m low size a α a' α' h h' = absurd (omega (arith, m.degree.0))
one_tower p (suc n) zero t m low size a α a' α' h h' = absurd (omega arith)
one_tower p (suc n) (suc k) t m low size a α a' α' h h' =
    rounds_unique m.prime m.modulus (rounds_irreducible m.prime m.modulus k a α size h) (suc k) a α a' α' h h'
