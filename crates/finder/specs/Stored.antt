-- Stored cards of found pairs remain accepted pairs (document 02, S-6): not only the scaling that is now chosen gives an accepted pair, but each.
--   ScaledPair p n t1 t2 s r   S and R are the polynomials of Algorithm 2.1 for some ζ of order n, some eigenvectors α1 and α2 for it, with constants a1 = α1^n and
--                              a2 = α2^n, and some c with c^n·a2 = a1. The pairs of document 01, whose eigenvectors have 1 as the first coefficient that is
--                              not zero and whose c is the smallest, are among these; so is the pair that is chosen now
--   EveryScalingAccepted       the checker accepts each of them
use Rattle.std.specs.Prelude.{◌≡◌, List, ℕ, ◌*◌, ◌%◌, ◌^◌, ◌<◌}
use Rattle.refusal.specs.Models.{Models}
use Rattle.pair.specs.Pair.{check_number}
use Rattle.quotient.specs.Residue.{scale, constant, power}
use Rattle.roots.specs.Roots.{OrderModulo}
use Rattle.galois.specs.Eigenvector.{Eigenvector}
use Rattle.finder.specs.Theorem.{PairOf}

pub record ScaledPair (p n : ℕ) (t1 t2 s r : List ℕ) : Type 0 where
  pub z : ℕ
  pub alpha1 : List ℕ
  pub alpha2 : List ℕ
  pub a1 : ℕ
  pub a2 : ℕ
  pub c : ℕ
  pub z_is : OrderModulo p n z
  pub alpha1_is : Eigenvector p n t1 z alpha1
  pub alpha2_is : Eigenvector p n t2 z alpha2
  pub a1_is : power p t1 alpha1 n ≡ constant n a1
  pub a2_is : power p t2 alpha2 n ≡ constant n a2
  pub c_is : (c < p) × (c ^ n * a2 % p ≡ a1)
  pub pair_is : PairOf p n t1 t2 alpha1 (scale p c alpha2) s r

abbrev pub EveryScalingAccepted : Type 0
EveryScalingAccepted =
    (p n : ℕ) (t1 t2 : List ℕ) → Models p n t1 t2 → (s r : List ℕ) → ScaledPair p n t1 t2 s r → check_number p n t1 t2 s r ≡ 0
