-- Modulo a prime p and any T the map u ↦ u^p is linear, and it is the substitution of x^p: u(x)^p = u(x^p), since p·1 = 0 and c^p = c for
-- every constant c.
use mathlib.Core.Path.{◌≡◌, sym, ap, ap₂, ◌∙◌}
use mathlib.Core.List.{List, [], ◌∷◌, map}
use Prim.Native.Nat.{ℕ, ◌≤◌}
use Rattle.algebra.specs.Lists.{All}
use Rattle.algebra.specs.Prime.{Prime}
use Rattle.algebra.specs.Ring.{CommutativeRing, numeral, power as ring_power}
use Rattle.algebra.proofs.Frobenius.{frobenius_add, frobenius_numeral, frobenius_value}
use Rattle.algebra.proofs.RingLaws.{power_product}
use Rattle.array.specs.Words.{Words}
use Rattle.quotient.specs.Residue.{Residue, sum, scale, power, residue_of_x, substitute}
use Rattle.quotient.proofs.Evaluation.{evaluate}
use Rattle.quotient.proofs.Ring.{residue_ring, x_residue, power_is}
use Rattle.quotient.proofs.Reduction.{add_is, scale_is, characteristic, reduce, reduce_residue}
use Rattle.quotient.proofs.Substitution.{substitute_is}

-- (f(a))^p = f(a^p) in every ring in which p·1 = 0
pub frobenius_evaluate : {A : Type 0} (R : CommutativeRing A) {p : ℕ} → Prime p → numeral R p ≡ R.zero → (f : List ℕ) (a : A)
    → ring_power R (evaluate R f a) p ≡ evaluate R f (ring_power R a p)
unfolding evaluate
frobenius_evaluate R {p} prime vanishes f a = frobenius_value R p prime vanishes (map (numeral R) f) a (fixed f)
  where
    fixed : (f : List ℕ) → All (λ c. ring_power R c p ≡ c) (map (numeral R) f)
    fixed [] = tt
    fixed (c ∷ f) = (frobenius_numeral R p prime vanishes c, fixed f)

module _ {p n : ℕ} {t : List ℕ} (prime : Prime p) (wt : Words p n t) where
  abbrev big : 2 ≤ p
  big = prime.0

  abbrev K : CommutativeRing (Residue p n)
  K = residue_ring big wt

  pub frobenius_sum : (u v : Residue p n) → power p t (sum p u.0 v.0) p ≡ sum p (power p t u.0 p) (power p t v.0 p)
  frobenius_sum u v =
      ap (λ w. power p t w p) (sym (add_is big wt u v)) ∙ power_is big wt (K.add u v) p ∙ ap (λ w. w.0) (frobenius_add K p prime (characteristic big wt) u v)
      ∙ add_is big wt (ring_power K u p) (ring_power K v p) ∙ ap₂ (sum p) (sym (power_is big wt u p)) (sym (power_is big wt v p))

  pub frobenius_scale : (c : ℕ) (u : Residue p n) → power p t (scale p c u.0) p ≡ scale p c (power p t u.0 p)
  frobenius_scale c u =
      ap (λ w. power p t w p) (sym (scale_is big wt c u)) ∙ power_is big wt (K.mul (numeral K c) u) p
      ∙ ap (λ w. w.0) (power_product K (numeral K c) u p ∙ ap (λ w. K.mul w (ring_power K u p)) (frobenius_numeral K p prime (characteristic big wt) c))
      ∙ scale_is big wt c (ring_power K u p) ∙ ap (scale p c) (sym (power_is big wt u p))

  -- u^p = u(x^p)
  pub frobenius_substitutes : (u : Residue p n) → power p t u.0 p ≡ substitute p t (power p t (residue_of_x p t) p) u.0
  unfolding reduce x_residue
  frobenius_substitutes u =
      let x = x_residue big wt in
      power_is big wt u p ∙ ap (λ w. (ring_power K w p).0) (sym (reduce_residue big wt u))
      ∙ ap (λ w. w.0) (frobenius_evaluate K prime (characteristic big wt) u.0 x)
      ∙ sym (substitute_is big wt (ring_power K x p) u.0) ∙ ap (λ w. substitute p t w u.0) (sym (power_is big wt x p))
