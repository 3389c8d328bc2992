-- The conjugates u^(p^k) of a residue u: each is the p-th power of the one before, and a polynomial over the constants takes them to the conjugates of its value.
use mathlib.Core.Path.{◌≡◌, sym, ap, ◌∙◌}
use mathlib.Core.List.{List}
use Prim.Native.Nat.{ℕ, zero, suc, ◌^◌, ◌≤◌}
use native.Mathlib.Nat.{pow-zero, pow-suc}
use Rattle.algebra.specs.Prime.{Prime}
use Rattle.algebra.specs.Ring.{CommutativeRing, numeral}
use Rattle.algebra.specs.Ring as Ring
use Rattle.algebra.proofs.RingLaws.{power-mul, power-one}
use Rattle.array.specs.Words.{Words}
use Rattle.quotient.specs.Residue.{Residue, power, conjugate}
use Rattle.quotient.proofs.Evaluation.{evaluate}
use Rattle.quotient.proofs.Frobenius.{frobenius_evaluate}
use Rattle.quotient.proofs.Operations.{power_words}
use Rattle.quotient.proofs.Ring.{residue_ring, power_is}

module _ {p n : ℕ} {t : List ℕ} (big : 2 ≤ p) (wt : Words p n t) where
  abbrev K : CommutativeRing (Residue p n)
  K = residue_ring big wt

  pub conjugate_is : (u : Residue p n) (k : ℕ) → conjugate p t u.0 k ≡ (Ring.power K u (p ^ k)).0
  unfolding conjugate
  conjugate_is u k = power_is big wt u (p ^ k)

  module _ {u : List ℕ} (wu : Words p n u) where
    pub conjugate_words : (k : ℕ) → Words p n (conjugate p t u k)
    unfolding conjugate
    conjugate_words k = power_words big wt wu (p ^ k)

    pub conjugate-zero : conjugate p t u 0 ≡ u
    conjugate-zero = conjugate_is (u, wu) 0 ∙ ap (λ v. v.0) (ap (Ring.power K (u, wu)) (pow-zero p) ∙ power-one K (u, wu))

    -- the p-th power of u^(p^k)
    pub conjugate-power : (k : ℕ) → power p t (conjugate p t u k) p ≡ conjugate p t u (suc k)
    conjugate-power k =
        ap (λ v. power p t v p) (conjugate_is (u, wu) k) ∙ power_is big wt (Ring.power K (u, wu) (p ^ k)) p
        ∙ ap (λ v. v.0) (sym (power-mul K (u, wu) (p ^ k) p) ∙ ap (Ring.power K (u, wu)) (sym (pow-suc p k))) ∙ sym (conjugate_is (u, wu) (suc k))

-- f(a)^(p^k) = f(a^(p^k)) in every ring in which p·1 = 0
module _ {A : Type 0} (R : CommutativeRing A) {p : ℕ} (prime : Prime p) (vanishes : numeral R p ≡ R.zero) (f : List ℕ) (a : A) where
  pub evaluate_conjugate : (k : ℕ) → Ring.power R (evaluate R f a) (p ^ k) ≡ evaluate R f (Ring.power R a (p ^ k))
  evaluate_conjugate zero =
      ap (Ring.power R (evaluate R f a)) (pow-zero p) ∙ power-one R (evaluate R f a) ∙ sym (ap (evaluate R f) (ap (Ring.power R a) (pow-zero p) ∙ power-one R a))
  evaluate_conjugate (suc k) =
      ap (Ring.power R (evaluate R f a)) (pow-suc p k) ∙ power-mul R (evaluate R f a) (p ^ k) p ∙ ap (λ y. Ring.power R y p) (evaluate_conjugate k)
      ∙ frobenius_evaluate R prime vanishes f (Ring.power R a (p ^ k))
      ∙ ap (evaluate R f) (sym (ap (Ring.power R a) (pow-suc p k) ∙ power-mul R a (p ^ k) p))
