-- Modulo a prime p and a T without a divisor of degree 1 to n − 1 the residues are a field with p^n − 1 elements other than 0, hence
-- u^(p^n − 1) = 1 for each of them, and u^(p^n) = u for every residue.
--   residue_field     the field
--   nonzero_residues  its elements other than 0, each once
use mathlib.Core.Path.{◌≡◌, sym, ap, ◌∙◌}
use mathlib.Core.List.{List, head-eq_of_cons-eq}
use mathlib.Core.Logic.{⊎_elim}
use Prim.Native.Nat.{ℕ, suc, ◌-◌, ◌^◌}
use native.Mathlib.Nat.{one-le-pow}
use native.Mathlib.Omega.{arith}
use lib.ListN.{length}
use Rattle.algebra.specs.Lists.{Member}
use Rattle.algebra.specs.Prime.{Prime}
use Rattle.algebra.specs.Ring.{CommutativeRing, Field, power}
use Rattle.algebra.proofs.Counting.{without, without-length, without_keeps, without_lacks, without_distinct}
use Rattle.algebra.proofs.Lists.{member_equal}
use Rattle.algebra.proofs.RingLaws.{power_of_zero, power-suc}
use Rattle.algebra.proofs.Units.{Units, power_units}
use Rattle.array.specs.Words.{Words}
use Rattle.quotient.specs.Residue.{Residue, constant}
use Rattle.quotient.specs.Divisor.{HasDivisor}
use Rattle.quotient.proofs.Operations.{residue_discrete}
use Rattle.quotient.proofs.Ring.{residue_ring}
use Rattle.quotient.proofs.Reduction.{zero_is, one_is}
use Rattle.quotient.proofs.Listing.{all_residues, all_residues_complete, all_residues_distinct, all_residues-length}
use Rattle.quotient.proofs.Units.{nonzero_invertible}

pub one_not_zero : (n : ℕ) → constant (suc n) 1 ≡ constant (suc n) 0 → ⊥
unfolding constant
one_not_zero n e = let h : ◌≡◌ {A = ℕ} 1 0 = head-eq_of_cons-eq e in omega arith

module _ {p n : ℕ} {t : List ℕ} (prime : Prime p) (wt : Words p (suc n) t) (irreducible : HasDivisor p t → ⊥) where
  abbrev K : CommutativeRing (Residue p (suc n))
  K = residue_ring prime.0 wt

  pub residue_inverse : (u : Residue p (suc n)) → Dec (u ≡ K.zero) → Residue p (suc n)
  residue_inverse u (yes e) = K.zero
  residue_inverse u (no h) = (nonzero_invertible prime wt irreducible u h).0

  pub mul-residue_inverse : (u : Residue p (suc n)) (d : Dec (u ≡ K.zero)) → (u ≡ K.zero → ⊥) → K.mul u (residue_inverse u d) ≡ K.one
  unfolding residue_inverse
  mul-residue_inverse u (yes e) h = absurd (h e)
  mul-residue_inverse u (no k) h = (nonzero_invertible prime wt irreducible u k).1

  unfoldable pub residue_field : Field (Residue p (suc n))
  residue_field =
      record {
        ring = K;
        discrete = residue_discrete p (suc n);
        inverse = λ u. residue_inverse u (residue_discrete p (suc n) u K.zero);
        mul-inverse = λ u. mul-residue_inverse u (residue_discrete p (suc n) u K.zero);
        one-ne-zero = λ e. one_not_zero n (sym (one_is prime.0 wt) ∙ ap (λ u. u.0) e ∙ zero_is prime.0 wt);
      }

  zero_member : Member K.zero (all_residues p (suc n))
  zero_member = all_residues_complete p (suc n) K.zero

  pub nonzero_residues : List (Residue p (suc n))
  nonzero_residues = without (all_residues p (suc n)) K.zero zero_member

  pub nonzero_residues-length : length nonzero_residues ≡ p ^ suc n - 1
  unfolding nonzero_residues
  nonzero_residues-length = omega (arith, without-length (all_residues p (suc n)) K.zero zero_member, all_residues-length p (suc n))

  pub nonzero_residues_lem : Units residue_field nonzero_residues
  unfolding residue_field nonzero_residues
  nonzero_residues_lem =
      record {
        distinct = without_distinct (all_residues p (suc n)) K.zero zero_member (all_residues_distinct p (suc n));
        nonzero = λ u m e. without_lacks (all_residues p (suc n)) K.zero zero_member (all_residues_distinct p (suc n)) (member_equal nonzero_residues e m);
        complete = λ u h. ⊎_elim (λ e. absurd (h e)) (λ m. m) (without_keeps (all_residues p (suc n)) K.zero zero_member u (all_residues_complete p (suc n) u));
      }

  -- u^(p^n − 1) = 1
  pub power_of_nonzero : (u : Residue p (suc n)) → (u ≡ K.zero → ⊥) → power K u (p ^ suc n - 1) ≡ K.one
  unfolding residue_field
  power_of_nonzero u h = ap (power K u) (sym nonzero_residues-length) ∙ power_units residue_field nonzero_residues nonzero_residues_lem u h

  -- u^(p^n) = u
  pub power_of_size : (u : Residue p (suc n)) → power K u (p ^ suc n) ≡ u
  power_of_size u =
      let size : suc (p ^ suc n - 1) ≡ p ^ suc n = omega (arith, one-le-pow (suc n) p (omega (arith, prime.0))) in
      ap (power K u) (sym size) ∙ by_zero (residue_discrete p (suc n) u K.zero)
    where
      by_zero : Dec (u ≡ K.zero) → power K u (suc (p ^ suc n - 1)) ≡ u
      by_zero (yes z) = ap (λ v. power K v (suc (p ^ suc n - 1))) z ∙ power_of_zero K (p ^ suc n - 1) ∙ sym z
      by_zero (no h) = power-suc K u (p ^ suc n - 1) ∙ ap (K.mul u) (power_of_nonzero u h) ∙ K.mul-one u
