-- A root S modulo T2 of a T1 without proper divisors has independent powers: u ↦ u(S) is a homomorphism out of a field, hence injective.
use mathlib.Core.Path.{◌≡◌, sym, ap, ◌∙◌}
use mathlib.Core.List.{List}
use Prim.Native.Nat.{ℕ, suc}
use Rattle.algebra.specs.Prime.{Prime}
use Rattle.algebra.specs.Ring.{CommutativeRing, Field}
use Rattle.algebra.proofs.RingLaws.{zero-mul, eq_of_sub_zero}
use Rattle.array.specs.Words.{Words}
use Rattle.quotient.specs.Divisor.{HasDivisor}
use Rattle.quotient.specs.Residue.{Residue, constant, modulus_at}
use Rattle.quotient.proofs.Evaluation.{evaluate}
use Rattle.quotient.proofs.Field.{residue_field}
use Rattle.quotient.proofs.Operations.{residue_path}
use Rattle.quotient.proofs.Reduction.{characteristic, zero_is}
use Rattle.quotient.proofs.Ring.{residue_ring}
use Rattle.quotient.proofs.Substitution.{Homomorphism, homomorphism_zero, evaluate_homomorphism, modulus_at_is, substitute_is}
use Rattle.galois.specs.Express.{Independent}
use Rattle.galois.proofs.ResidueConstants.{ring_proper}

-- a homomorphism out of a field is injective: φ(d) = 0 for d ≠ 0 would give φ(1) = φ(d)·φ(1/d) = 0
module _ {A B : Type 0} (F : Field A) (S : CommutativeRing B) (proper : S.one ≡ S.zero → ⊥) {f : A → B} (h : Homomorphism F.ring S f) where
  kernel_trivial : (d : A) → f d ≡ S.zero → Dec (d ≡ F.ring.zero) → d ≡ F.ring.zero
  kernel_trivial d e (yes z) = z
  kernel_trivial d e (no n) =
      absurd (proper (sym h.one ∙ ap f (sym (F.mul-inverse d n)) ∙ h.mul d (F.inverse d) ∙ ap (λ x. S.mul x (f (F.inverse d))) e ∙ zero-mul S (f (F.inverse d))))

  field_injective : (a b : A) → f a ≡ f b → a ≡ b
  field_injective a b e =
      let d : A = F.ring.add a (F.ring.neg b) in
      eq_of_sub_zero F.ring a b
      (kernel_trivial d
      (h.add a (F.ring.neg b) ∙ ap (λ x. S.add x (f (F.ring.neg b))) e ∙ sym (h.add b (F.ring.neg b)) ∙ ap f (F.ring.add-neg b) ∙ homomorphism_zero h)
      (F.discrete d F.ring.zero))

module _ {p n : ℕ} {t1 t2 s : List ℕ} (prime : Prime p) (w1 : Words p (suc n) t1) (w2 : Words p (suc n) t2) (irreducible : HasDivisor p t1 → ⊥)
    (ws : Words p (suc n) s) (root : modulus_at p t2 s t1 ≡ constant (suc n) 0) where
  abbrev L : CommutativeRing (Residue p (suc n))
  L = residue_ring prime.0 w2

  pub root_homomorphism : Homomorphism (residue_ring prime.0 w1) L (λ u. evaluate L u.0 (s, ws))
  root_homomorphism =
      evaluate_homomorphism prime.0 w1 L (characteristic prime.0 w2) (s, ws) (residue_path (sym (modulus_at_is prime.0 w2 (s, ws) t1) ∙ root ∙ sym (zero_is prime.0 w2)))

  pub root_injective : (u v : Residue p (suc n)) → evaluate L u.0 (s, ws) ≡ evaluate L v.0 (s, ws) → u ≡ v
  unfolding residue_field
  root_injective = field_injective (residue_field prime w1 irreducible) L (ring_proper prime w2) root_homomorphism

  pub root_independent : Independent p (suc n) t2 s
  root_independent f g wf wg e =
      ap (λ u. u.0) (root_injective (f, wf) (g, wg) (residue_path (sym (substitute_is prime.0 w2 (s, ws) f) ∙ e ∙ substitute_is prime.0 w2 (s, ws) g)))
