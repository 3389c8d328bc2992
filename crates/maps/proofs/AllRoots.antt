-- The roots of T1 modulo T2 are the conjugates of one of them. Let T1 and T2 have no divisor of degree 1 to n − 1, and T1(S) = 0 modulo T2. The map u ↦ u(S) is injective
-- and takes X to S, so that the period of S under u ↦ u^p is that of X, which is n: S, S^p, …, S^(p^(n−1)) are distinct. They are roots of T1, since
-- T1(S)^p = T1(S^p), and T1, of degree n, has no more.
use mathlib.Core.Path.{◌≡◌, sym, ap, ◌∙◌}
use mathlib.Core.List.{List, ◌∷◌, map}
use mathlib.Core.Logic.{inl, inr}
use Prim.Native.Nat.{ℕ, suc, ◌-◌, ◌^◌, ◌≤◌, ◌<◌}
use native.Mathlib.Nat.{one-le-pow}
use native.Mathlib.Omega.{arith}
use lib.ListN.{length, length-map}
use Rattle.algebra.specs.Lists.{Member, Distinct, range}
use Rattle.algebra.specs.Prime.{Prime}
use Rattle.algebra.specs.Ring.{CommutativeRing, Field, power}
use Rattle.algebra.proofs.Counting.{member?}
use Rattle.algebra.proofs.Lists.{map_member, distinct_map}
use Rattle.algebra.proofs.Period.{period_distinct}
use Rattle.algebra.proofs.RingLaws.{power_of_zero}
use Rattle.algebra.proofs.Search.{range_length, range_bounds, range_distinct}
use Rattle.array.specs.Words.{Words}
use Rattle.array.proofs.Words.{words_length}
use Rattle.galois.proofs.RootIndependent.{root_homomorphism, root_injective}
use Rattle.irreducible.proofs.PeriodOfX.{no_lower_period}
use Rattle.quotient.specs.Divisor.{HasDivisor, monic}
use Rattle.quotient.specs.Residue.{Residue, constant, conjugate, modulus_at}
use Rattle.quotient.proofs.Conjugates.{conjugate_is, evaluate_conjugate}
use Rattle.quotient.proofs.Evaluation.{evaluate, monic_roots_at_most}
use Rattle.quotient.proofs.Field.{residue_field, power_of_size}
use Rattle.quotient.proofs.Operations.{residue_path, residue_discrete}
use Rattle.quotient.proofs.Reduction.{characteristic, zero_is}
use Rattle.quotient.proofs.Ring.{residue_ring, x_residue}
use Rattle.quotient.proofs.Substitution.{homomorphism_power, evaluate_of_x, modulus_at_is}

module _ {p n : ℕ} {t1 t2 s : List ℕ} (prime : Prime p) (w1 : Words p (suc n) t1) (w2 : Words p (suc n) t2) (none1 : HasDivisor p t1 → ⊥) (none2 : HasDivisor p t2 → ⊥)
    (ws : Words p (suc n) s) (root : modulus_at p t2 s t1 ≡ constant (suc n) 0) where
  abbrev K : CommutativeRing (Residue p (suc n))
  K = residue_ring prime.0 w1

  abbrev L : CommutativeRing (Residue p (suc n))
  L = residue_ring prime.0 w2

  abbrev F : Field (Residue p (suc n))
  F = residue_field prime w2 none2

  abbrev x : Residue p (suc n)
  x = x_residue prime.0 w1

  abbrev S : Residue p (suc n)
  S = (s, ws)

  -- a root of T1, on lists and in the ring
  to_root : (u : Residue p (suc n)) → modulus_at p t2 u.0 t1 ≡ constant (suc n) 0 → evaluate L (monic t1) u ≡ L.zero
  to_root u e = residue_path (sym (modulus_at_is prime.0 w2 u t1) ∙ e ∙ sym (zero_is prime.0 w2))

  from_root : (u : Residue p (suc n)) → evaluate L (monic t1) u ≡ L.zero → modulus_at p t2 u.0 t1 ≡ constant (suc n) 0
  from_root u e = modulus_at_is prime.0 w2 u t1 ∙ ap (λ v. v.0) e ∙ zero_is prime.0 w2

  -- the period of S is that of X
  image_of_x : evaluate L x.0 S ≡ S
  unfolding x_residue
  image_of_x = evaluate_of_x prime.0 w1 L (characteristic prime.0 w2) S (to_root S root)

  least_period : (k : ℕ) → 0 < k → k < suc n → power L S (p ^ k) ≡ S → ⊥
  least_period k pos less e =
      no_lower_period prime w1 none1 k pos less
      (root_injective prime w1 w2 none1 ws root (power K x (p ^ k)) x
      (homomorphism_power (root_homomorphism prime w1 w2 none1 ws root) x (p ^ k) ∙ ap (λ u. power L u (p ^ k)) image_of_x ∙ e ∙ sym image_of_x))

  powers_distinct : (j k : ℕ) → j < suc n → k < suc n → power L S (p ^ j) ≡ power L S (p ^ k) → j ≡ k
  powers_distinct = period_distinct L p S (suc n) (power_of_size prime w2 none2 S) least_period

  -- the conjugates are roots
  power_root : (k : ℕ) → evaluate L (monic t1) (power L S (p ^ k)) ≡ L.zero
  power_root k =
      let positive : p ^ k ≡ suc (p ^ k - 1) = omega (arith, one-le-pow k p (omega (arith, prime.0))) in
      sym (evaluate_conjugate L prime (characteristic prime.0 w2) (monic t1) S k) ∙ ap (λ u. power L u (p ^ k)) (to_root S root)
      ∙ ap (power L L.zero) positive ∙ power_of_zero L (p ^ k - 1)

  conjugates : List (Residue p (suc n))
  conjugates = map (λ k. power L S (p ^ k)) (range 0 (suc n))

  conjugate_of : (u : Residue p (suc n)) → Member u conjugates → (k : ℕ) × (k < suc n) × (u ≡ power L S (p ^ k))
  unfolding conjugates
  conjugate_of u m =
      let (k, l, e) = map_member (λ k. power L S (p ^ k)) (range 0 (suc n)) u m in
      (k, omega (arith, range_bounds 0 (suc n) k l), e)

  conjugates_distinct : Distinct conjugates
  unfolding conjugates
  conjugates_distinct =
      distinct_map (λ k. power L S (p ^ k)) (range 0 (suc n)) (λ j k l m. powers_distinct j k (below j l) (below k m)) (range_distinct 0 (suc n))
    where
      below : (j : ℕ) → Member j (range 0 (suc n)) → j < suc n
      below j m = omega (arith, range_bounds 0 (suc n) j m)

  conjugates-length : length conjugates ≡ suc n
  unfolding conjugates
  conjugates-length = length-map (range 0 (suc n)) (λ k. power L S (p ^ k)) ∙ range_length 0 (suc n)

  -- T1 has no other root
  root_conjugate : (u : Residue p (suc n)) → evaluate L (monic t1) u ≡ L.zero → Member u conjugates
  unfolding residue_field
  root_conjugate u e = by_member (member? (residue_discrete p (suc n)) u conjugates)
    where
      each : (v : Residue p (suc n)) → Member v (u ∷ conjugates) → evaluate L (monic t1) v ≡ L.zero
      each v (inl f) = ap (evaluate L (monic t1)) f ∙ e
      each v (inr m) = let (k, l, f) = conjugate_of v m in ap (evaluate L (monic t1)) f ∙ power_root k

      by_member : Dec (Member u conjugates) → Member u conjugates
      by_member (yes m) = m
      by_member (no absent) =
          let few : length (u ∷ conjugates) ≤ length t1 =
          monic_roots_at_most F p (characteristic prime.0 w2) t1 (u ∷ conjugates) (absent, conjugates_distinct) each in
          absurd (omega (arith, conjugates-length, words_length w1))

  -- on lists

  pub conjugates_apart : (j k : ℕ) → j < suc n → k < suc n → conjugate p t2 s j ≡ conjugate p t2 s k → j ≡ k
  conjugates_apart j k l m e =
      powers_distinct j k l m (residue_path (sym (conjugate_is prime.0 w2 S j) ∙ e ∙ conjugate_is prime.0 w2 S k))

  pub conjugate_is_root : (k : ℕ) → modulus_at p t2 (conjugate p t2 s k) t1 ≡ constant (suc n) 0
  conjugate_is_root k =
      ap (λ u. modulus_at p t2 u t1) (conjugate_is prime.0 w2 S k) ∙ from_root (power L S (p ^ k)) (power_root k)

  pub root_is_conjugate : (u : List ℕ) → Words p (suc n) u → modulus_at p t2 u t1 ≡ constant (suc n) 0 → (k : ℕ) × (k < suc n) × (u ≡ conjugate p t2 s k)
  root_is_conjugate u wu e =
      let (k, l, f) = conjugate_of (u, wu) (root_conjugate (u, wu) (to_root (u, wu) e)) in
      (k, l, ap (λ v. v.0) f ∙ sym (conjugate_is prime.0 w2 S k))
