-- T1 has a root modulo T2. With N = p^n let X^N − X = G·T1, G monic of degree N − n. Each of the N residues modulo T2 is a root of the left side; at most N − n of them are
-- roots of G, so that some residue is not, and it is a root of T1.
use mathlib.Core.Path.{◌≡◌, sym, ap, ◌∙◌}
use mathlib.Core.List.{List}
use Prim.Native.Nat.{ℕ, suc, ◌+◌, ◌-◌, ◌^◌, ◌≤◌}
use native.Mathlib.Nat.{mod_self}
use native.Mathlib.Omega.{arith}
use lib.ListN.{length}
use Rattle.algebra.specs.Lists.{Member}
use Rattle.algebra.specs.Prime.{Prime}
use Rattle.algebra.specs.Ring.{CommutativeRing, Field, power}
use Rattle.algebra.proofs.Counting.{Parted, part}
use Rattle.algebra.proofs.FieldLaws.{mul_left_cancel}
use Rattle.algebra.proofs.Lists.{all_member, some_member}
use Rattle.algebra.proofs.RingLaws.{mul-zero}
use Rattle.array.specs.Words.{Words}
use Rattle.array.proofs.Words.{words_length}
use Rattle.gauss.proofs.Factors.{divisor_degree}
use Rattle.gauss.proofs.PowerMinusX.{power_minus_x, size_is, power_minus_x_words, fixed_root, divides_degree}
use Rattle.quotient.specs.Divisor.{Same, Divides, HasDivisor, polynomial_product, monic}
use Rattle.quotient.specs.Residue.{Residue, constant, modulus_at}
use Rattle.quotient.proofs.Cofactor.{cofactor}
use Rattle.quotient.proofs.Evaluation.{evaluate, evaluate_product, evaluate_same, monic_roots_at_most}
use Rattle.quotient.proofs.Field.{residue_field, power_of_size}
use Rattle.quotient.proofs.Listing.{all_residues, all_residues_distinct, all_residues-length}
use Rattle.quotient.proofs.Operations.{residue_discrete}
use Rattle.quotient.proofs.Reduction.{characteristic, zero_is}
use Rattle.quotient.proofs.Ring.{residue_ring}
use Rattle.quotient.proofs.Substitution.{modulus_at_is}

module _ {p n : ℕ} {t1 t2 : List ℕ} (prime : Prime p) (w1 : Words p (suc n) t1) (w2 : Words p (suc n) t2) (none1 : HasDivisor p t1 → ⊥) (none2 : HasDivisor p t2 → ⊥) where
  abbrev K : CommutativeRing (Residue p (suc n))
  K = residue_ring prime.0 w2

  abbrev F : Field (Residue p (suc n))
  F = residue_field prime w2 none2

  -- G, with the lower words e, has at most as many roots as its degree says; another residue is a root of T1
  module _ (k j : ℕ) (size : suc (suc k) ≡ p ^ suc n) (degrees : suc (suc k) ≡ suc n + j) {e : List ℕ} (we : Words p j e)
      (same : Same p (polynomial_product p (monic e) (monic t1)) (monic (power_minus_x p k))) where
    product_vanishes : (u : Residue p (suc n)) → K.mul (evaluate K (monic e) u) (evaluate K (monic t1) u) ≡ K.zero
    product_vanishes u =
        sym (evaluate_product K p (characteristic prime.0 w2) u (monic e) (monic t1))
        ∙ evaluate_same K p (characteristic prime.0 w2) u (polynomial_product p (monic e) (monic t1)) (monic (power_minus_x p k)) same
        ∙ fixed_root K prime.0 (characteristic prime.0 w2) k u (ap (power K u) size ∙ power_of_size prime w2 none2 u)

    abbrev RootOfG : Residue p (suc n) → Type 0
    RootOfG u = evaluate K (monic e) u ≡ K.zero

    parted : Parted RootOfG (all_residues p (suc n))
    parted = part RootOfG (λ u. residue_discrete p (suc n) (evaluate K (monic e) u) K.zero) (all_residues p (suc n))

    few : length parted.passing.elements ≤ length e
    unfolding residue_field
    few =
        monic_roots_at_most F p (characteristic prime.0 w2) e parted.passing.elements (parted.passing.distinct (all_residues_distinct p (suc n)))
        (all_member RootOfG parted.passing.elements parted.passing.each)

    some_other : (u : Residue p (suc n)) × (RootOfG u → ⊥)
    some_other = of_member (some_member others (omega (arith, parted.lengths, few, words_length we, all_residues-length p (suc n))))
      where
        others : List (Residue p (suc n))
        others = parted.failing.elements

        of_member : (u : Residue p (suc n)) × Member u others → (u : Residue p (suc n)) × (RootOfG u → ⊥)
        of_member (u, m) = (u, all_member (λ v. RootOfG v → ⊥) others parted.failing.each u m)

    other_root : (u : Residue p (suc n)) → (RootOfG u → ⊥) → modulus_at p t2 u.0 t1 ≡ constant (suc n) 0
    unfolding residue_field
    other_root u other =
        let root : evaluate K (monic t1) u ≡ K.zero
        = mul_left_cancel F (evaluate K (monic e) u) (evaluate K (monic t1) u) K.zero other (product_vanishes u ∙ sym (mul-zero K (evaluate K (monic e) u))) in
        modulus_at_is prime.0 w2 u t1 ∙ ap (λ v. v.0) root ∙ zero_is prime.0 w2

    root_by_counting : (s : List ℕ) × Words p (suc n) s × (modulus_at p t2 s t1 ≡ constant (suc n) 0)
    root_by_counting = let (u, other) = some_other in (u.0, u.1, other_root u other)

  pub root_exists : (s : List ℕ) × Words p (suc n) s × (modulus_at p t2 s t1 ≡ constant (suc n) 0)
  root_exists = of_cofactor (cofactor prime.0 w1 (power_minus_x p k) divides j (suc (suc k)) degrees (power_minus_x_words prime.0 k))
    where
      k : ℕ
      k = p ^ suc n - 2

      divides : Divides p t1 (power_minus_x p k)
      divides = divides_degree prime w1 (suc n) k (size_is p n prime.0) none1 (mod_self (suc n))

      j : ℕ
      j = suc (suc k) - suc n

      degrees : suc (suc k) ≡ suc n + j
      degrees = omega (arith, divisor_degree prime.0 w1 (power_minus_x_words prime.0 k) divides)

      of_cofactor : (e : List ℕ) × Words p j e × Same p (polynomial_product p (monic e) (monic t1)) (monic (power_minus_x p k))
          → (s : List ℕ) × Words p (suc n) s × (modulus_at p t2 s t1 ≡ constant (suc n) 0)
      of_cofactor (e, we, same) = root_by_counting k j (size_is p n prime.0) degrees we same
