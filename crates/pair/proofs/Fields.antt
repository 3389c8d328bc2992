-- Rings that the two maps make isomorphic are fields together. Where every residue but 0 modulo T1 has an inverse, so has every residue u but 0 modulo T2: u(R) is not 0,
-- for u(R)(S) = u, and the forward map takes an inverse of u(R) to one of u. So T1 and T2 have divisors of degree 1 to n − 1 together.
--   irreducible_forth, irreducible_back   T2 has none if T1 has none, and the other way round
--   isomorphisms_given                    the maps of a pair whose congruences hold
--   second_none                           where they hold, the test of T1 decides that of T2
--   fields_given                          moduli without such divisors are those of fields
use mathlib.Core.Path.{◌≡◌, sym, ap, ◌∙◌}
use mathlib.Core.Bool.{true, false}
use mathlib.Core.List.{List}
use Prim.Native.Nat.{ℕ, ◌≤◌}
use Rattle.algebra.specs.Prime.{Prime}
use Rattle.array.specs.Words.{Words}
use Rattle.array.proofs.Words.{of_length, to_length}
use Rattle.irreducible.proofs.Theorem.{inverses_of, irreducible_of}
use Rattle.quotient.specs.Divisor.{HasDivisor}
use Rattle.quotient.specs.DivisorTest.{has_divisor}
use Rattle.quotient.specs.Map.{Preserves, Undoes}
use Rattle.quotient.specs.Residue.{constant, product, Inverses}
use Rattle.quotient.proofs.Decision.{irreducible_test, test_irreducible}
use Rattle.quotient.proofs.Substitution.{zero-substitute}
use Rattle.pair.specs.Pair.{forward, backward, Congruences, congruences_hold}
use Rattle.pair.specs.Theorem.{Isomorphisms, Fields}
use Rattle.pair.proofs.CongruenceTest.{congruences_of_hold, isomorphisms_of_congruences}
use Rattle.refusal.specs.Models.{Given}

module _ {p n : ℕ} {t1 t2 : List ℕ} (w1 : Words p n t1) (w2 : Words p n t2) (f g : List ℕ → List ℕ) (forth : Preserves p t1 t2 f) (back : Preserves p t2 t1 g)
    (undoes : Undoes p n f g) (zero : f (constant n 0) ≡ constant n 0) where
  inverses_forth : Inverses p n t1 → Inverses p n t2
  inverses_forth inverses u wu other =
      let wg : Words p n (g u) = of_length w1 (back.residues u (to_length w2 wu)) in
      let (v, wv, e) = inverses (g u) wg (λ z. other (sym (undoes u wu) ∙ ap f z ∙ zero)) in
      let image : f (product p t1 (g u) v) ≡ product p t2 (f (g u)) (f v) = forth.products (g u) v (to_length w1 wg) wv in
      (f v, forth.residues v wv, ap (λ x. product p t2 x (f v)) (sym (undoes u wu)) ∙ sym image ∙ ap f e ∙ forth.one)

module _ {p n : ℕ} {t1 t2 s r : List ℕ} (prime : Prime p) (some : 1 ≤ n) (w1 : Words p n t1) (w2 : Words p n t2) (ws : Words p n s) (wr : Words p n r)
    (iso : Isomorphisms p n t1 t2 s r) where
  pub irreducible_forth : (HasDivisor p t1 → ⊥) → HasDivisor p t2 → ⊥
  unfolding forward
  irreducible_forth none =
      irreducible_of p n t2 prime some w2
      (inverses_forth w1 w2 (forward p t2 s) (backward p t1 r) iso.forward_preserves iso.backward_preserves iso.forth_undoes_back (zero-substitute prime.0 w2 ws n)
      (inverses_of p n t1 prime some w1 none))

  pub irreducible_back : (HasDivisor p t2 → ⊥) → HasDivisor p t1 → ⊥
  unfolding backward
  irreducible_back none =
      irreducible_of p n t1 prime some w1
      (inverses_forth w2 w1 (backward p t1 r) (forward p t2 s) iso.backward_preserves iso.forward_preserves iso.back_undoes_forth (zero-substitute prime.0 w1 wr n)
      (inverses_of p n t2 prime some w2 none))

module _ (p n : ℕ) (t1 t2 s r : List ℕ) (g : Given p n t1 t2 s r) where
  pub isomorphisms_given : Congruences p t1 t2 s r → Isomorphisms p n t1 t2 s r
  isomorphisms_given c =
      isomorphisms_of_congruences g.models.prime.0 n g.models.degree.0 g.models.modulus1 g.models.modulus2 g.words_s g.words_r c

  pub second_none : congruences_hold p t1 t2 s r ≡ true → has_divisor p t1 ≡ false → has_divisor p t2 ≡ false
  second_none e none =
      irreducible_test g.models.prime.0 g.models.modulus2
      (irreducible_forth g.models.prime g.models.degree.0 g.models.modulus1 g.models.modulus2 g.words_s g.words_r
      (isomorphisms_given (congruences_of_hold p t1 t2 s r e)) (test_irreducible g.models.prime.0 g.models.modulus1 none))

  pub fields_given : (HasDivisor p t1 → ⊥) → (HasDivisor p t2 → ⊥) → Fields p n t1 t2
  fields_given none1 none2 =
      record {
        no_divisor1 = none1;
        no_divisor2 = none2;
        inverses1 = inverses_of p n t1 g.models.prime g.models.degree.0 g.models.modulus1 none1;
        inverses2 = inverses_of p n t2 g.models.prime g.models.degree.0 g.models.modulus2 none2;
      }
