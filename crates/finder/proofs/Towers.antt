-- The second method: the pair of Algorithm 4.1, where n = p^k with k ≥ 1. The α of the models after k rounds are what the searches find, and satisfy one relation; k rounds show that a modulus
-- has no proper divisor, and determine their α.
use mathlib.Core.Path.{◌≡◌, sym, ap, subst, subst₂, ◌∙◌}
use mathlib.Core.Bool.{true, false}
use mathlib.Core.List.{List}
use Prim.Native.Nat.{ℕ, zero, suc, ◌^◌, ◌≤◌}
use native.Mathlib.Nat.{add-zero}
use native.Mathlib.Omega.{arith}
use Rattle.algebra.specs.Prime.{Prime}
use Rattle.array.specs.Words.{Words}
use Rattle.quotient.specs.Divisor.{HasDivisor}
use Rattle.roots.specs.Roots.{zeta, radicand}
use Rattle.galois.specs.Eigenvector.{alpha}
use Rattle.galois.specs.Tower.{exponent, rounds, Rounds}
use Rattle.galois.proofs.Exponent.{exponent_found, not_a_divisor}
use Rattle.galois.proofs.Generators.{Related}
use Rattle.galois.proofs.Rounds.{rounds_irreducible, rounds_unique, rounds_are, rounds_related}
use Rattle.finder.specs.Finder.{generator}
use Rattle.finder.specs.Theorem.{PairOf, TowerPair}
use Rattle.finder.proofs.Construction.{PairHolds, pair_holds, same_pair}
use Rattle.finder.proofs.Findable.{divides-false}

-- α where n = p^k
pub generator_second : (p n : ℕ) (t : List ℕ) → 2 ≤ p → (k : ℕ) → 1 ≤ k → n ≡ p ^ k → generator p n t ≡ (rounds p n t k).1
unfolding generator
generator_second p n t big k low size =
    ap (λ b. elim b [ true ↦ alpha p n t (zeta p n) (radicand p n (zeta p n)) | false ↦ (rounds p n t (exponent p n)).1 ]) (divides-false p n (not_a_divisor p n big (k, low, size)))
    ∙ ap (λ j. (rounds p n t j).1) (exponent_found p n big k low size)

module _ {p n : ℕ} (prime : Prime p) (k : ℕ) (size : suc n ≡ p ^ suc k) where
  model_rounds : {t : List ℕ} → Words p (suc n) t → (HasDivisor p t → ⊥) → Rounds p (suc n) t (suc k) (rounds p (suc n) t (suc k)).0 (generator p (suc n) t)
  model_rounds {t} wt irreducible =
      subst (Rounds p (suc n) t (suc k) (rounds p (suc n) t (suc k)).0) (sym (generator_second p (suc n) t prime.0 (suc k) (omega arith) size))
      (rounds_are prime wt irreducible (suc k) 0 (size ∙ ap (λ i. p ^ i) (sym (add-zero (suc k)))))

  module _ {t1 t2 : List ℕ} (w1 : Words p (suc n) t1) (w2 : Words p (suc n) t2) where
    module _ (irreducible1 : HasDivisor p t1 → ⊥) (irreducible2 : HasDivisor p t2 → ⊥) where
      pub second_related : Related p (suc n) t1 t2 (generator p (suc n) t1) (generator p (suc n) t2)
      second_related = rounds_related prime w1 w2 irreducible1 irreducible2 k size _ _ _ _ (model_rounds w1 irreducible1) (model_rounds w2 irreducible2)

      pub second_pair : {s r : List ℕ} → PairOf p (suc n) t1 t2 (generator p (suc n) t1) (generator p (suc n) t2) s r → TowerPair p (suc n) t1 t2 s r
      second_pair pair =
          record {
            k = suc k;
            a1 = (rounds p (suc n) t1 (suc k)).0;
            a2 = (rounds p (suc n) t2 (suc k)).0;
            alpha1 = generator p (suc n) t1;
            alpha2 = generator p (suc n) t2;
            k_is = (omega arith, size);
            alpha1_is = model_rounds w1 irreducible1;
            alpha2_is = model_rounds w2 irreducible2;
            pair_is = pair;
          }

    module _ {a1 a2 x y : List ℕ} (h1 : Rounds p (suc n) t1 (suc k) a1 x) (h2 : Rounds p (suc n) t2 (suc k) a2 y) where
      first_irreducible : HasDivisor p t1 → ⊥
      first_irreducible = rounds_irreducible prime w1 k a1 x size h1

      second_irreducible : HasDivisor p t2 → ⊥
      second_irreducible = rounds_irreducible prime w2 k a2 y size h2

      related : Related p (suc n) t1 t2 x y
      related = rounds_related prime w1 w2 first_irreducible second_irreducible k size a1 x a2 y h1 h2

      holds : {s r : List ℕ} → PairOf p (suc n) t1 t2 x y s r → PairHolds p (suc n) t1 t2 s r
      holds pair = pair_holds prime w1 w2 first_irreducible related pair second_irreducible

      -- the α of other rounds are the same
      same : {b1 b2 x' y' s r s' r' : List ℕ} → Rounds p (suc n) t1 (suc k) b1 x' → Rounds p (suc n) t2 (suc k) b2 y'
          → PairOf p (suc n) t1 t2 x y s r → PairOf p (suc n) t1 t2 x' y' s' r' → (s ≡ s') × (r ≡ r')
      same {b1} {b2} {x'} {y'} {s} {r} {s'} {r'} g1 g2 pair pair' =
          let ex : x' ≡ x = (rounds_unique prime w1 first_irreducible (suc k) b1 x' a1 x g1 h1).1 in
          let ey : y' ≡ y = (rounds_unique prime w2 second_irreducible (suc k) b2 y' a2 y g2 h2).1 in
          same_pair prime w1 w2 first_irreducible related pair (subst₂ (λ u v. PairOf p (suc n) t1 t2 u v s' r') ex ey pair')

module _ {p n : ℕ} {t1 t2 : List ℕ} (prime : Prime p) (w1 : Words p (suc n) t1) (w2 : Words p (suc n) t2) where
  pub second_holds : {s r : List ℕ} → TowerPair p (suc n) t1 t2 s r → PairHolds p (suc n) t1 t2 s r
  second_holds {s} {r} h = by_count h.k h.k_is.0 h.k_is.1 h.alpha1_is h.alpha2_is
    where
      by_count : (k : ℕ) → 1 ≤ k → suc n ≡ p ^ k → Rounds p (suc n) t1 k h.a1 h.alpha1 → Rounds p (suc n) t2 k h.a2 h.alpha2 → PairHolds p (suc n) t1 t2 s r
      by_count zero low size h1 h2 = absurd (omega arith)
      by_count (suc k) low size h1 h2 = holds prime k size w1 w2 h1 h2 h.pair_is

  pub second_unique : {s r s' r' : List ℕ} → TowerPair p (suc n) t1 t2 s r → TowerPair p (suc n) t1 t2 s' r' → (s ≡ s') × (r ≡ r')
  second_unique {s} {r} {s'} {r'} h h' =
      let exponents : h'.k ≡ h.k = sym (exponent_found p (suc n) prime.0 h'.k h'.k_is.0 h'.k_is.1) ∙ exponent_found p (suc n) prime.0 h.k h.k_is.0 h.k_is.1 in
      by_count h.k h.k_is.0 h.k_is.1 h.alpha1_is h.alpha2_is
      (subst (λ k. Rounds p (suc n) t1 k h'.a1 h'.alpha1) exponents h'.alpha1_is) (subst (λ k. Rounds p (suc n) t2 k h'.a2 h'.alpha2) exponents h'.alpha2_is)
    where
      by_count : (k : ℕ) → 1 ≤ k → suc n ≡ p ^ k → Rounds p (suc n) t1 k h.a1 h.alpha1 → Rounds p (suc n) t2 k h.a2 h.alpha2
          → Rounds p (suc n) t1 k h'.a1 h'.alpha1 → Rounds p (suc n) t2 k h'.a2 h'.alpha2 → (s ≡ s') × (r ≡ r')
      by_count zero low size h1 h2 g1 g2 = absurd (omega arith)
      by_count (suc k) low size h1 h2 g1 g2 = same prime k size w1 w2 h1 h2 g1 g2 h.pair_is h'.pair_is
