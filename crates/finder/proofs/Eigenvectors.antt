-- The first method: the pair of Algorithm 2.1, where n divides p − 1. α of a model without proper divisors exists, is what the searches find, and is a root of X^n − a, with one a for all
-- models. Any two eigenvectors for one ζ whose n-th powers are one constant satisfy one relation, so that every scaling's pair holds; and each choice is determined by those before it.
use mathlib.Core.Path.{◌≡◌, sym, ap, ◌∙◌, subst}
use mathlib.Core.Bool.{true, false}
use mathlib.Core.List.{List}
use Prim.Native.Nat.{ℕ, suc, ◌-◌, ◌%◌, ◌<◌}
use native.Mathlib.Omega.{arith}
use lib.ListN.{length}
use Rattle.algebra.specs.Prime.{Prime}
use Rattle.algebra.specs.Search.{Smallest}
use Rattle.algebra.proofs.Smallest.{smallest_unique}
use Rattle.array.specs.Words.{Words}
use Rattle.quotient.specs.Divisor.{HasDivisor}
use Rattle.quotient.specs.Residue.{constant, power}
use Rattle.roots.specs.Roots.{zeta, radicand, Admissible, OrderModulo, Radicand, Solvable}
use Rattle.roots.proofs.Radicands.{IsRadicand, radicand_is, radicands_solvable}
use Rattle.roots.proofs.RootOfRatio.{root_of_ratio_positive}
use Rattle.roots.proofs.Zeta.{zeta_is}
use Rattle.galois.specs.Eigenvector.{alpha, scalings, Eigenvector, Alpha, Normalised}
use Rattle.galois.specs.Tower.{exponent, rounds}
use Rattle.galois.proofs.Alpha.{alpha_is, alpha_unique}
use Rattle.galois.proofs.Binomial.{multiple_power}
use Rattle.galois.proofs.FirstNonZero.{normalised, first_non_zero-normalised}
use Rattle.galois.proofs.Generates.{eigenvectors_related, constant_radicand}
use Rattle.galois.proofs.Generators.{Related}
use Rattle.galois.proofs.Irreducible.{eigenvector_exists, power_is_constant}
use Rattle.galois.proofs.Scalings.{scalings_count}
use Rattle.galois.proofs.NoDivisor.{constant_positive, no_divisor}
use Rattle.galois.proofs.ResidueEigenvector.{multiple_eigenvector, normalised_eigenvector}
use Rattle.finder.specs.Finder.{generator}
use Rattle.finder.specs.Stored.{ScaledPair}
use Rattle.finder.specs.Theorem.{PairOf, EigenvectorPair}
use Rattle.finder.proofs.Construction.{PairHolds, pair_holds, same_pair}
use Rattle.finder.proofs.Findable.{divides-true}

-- α where n divides p − 1
pub generator_first : (p n : ℕ) (t : List ℕ) → (p - 1) % n ≡ 0 → generator p n t ≡ alpha p n t (zeta p n) (radicand p n (zeta p n))
unfolding generator
generator_first p n t h =
    ap (λ b. elim b [ true ↦ alpha p n t (zeta p n) (radicand p n (zeta p n)) | false ↦ (rounds p n t (exponent p n)).1 ]) (divides-true p n h)

-- an eigenvector that is normalised

module _ {p n : ℕ} {t : List ℕ} (prime : Prime p) (wt : Words p (suc n) t) (irreducible : HasDivisor p t → ⊥) (z : ℕ) (order : OrderModulo p (suc n) z) where
  normalised_exists : (v : List ℕ) × (b : ℕ) × Normalised p (suc n) t z v b
  normalised_exists =
      let (v, h) = eigenvector_exists prime wt irreducible z order in
      let g : Eigenvector p (suc n) t z (normalised p v) = normalised_eigenvector prime wt h in
      let (b, _, _, e) = power_is_constant prime wt irreducible z order g in
      (normalised p v, b, record { eigenvector = g; first_non_zero_is = first_non_zero-normalised prime h.words h.not_zero; power_is = e })

-- α of a model: it exists, and it generates

module _ {p n : ℕ} (h : Admissible p (suc n)) where
  abbrev ζ : ℕ
  ζ = zeta p (suc n)

  abbrev a : ℕ
  a = radicand p (suc n) ζ

  pub zeta_found : Smallest (OrderModulo p (suc n)) p ζ
  zeta_found = zeta_is p (suc n) h.prime h.low h.high h.divides

  pub radicand_found : Smallest (IsRadicand p (suc n) ζ) p a
  radicand_found = radicand_is p (suc n) ζ h zeta_found.1 zeta_found.2

  module _ {t : List ℕ} (wt : Words p (suc n) t) (irreducible : HasDivisor p t → ⊥) where
    normalised_found : (v : List ℕ) × (b : ℕ) × Normalised p (suc n) t ζ v b × Solvable p (suc n) a b
    normalised_found =
        let (v, b, g) = normalised_exists h.prime wt irreducible ζ zeta_found.2 in
        let r : Radicand p (suc n) ζ b = constant_radicand h.prime wt ζ zeta_found.2 g.eigenvector b g.power_is h.divides zeta_found.1 in
        let r' : Radicand p (suc n) ζ a = record { positive = radicand_found.0; below = radicand_found.1; power_is = radicand_found.2 } in
        (v, b, g, radicands_solvable p (suc n) ζ a b h r' r)

    generator_is : Alpha p (suc n) t ζ a (generator p (suc n) t)
    generator_is =
        let (v, b, g, s) = normalised_found in
        subst (Alpha p (suc n) t ζ a) (sym (generator_first p (suc n) t h.divides)) (alpha_is h.prime wt irreducible ζ g a _ s.smallest)

    pub scalings_found : length (scalings p (suc n) t ζ a) ≡ suc n
    scalings_found = let (v, b, g, s) = normalised_found in scalings_count h wt irreducible ζ zeta_found.1 zeta_found.2 g a s

  module _ {t1 t2 : List ℕ} (w1 : Words p (suc n) t1) (w2 : Words p (suc n) t2) (irreducible1 : HasDivisor p t1 → ⊥) (irreducible2 : HasDivisor p t2 → ⊥) where
    pub first_related : Related p (suc n) t1 t2 (generator p (suc n) t1) (generator p (suc n) t2)
    first_related =
        let g1 = generator_is w1 irreducible1 in
        let g2 = generator_is w2 irreducible2 in
        eigenvectors_related h.prime w1 w2 ζ zeta_found.2 g1.eigenvector g2.eigenvector a g1.root_is g2.root_is

    pub first_pair : {s r : List ℕ} → PairOf p (suc n) t1 t2 (generator p (suc n) t1) (generator p (suc n) t2) s r → EigenvectorPair p (suc n) t1 t2 s r
    first_pair pair =
        record {
          divides = h.divides;
          z = ζ;
          a = a;
          alpha1 = generator p (suc n) t1;
          alpha2 = generator p (suc n) t2;
          z_is = zeta_found;
          a_is = radicand_found;
          alpha1_is = generator_is w1 irreducible1;
          alpha2_is = generator_is w2 irreducible2;
          pair_is = pair;
        }

-- every scaling's pair

module _ {p n : ℕ} {t1 t2 : List ℕ} (prime : Prime p) (w1 : Words p (suc n) t1) (w2 : Words p (suc n) t2) where
  module _ {z : ℕ} (a : ℕ) (order : OrderModulo p (suc n) z) {x y : List ℕ} (hx : Eigenvector p (suc n) t1 z x) (hy : Eigenvector p (suc n) t2 z y)
      (ex : power p t1 x (suc n) ≡ constant (suc n) a) (ey : power p t2 y (suc n) ≡ constant (suc n) a) where
    first_irreducible : HasDivisor p t1 → ⊥
    first_irreducible = no_divisor prime w1 z order hx a ex

    related : Related p (suc n) t1 t2 x y
    related = eigenvectors_related prime w1 w2 z order hx hy a ex ey

    holds : {s r : List ℕ} → PairOf p (suc n) t1 t2 x y s r → PairHolds p (suc n) t1 t2 s r
    holds pair = pair_holds prime w1 w2 first_irreducible related pair (no_divisor prime w2 z order hy a ey)

    same : {s r s' r' : List ℕ} → PairOf p (suc n) t1 t2 x y s r → PairOf p (suc n) t1 t2 x y s' r' → (s ≡ s') × (r ≡ r')
    same = same_pair prime w1 w2 first_irreducible related

  pub scaled_holds : {s r : List ℕ} → ScaledPair p (suc n) t1 t2 s r → PairHolds p (suc n) t1 t2 s r
  scaled_holds h =
      let pos : 0 < h.a1 = constant_positive prime w1 h.z h.z_is h.alpha1_is h.a1 h.a1_is in
      holds h.a1 h.z_is h.alpha1_is
      (multiple_eigenvector prime w2 h.alpha2_is h.c (root_of_ratio_positive p (suc n) h.a1 h.a2 (omega arith) pos h.c h.c_is.1) h.c_is.0)
      h.a1_is (multiple_power prime w2 h.alpha2_is.words h.a2 h.a2_is h.c ∙ ap (constant (suc n)) h.c_is.1) h.pair_is

  pub first_holds : {s r : List ℕ} → EigenvectorPair p (suc n) t1 t2 s r → PairHolds p (suc n) t1 t2 s r
  first_holds h = holds h.a h.z_is.2 h.alpha1_is.eigenvector h.alpha2_is.eigenvector h.alpha1_is.root_is h.alpha2_is.root_is h.pair_is

  -- each choice is determined by those before it
  pub first_unique : {s r s' r' : List ℕ} → EigenvectorPair p (suc n) t1 t2 s r → EigenvectorPair p (suc n) t1 t2 s' r' → (s ≡ s') × (r ≡ r')
  first_unique {s} {r} {s'} {r'} h h' =
      let both : PairHolds p (suc n) t1 t2 s r = first_holds h in
      let same_z : h'.z ≡ h.z = smallest_unique (OrderModulo p (suc n)) p h'.z h.z h'.z_is h.z_is in
      let same_a : h'.a ≡ h.a =
      smallest_unique (IsRadicand p (suc n) h.z) p h'.a h.a (subst (λ k. Smallest (IsRadicand p (suc n) k) p h'.a) same_z h'.a_is) h.a_is in
      let same1 : h'.alpha1 ≡ h.alpha1 =
      alpha_unique prime w1 both.irreducible1 h.z h.a h.alpha1 h'.alpha1 h.alpha1_is (subst (λ k. Alpha p (suc n) t1 h.z k h'.alpha1) same_a (subst (λ k. Alpha p (suc n) t1 k h'.a h'.alpha1) same_z h'.alpha1_is)) in
      let same2 : h'.alpha2 ≡ h.alpha2 =
      alpha_unique prime w2 both.irreducible2 h.z h.a h.alpha2 h'.alpha2 h.alpha2_is (subst (λ k. Alpha p (suc n) t2 h.z k h'.alpha2) same_a (subst (λ k. Alpha p (suc n) t2 k h'.a h'.alpha2) same_z h'.alpha2_is)) in
      same h.a h.z_is.2 h.alpha1_is.eigenvector h.alpha2_is.eigenvector h.alpha1_is.root_is h.alpha2_is.root_is h.pair_is
      (subst (λ x. PairOf p (suc n) t1 t2 x h.alpha2 s' r') same1 (subst (λ y. PairOf p (suc n) t1 t2 h'.alpha1 y s' r') same2 h'.pair_is))
