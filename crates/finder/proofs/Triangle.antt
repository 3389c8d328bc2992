-- Round the triangle. The α of two of the models satisfy one relation, so S_BC takes S_AB = P_A(α_B) to P_A(α_C) = S_AC. The back map is the forward map of the
-- models exchanged, so it goes round the other way. At the end: a model has n scalings.
use mathlib.Core.Path.{◌≡◌, sym, ap, ap₂, ◌∙◌}
use mathlib.Core.List.{List}
use Prim.Native.Nat.{ℕ, zero, suc}
use native.Mathlib.Omega.{arith}
use Rattle.array.specs.Words.{Words}
use Rattle.quotient.specs.Divisor.{HasDivisor}
use Rattle.quotient.specs.Residue.{substitute}
use Rattle.quotient.proofs.Substitution.{substitute-substitute}
use Rattle.galois.specs.Express.{express}
use Rattle.galois.proofs.Generators.{forward_words, forward_root, polynomial_image}
use Rattle.finder.specs.Construct.{Size}
use Rattle.finder.specs.Finder.{generator, find_s, find_r}
use Rattle.finder.specs.Scalings.{ScalingsAreCounted}
use Rattle.finder.specs.Triangle.{Triangle, TriangleTheorem}
use Rattle.finder.proofs.ChosenPair.{generators_related, found_exchanged}
use Rattle.finder.proofs.Eigenvectors.{scalings_found}
use Rattle.finder.proofs.Findable.{model_admissible, model_size}

module _ {p n : ℕ} (h : Size p (suc n)) where
  module _ {a b c : List ℕ} (wa : Words p (suc n) a) (wb : Words p (suc n) b) (wc : Words p (suc n) c)
      (ia : HasDivisor p a → ⊥) (ib : HasDivisor p b → ⊥) (ic : HasDivisor p c → ⊥) where
    -- S_AC = S_AB(S_BC)
    polynomials : find_s p (suc n) a c ≡ substitute p c (find_s p (suc n) b c) (find_s p (suc n) a b)
    unfolding find_s
    polynomials = sym (polynomial_image h.prime.0 wb wc (generators_related h wb wc ib ic) (express p a (generator p (suc n) a)))

    maps : (u : List ℕ) → Words p (suc n) u → substitute p c (find_s p (suc n) b c) (substitute p b (find_s p (suc n) a b) u) ≡ substitute p c (find_s p (suc n) a c) u
    unfolding find_s
    maps u wu =
        let bc = generators_related h wb wc ib ic in
        substitute-substitute h.prime.0 wb wc (forward_words h.prime.0 wb wc bc) (forward_root h.prime.0 wb wc bc)
        (forward_words h.prime.0 wa wb (generators_related h wa wb ia ib)) u
        ∙ ap (λ s. substitute p c s u) (sym polynomials)

  triangle_of : {a b c : List ℕ} → Words p (suc n) a → Words p (suc n) b → Words p (suc n) c
      → (HasDivisor p a → ⊥) → (HasDivisor p b → ⊥) → (HasDivisor p c → ⊥) → Triangle p (suc n) a b c
  triangle_of {a} {b} {c} wa wb wc ia ib ic =
      let ab : find_r p (suc n) a b ≡ find_s p (suc n) b a = found_exchanged h wa wb ia ib in
      let bc : find_r p (suc n) b c ≡ find_s p (suc n) c b = found_exchanged h wb wc ib ic in
      let ac : find_r p (suc n) a c ≡ find_s p (suc n) c a = found_exchanged h wa wc ia ic in
      record {
        forward = maps wa wb wc ia ib ic;
        back = λ u wu. ap₂ (λ s r. substitute p a s (substitute p b r u)) ab bc ∙ maps wc wb wa ic ib ia u wu ∙ ap (λ s. substitute p a s u) (sym ac);
        forward_polynomial = polynomials wa wb wc ia ib ic;
        back_polynomial = ac ∙ polynomials wc wb wa ic ib ia ∙ sym (ap₂ (substitute p a) ab bc);
        exchanged = (sym ab, found_exchanged h wb wa ib ia);
      }

pub triangle_theorem : TriangleTheorem
triangle_theorem p zero a b c ma mb mc findable ia ib ic = absurd (omega (arith, ma.degree.0))
triangle_theorem p (suc n) a b c ma mb mc findable ia ib ic =
    triangle_of (model_size p (suc n) a ma findable) ma.modulus mb.modulus mc.modulus ia ib ic

pub scalings_counted : ScalingsAreCounted
scalings_counted p zero t m divides irreducible = absurd (omega (arith, m.degree.0))
scalings_counted p (suc n) t m divides irreducible = scalings_found (model_admissible p (suc n) t m divides) m.modulus irreducible
