-- The degrees of the factors of X^(p^n) − X add up to p^n. More generally: if T divides it, and a list without repetition has exactly the divisors of T that
-- have themselves no proper divisor, then their degrees add up to that of T. Induction on the list: T = E·D for its first D; no square divides T, so D does not
-- divide E, and the others are exactly the divisors of E of that kind; where the list is empty, T has no divisor of that kind, so its degree is 0.
--   Factor p t d        d gives a monic divisor of T of degree at least 1 without proper divisors
--   degree_sum ds       the sum of the degrees
--   AllFactors j t ds   T is of degree j and divides X^(p^n) − X, and ds has exactly its factors, each once
use mathlib.Core.Path.{◌≡◌, refl, subst}
use mathlib.Core.List.{List, [], ◌∷◌}
use mathlib.Core.Logic.{inl, inr, ⊎_elim}
use Prim.Native.Nat.{ℕ, zero, suc, ◌+◌, ◌-◌, ◌^◌}
use native.Mathlib.Omega.{arith}
use lib.ListN.{length}
use Rattle.algebra.specs.Lists.{Member, Distinct}
use Rattle.algebra.specs.Prime.{Prime}
use Rattle.algebra.proofs.Lists.{member_equal}
use Rattle.array.specs.Words.{Words}
use Rattle.array.proofs.Words.{words_length}
use Rattle.quotient.specs.Divisor.{Same, Divides, polynomial_product, monic}
use Rattle.quotient.proofs.Cofactor.{cofactor}
use Rattle.quotient.proofs.Descent.{irreducible_divisor}
use Rattle.quotient.proofs.Divisor.{divides_transitive}
use Rattle.gauss.proofs.Factors.{Irreducible, divisor_degree, divides_factor, divides_irreducible}
use Rattle.gauss.proofs.PowerMinusX.{power_minus_x}
use Rattle.gauss.proofs.SquareFree.{square_free}

pub record Factor (p : ℕ) (t d : List ℕ) : Type 0 where
  pub degree : ℕ
  pub irreducible : Irreducible p degree d
  pub divides : Divides p d t

unfoldable pub degree_sum : List (List ℕ) → ℕ
degree_sum [] = 0
degree_sum (d ∷ ds) = length d + degree_sum ds

module _ {p : ℕ} (prime : Prime p) (n k : ℕ) (size : suc (suc k) ≡ p ^ n) where
  pub record AllFactors (j : ℕ) (t : List ℕ) (ds : List (List ℕ)) : Type 0 where
    pub words : Words p j t
    pub divides : (i : ℕ) → Words p (suc i) t → Divides p t (power_minus_x p k)
    pub distinct : Distinct ds
    pub sound : (d : List ℕ) → Member d ds → Factor p t d
    pub complete : (d : List ℕ) → Factor p t d → Member d ds

  -- the first factor apart
  module _ {i : ℕ} {t d : List ℕ} {ds : List (List ℕ)} (h : AllFactors (suc i) t (d ∷ ds)) where
    first : Factor p t d
    first = h.sound d (inl refl)

    rest : (j : ℕ) → suc i ≡ suc first.degree + j → (e : List ℕ) → Words p j e → Same p (polynomial_product p (monic e) (monic d)) (monic t) → AllFactors j e ds
    rest j l e we same =
        record {
          words = we;
          divides = λ o w. divides_transitive prime.0 w t (power_minus_x p k) e_divides (h.divides i h.words);
          distinct = h.distinct.1;
          sound = λ c m. by_factor c m (h.sound c (inr m));
          complete = λ c f. ⊎_elim (λ q. absurd (apart (subst (λ b. Divides p b e) q f.divides))) (λ m. m) (h.complete c (of_cofactor c f));
        }
      where
        e_divides : Divides p e t
        e_divides = (monic d, same)

        apart : Divides p d e → ⊥
        apart = square_free d prime h.words we (omega arith) same n k size (h.divides i h.words)

        of_cofactor : (c : List ℕ) → Factor p e c → Factor p t c
        of_cofactor c f =
            record { degree = f.degree; irreducible = f.irreducible; divides = divides_transitive prime.0 f.irreducible.0 e t f.divides e_divides }

        by_factor : (c : List ℕ) → Member c ds → Factor p t c → Factor p e c
        by_factor c m f =
            ⊎_elim (λ g. record { degree = f.degree; irreducible = f.irreducible; divides = g })
            (λ g. absurd (h.distinct.0 (member_equal ds (divides_irreducible prime.0 f.irreducible.0 first.irreducible g) m)))
            (divides_factor prime f.irreducible e d t same f.divides)

  pub degree_is_sum : (ds : List (List ℕ)) (j : ℕ) (t : List ℕ) → AllFactors j t ds → j ≡ degree_sum ds
  unfolding degree_sum
  degree_is_sum [] zero t h = refl
  degree_is_sum [] (suc j) t h =
      let (m, d, l, wd, g, irreducible) = irreducible_divisor p j t prime.0 h.words in
      absurd (h.complete d (record { degree = m; irreducible = (wd, irreducible); divides = g }))
  degree_is_sum (d ∷ ds) zero t h =
      let f = h.sound d (inl refl) in
      absurd (omega (arith, divisor_degree prime.0 f.irreducible.0 h.words f.divides))
  degree_is_sum (d ∷ ds) (suc i) t h =
      let f = first h in
      let low = divisor_degree prime.0 f.irreducible.0 h.words f.divides in
      let j : ℕ = suc i - suc f.degree in
      let l : suc i ≡ suc f.degree + j = omega arith in
      let (e, we, same) = cofactor prime.0 f.irreducible.0 t f.divides j (suc i) l h.words in
      omega (arith, degree_is_sum ds j e (rest h j l e we same), words_length f.irreducible.0)
