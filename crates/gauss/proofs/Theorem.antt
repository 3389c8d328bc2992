-- Gauss's formula: X^(p^n) − X is the product of all models whose degree divides n, each once, so their degrees add up to p^n.
use mathlib.Core.Path.{◌≡◌, sym, subst, ◌∙◌}
use mathlib.Core.List.{List}
use Prim.Native.Nat.{ℕ, zero, suc, ◌-◌, ◌%◌, ◌^◌, ◌≤◌}
use native.Mathlib.Nat.{dvd_of_mod-eq-zero, le_of_dvd}
use native.Mathlib.Omega.{arith}
use borrow.Author.Tests.{eqb-true, eq-eqb}
use lib.Dec.{eqb}
use Rattle.algebra.specs.Lists.{Member, Distinct, range}
use Rattle.algebra.specs.Prime.{Prime}
use Rattle.algebra.proofs.Search.{filter_member, member_filter, range_bounds, range_distinct, range_member}
use Rattle.array.specs.Words.{Words}
use Rattle.quotient.specs.Divisor.{HasDivisor}
use Rattle.quotient.proofs.Divisor.{divides_itself}
use Rattle.catalogue.proofs.Theorem.{every_model}
use Rattle.gauss.specs.Gauss.{divisors, GaussFormula}
use Rattle.gauss.proofs.DegreeSum.{Factor, AllFactors, degree_is_sum}
use Rattle.gauss.proofs.ModelList.{distinct_filter, list_of, list_degrees, list_distinct, list_member, member_list}
use Rattle.gauss.proofs.PowerMinusX.{power_minus_x, size_is, power_minus_x_words, degree_divides, divides_degree}

-- the divisors of n + 1
module _ (n : ℕ) where
  divisors_distinct : Distinct (divisors (suc n))
  unfolding divisors
  divisors_distinct = distinct_filter (λ m. eqb (suc n % m) 0) (range 1 (suc n)) (range_distinct 1 (suc n))

  divisor_divides : (m : ℕ) → Member m (divisors (suc n)) → (1 ≤ m) × (suc n % m ≡ 0)
  unfolding divisors
  divisor_divides m l =
      let (i, e) = filter_member (λ m. eqb (suc n % m) 0) (range 1 (suc n)) m l in ((range_bounds 1 (suc n) m i).0, eqb-true (suc n % m) 0 e)

  divisor_listed : (m : ℕ) → 1 ≤ m → suc n % m ≡ 0 → Member m (divisors (suc n))
  unfolding divisors
  divisor_listed m low h =
      let high : m ≤ suc n = le_of_dvd (omega arith) (dvd_of_mod-eq-zero m h) in
      member_filter (λ m. eqb (suc n % m) 0) (range 1 (suc n)) m (range_member 1 (suc n) m low (omega arith)) (eq-eqb (suc n % m) 0 h)

module _ {p : ℕ} (prime : Prime p) (n : ℕ) where
  abbrev k : ℕ
  k = p ^ suc n - 2

  size : suc (suc k) ≡ p ^ suc n
  size = size_is p n prime.0

  model_divides : (d : List ℕ) → Member d (list_of p (divisors (suc n))) → Factor p (power_minus_x p k) d
  model_divides d l =
      let (m, i, o) = list_member p (divisors (suc n)) d l in
      let (low, h) = divisor_divides n m i in
      of_degree m low h (((every_model p m prime.0).1 d).0 o)
    where
      of_degree : (m : ℕ) → 1 ≤ m → suc n % m ≡ 0 → Words p m d × (HasDivisor p d → ⊥) → Factor p (power_minus_x p k) d
      of_degree zero low h irreducible = absurd (omega arith)
      of_degree (suc m) low h irreducible =
          record { degree = m; irreducible = irreducible; divides = divides_degree prime irreducible.0 (suc n) k size irreducible.1 h }

  factor_listed : (d : List ℕ) → Factor p (power_minus_x p k) d → Member d (list_of p (divisors (suc n)))
  factor_listed d f =
      let (wd, none) = f.irreducible in
      let m : ℕ = suc f.degree in
      member_list p (divisors (suc n)) d m (divisor_listed n m (omega arith) (degree_divides prime wd (suc n) k size none f.divides))
      (((every_model p m prime.0).1 d).1 (wd, none))

  all_factors : AllFactors prime (suc n) k size (p ^ suc n) (power_minus_x p k) (list_of p (divisors (suc n)))
  all_factors =
      record {
        words = subst (λ j. Words p j (power_minus_x p k)) size (power_minus_x_words prime.0 k);
        divides = λ i w. divides_itself prime.0 w;
        distinct = list_distinct p prime.0 (divisors (suc n)) (divisors_distinct n);
        sound = model_divides;
        complete = factor_listed;
      }

pub gauss_formula : GaussFormula
gauss_formula p n prime =
    list_degrees p prime.0 (divisors (suc n))
    ∙ sym (degree_is_sum prime (suc n) (k prime n) (size prime n) (list_of p (divisors (suc n))) (p ^ suc n) (power_minus_x p (k prime n)) (all_factors prime n))
