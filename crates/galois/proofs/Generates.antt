-- An eigenvector v whose n-th power is a constant a generates the residues modulo T: its powers are independent, and it is a root of X^n − a. So two eigenvectors for one z, whose n-th
-- powers are one constant, satisfy one relation. Where n divides p − 1, a^((p − 1)/n) = z.
use mathlib.Core.Path.{◌≡◌}
use mathlib.Core.List.{List}
use Prim.Native.Nat.{ℕ, suc, ◌-◌, ◌*◌, ◌/◌, ◌%◌, ◌<◌}
use native.Mathlib.Nat.{div-add-mod'}
use native.Mathlib.Omega.{arith}
use Rattle.algebra.specs.Prime.{Prime}
use Rattle.array.specs.Words.{Words}
use Rattle.quotient.specs.Divisor.{HasDivisor}
use Rattle.quotient.specs.Residue.{constant, power}
use Rattle.quotient.proofs.Operations.{constant_words}
use Rattle.roots.specs.Roots.{OrderModulo, Radicand}
use Rattle.galois.specs.Eigenvector.{Eigenvector}
use Rattle.galois.proofs.Binomial.{binomial_root}
use Rattle.galois.proofs.Generators.{Generator, Related}
use Rattle.galois.proofs.Irreducible.{constant_root, eigenvector_independent}
use Rattle.galois.proofs.NoDivisor.{constant_positive, no_divisor}
use Rattle.galois.proofs.ResidueConstants.{constant_is_word}

module _ {p n : ℕ} {t v : List ℕ} (prime : Prime p) (wt : Words p (suc n) t) (z : ℕ) (order : OrderModulo p (suc n) z) (h : Eigenvector p (suc n) t z v) (a : ℕ)
    (value : power p t v (suc n) ≡ constant (suc n) a) where
  irreducible : HasDivisor p t → ⊥
  irreducible = no_divisor prime wt z order h a value

  relation_words : Words p (suc n) (constant (suc n) (p - a))
  relation_words = constant_words (suc n) (omega (arith, constant_positive prime wt z order h a value, constant_is_word prime wt (v, h.words) (suc n) a value))

  generates : Generator p (suc n) (constant (suc n) (p - a)) t v
  generates =
      record {
        words = h.words;
        root = binomial_root prime wt h.words a value;
        independent = eigenvector_independent prime wt irreducible z order h;
      }

  pub constant_radicand : (p - 1) % suc n ≡ 0 → z < p → Radicand p (suc n) z a
  constant_radicand divides below =
      let product : suc n * ((p - 1) / suc n) ≡ p - 1 = omega (arith, div-add-mod' (p - 1) (suc n)) in
      record {
        positive = constant_positive prime wt z order h a value;
        below = constant_is_word prime wt (v, h.words) (suc n) a value;
        power_is = constant_root prime wt irreducible z order h ((p - 1) / suc n) a product below value;
      }

pub eigenvectors_related : {p n : ℕ} {t1 t2 x y : List ℕ} → Prime p → Words p (suc n) t1 → Words p (suc n) t2 → (z : ℕ) → OrderModulo p (suc n) z
    → Eigenvector p (suc n) t1 z x → Eigenvector p (suc n) t2 z y → (a : ℕ) → power p t1 x (suc n) ≡ constant (suc n) a → power p t2 y (suc n) ≡ constant (suc n) a
    → Related p (suc n) t1 t2 x y
eigenvectors_related {p} {n} prime w1 w2 z order hx hy a ex ey =
    record {
      q = constant (suc n) (p - a);
      q_words = relation_words prime w1 z order hx a ex;
      first = generates prime w1 z order hx a ex;
      second = generates prime w2 z order hy a ey;
    }
