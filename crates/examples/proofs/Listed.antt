-- The values that the documents list for two models are the finder's if they pass their tests. No residue is searched for: whatever passes the test of a search is what it finds. αi is
-- a multiple k·v of an n-th root v of a constant, whose first coefficient that is not zero is 1. S = P1(α2) needs no P1: the forward map preserves sums and products and sends α1
-- to α2, and P1(α1) = X, so S = X(S) = P1(α1)(S) = P1(α1(S)) = P1(α2).
--   Listed p n t z a v b k          v is an n-th root of b, and k is the smallest factor with k^n·b = a
--   AlphaListed p n t z a x         then T has no proper divisor, and x = k·v is α; its powers are independent
--   ListedPair p n t1 t2 z a x y s r   the checker accepts the pair, n divides p − 1, ζ and a are found among the numbers from 1 to p − 1, and the forward map sends α1 to α2
--   found                           then the finder finds these values, and its answer is 0
--   outputs                         and it writes S and R
use mathlib.Core.Path.{◌≡◌, sym, ap, ap₂, ◌∙◌, subst}
use mathlib.Core.Bool.{false}
use mathlib.Core.List.{List, [], ◌∷◌}
use mathlib.Core.Logic.{inl}
use Prim.Native.Nat.{ℕ, suc, ◌-◌, ◌/◌, ◌%◌, ◌^◌, ◌≤◌}
use lib.ListN.{length}
use Rattle.roots.specs.Roots.{zeta, radicand, root_of_ratio, Admissible, OrderModulo, Radicand}
use Rattle.roots.proofs.Radicands.{radicands_solvable}
use Rattle.galois.specs.Eigenvector.{alpha, first_non_zero, Alpha, Normalised}
use Rattle.galois.specs.Express.{express, Independent}
use Rattle.galois.proofs.Alpha.{alpha_found, alpha_is}
use Rattle.galois.proofs.Express.{express_is, express_unique}
use Rattle.galois.proofs.Generates.{constant_radicand, eigenvectors_related}
use Rattle.galois.proofs.NoDivisor.{no_divisor}
use Rattle.galois.proofs.Root.{RootOfConstant, root_normalised}
use Rattle.galois.proofs.RootIndependent.{root_independent}
use Rattle.finder.specs.Finder.{generator, find_s, find_r, find_output_s, find_output_r}
use Rattle.finder.proofs.Eigenvectors.{generator_first, zeta_found, radicand_found}
use Rattle.finder.proofs.Findable.{models_admissible}
use Rattle.finder.proofs.Theorem.{demand_3}
use Rattle.pair.specs.Pair.{Congruences, check_number}
use Rattle.pair.proofs.Theorem.{checker_theorem}
use Rattle.pair.proofs.TwoCongruences.{first_congruence}
use Rattle.refusal.specs.Refusal.{bad_length, bad_word}
use Rattle.refusal.proofs.Lists.{words_given}
use Rattle.array.specs.Words.{Words}
use Rattle.quotient.specs.Divisor.{HasDivisor}
use Rattle.quotient.specs.Residue.{power, constant, modulus_at, scale, substitute}
use Rattle.quotient.proofs.Substitution.{substitute-substitute, x_substitute}
use Rattle.examples.specs.Examples.{FinderValues}
use Rattle.refusal.specs.Models.{Given}

pub record Listed (p n : ℕ) (t : List ℕ) (z a : ℕ) (v : List ℕ) (b k : ℕ) : Type 0 where
  root : RootOfConstant p n t z v b
  k_is : root_of_ratio p n a b ≡ k

-- a multiple of an n-th root of a constant, from its tests
pub listed : {p n : ℕ} {t : List ℕ} {z a : ℕ} (v : List ℕ) (b k : ℕ) → bad_length n (v ∷ []) ≡ false → bad_word p (v ∷ []) ≡ false → first_non_zero v ≡ 1
    → power p t v n ≡ constant n b → b ^ ((p - 1) / n) % p ≡ z → root_of_ratio p n a b ≡ k → Listed p n t z a v b k
listed {p} {n} v b k length_is words_are first_non_zero_is power_is eigenvalue_is k_is =
    record {
      root = record { words = (words_given p n (v ∷ []) length_is words_are).0; first_non_zero_is = first_non_zero_is; power_is = power_is; eigenvalue_is = eigenvalue_is };
      k_is = k_is;
    }

record AlphaListed (p n : ℕ) (t : List ℕ) (z a : ℕ) (x : List ℕ) : Type 0 where
  irreducible : HasDivisor p t → ⊥
  alpha_is : alpha p n t z a ≡ x
  words : Words p n x
  independent : Independent p n t x

module _ {p n : ℕ} (h : Admissible p (suc n)) where
  abbrev z : ℕ
  z = zeta p (suc n)

  abbrev a : ℕ
  a = radicand p (suc n) z

  alpha_listed : {t v : List ℕ} {b k : ℕ} → Words p (suc n) t → Listed p (suc n) t z a v b k → AlphaListed p (suc n) t z a (scale p k v)
  alpha_listed {t} {v} {b} {k} wt l =
      let order : OrderModulo p (suc n) z = (zeta_found h).2 in
      let root : Normalised p (suc n) t z v b = root_normalised h.prime wt h.divides l.root in
      let none : HasDivisor p t → ⊥ = no_divisor h.prime wt z order root.eigenvector b root.power_is in
      let ra : Radicand p (suc n) z a = record { positive = (radicand_found h).0; below = (radicand_found h).1; power_is = (radicand_found h).2 } in
      let rb : Radicand p (suc n) z b = constant_radicand h.prime wt z order root.eigenvector b root.power_is h.divides (zeta_found h).1 in
      let least = (radicands_solvable p (suc n) z a b h ra rb).smallest in
      let value : alpha p (suc n) t z a ≡ scale p k v = alpha_found h.prime wt none z root a _ least ∙ ap (λ c. scale p c v) l.k_is in
      let is : Alpha p (suc n) t z a (scale p k v) = subst (Alpha p (suc n) t z a) value (alpha_is h.prime wt none z root a _ least) in
      record {
        irreducible = none;
        alpha_is = value;
        words = is.eigenvector.words;
        independent = (eigenvectors_related h.prime wt wt z order is.eigenvector is.eigenvector a is.root_is is.root_is).first.independent;
      }

record ListedPair (p n : ℕ) (t1 t2 : List ℕ) (z a : ℕ) (x y s r : List ℕ) : Type 0 where
  accepted : check_number p n t1 t2 s r ≡ 0
  divides : (p - 1) % n ≡ 0
  zeta_is : zeta p n ≡ z
  a_is : radicand p n z ≡ a
  first : AlphaListed p n t1 z a x
  second : AlphaListed p n t2 z a y
  image_is : substitute p t2 s x ≡ y

module _ {p n : ℕ} {t1 t2 : List ℕ} {z a : ℕ} {x y s r : List ℕ} (h : ListedPair p (suc n) t1 t2 z a x y s r) where
  given : Given p (suc n) t1 t2 s r
  given = ((checker_theorem p (suc n) t1 t2 s r).0 h.accepted).0

  congruences : Congruences p t1 t2 s r
  congruences = ((checker_theorem p (suc n) t1 t2 s r).0 h.accepted).2

  root_of_t1 : modulus_at p t2 s t1 ≡ constant (suc n) 0
  root_of_t1 = first_congruence given.models.modulus2 congruences

  abbrev big : 2 ≤ p
  big = given.models.prime.0

  abbrev w1 : Words p (suc n) t1
  w1 = given.models.modulus1

  abbrev w2 : Words p (suc n) t2
  w2 = given.models.modulus2

  generator_is : (t : List ℕ) {u : List ℕ} → alpha p (suc n) t z a ≡ u → generator p (suc n) t ≡ u
  generator_is t e = generator_first p (suc n) t h.divides ∙ ap₂ (alpha p (suc n) t) h.zeta_is (ap (radicand p (suc n)) h.zeta_is ∙ h.a_is) ∙ e

  s_is : find_s p (suc n) t1 t2 ≡ s
  unfolding find_s
  s_is =
      ap₂ (λ u v. substitute p t2 u (express p t1 v)) (generator_is t2 h.second.alpha_is ∙ sym h.image_is) (generator_is t1 h.first.alpha_is)
      ∙ sym (substitute-substitute big w1 w2 given.words_s root_of_t1 h.first.words (express p t1 x))
      ∙ ap (substitute p t2 s) (express_is big w1 h.first.words h.first.independent).1
      ∙ x_substitute big w1 w2 given.words_s root_of_t1

  r_is : find_r p (suc n) t1 t2 ≡ r
  unfolding find_r
  r_is =
      ap (express p t2) s_is
      ∙ express_unique big w2 given.words_s
      (root_independent given.models.prime w1 w2 h.first.irreducible given.words_s root_of_t1)
      r given.words_r congruences.r_of_s

  values_found : FinderValues p (suc n) t1 t2 z a x y s r
  values_found =
      record {
        zeta_is = h.zeta_is;
        a_is = h.a_is;
        alpha1_is = h.first.alpha_is;
        alpha2_is = h.second.alpha_is;
        s_is = s_is;
        r_is = r_is;
        number_is = λ lent_s lent_r length_s length_r.
            ((demand_3 p (suc n) t1 t2 given.models).returns (inl h.divides) lent_s lent_r length_s length_r).1 (h.first.irreducible, h.second.irreducible);
      }

pub found : {p n : ℕ} {t1 t2 : List ℕ} {z a : ℕ} {v1 v2 : List ℕ} {b1 b2 k1 k2 : ℕ} {s r : List ℕ}
    → check_number p (suc n) t1 t2 s r ≡ 0 → (p - 1) % suc n ≡ 0 → zeta p (suc n) ≡ z → radicand p (suc n) z ≡ a → Listed p (suc n) t1 z a v1 b1 k1 → Listed p (suc n) t2 z a v2 b2 k2
    → substitute p t2 s (scale p k1 v1) ≡ scale p k2 v2 → FinderValues p (suc n) t1 t2 z a (scale p k1 v1) (scale p k2 v2) s r
found {p} {n} {t1} {t2} {z} {a} {v1} {v2} {b1} {b2} {k1} {k2} {s} {r} accepted divides zeta_is a_is listed1 listed2 image_is =
    let models = ((checker_theorem p (suc n) t1 t2 s r).0 accepted).0.models in
    let h : Admissible p (suc n) = models_admissible p (suc n) t1 t2 models divides in
    let same : radicand p (suc n) (zeta p (suc n)) ≡ a = ap (radicand p (suc n)) zeta_is ∙ a_is in
    values_found record {
      accepted = accepted;
      divides = divides;
      zeta_is = zeta_is;
      a_is = a_is;
      first = moved same (alpha_listed h models.modulus1 (back same listed1));
      second = moved same (alpha_listed h models.modulus2 (back same listed2));
      image_is = image_is;
    }
  where
    moved : {t x : List ℕ} → radicand p (suc n) (zeta p (suc n)) ≡ a → AlphaListed p (suc n) t (zeta p (suc n)) (radicand p (suc n) (zeta p (suc n))) x → AlphaListed p (suc n) t z a x
    moved {t} {x} same l = subst (λ k. AlphaListed p (suc n) t k a x) zeta_is (subst (λ k. AlphaListed p (suc n) t (zeta p (suc n)) k x) same l)

    back : {t v : List ℕ} {b k : ℕ} → radicand p (suc n) (zeta p (suc n)) ≡ a → Listed p (suc n) t z a v b k → Listed p (suc n) t (zeta p (suc n)) (radicand p (suc n) (zeta p (suc n))) v b k
    back {t} {v} {b} {k} same l = subst (λ c. Listed p (suc n) t (zeta p (suc n)) c v b k) (sym same) (subst (λ c. Listed p (suc n) t c a v b k) (sym zeta_is) l)

pub outputs : {p n : ℕ} {t1 t2 : List ℕ} {z a : ℕ} {alpha1 alpha2 s r : List ℕ} → FinderValues p n t1 t2 z a alpha1 alpha2 s r
    → (lent_s lent_r : List ℕ) → length lent_s ≡ n → length lent_r ≡ n → (find_output_s p n t1 t2 lent_s lent_r ≡ s) × (find_output_r p n t1 t2 lent_s lent_r ≡ r)
unfolding find_output_s find_output_r
outputs h lent_s lent_r length_s length_r =
    let e = h.number_is lent_s lent_r length_s length_r in
    (rw (e, h.s_is), rw (e, h.r_is))
