-- The pair of two generators with one relation, which both methods share: let Q(α1) = 0 modulo T1 and Q(α2) = 0 modulo T2 for one monic Q, the powers of each independent. Then P1 and R exist
-- and are unique, R is P2(α1), and S and R satisfy the four congruences.
--   PairHolds p n t1 t2 s r   neither modulus has a proper divisor, and S and R are n words each and satisfy the four congruences
use mathlib.Core.Path.{◌≡◌, refl, sym, ap, ◌∙◌, subst}
use mathlib.Core.List.{List}
use Prim.Native.Nat.{ℕ, suc}
use Rattle.algebra.specs.Prime.{Prime}
use Rattle.array.specs.Words.{Words}
use Rattle.pair.specs.Pair.{Congruences}
use Rattle.pair.proofs.TwoCongruences.{two_congruences}
use Rattle.quotient.specs.Divisor.{HasDivisor}
use Rattle.quotient.specs.Residue.{substitute}
use Rattle.galois.specs.Express.{express, Independent}
use Rattle.galois.proofs.Express.{express_is, express_unique}
use Rattle.galois.proofs.Generators.{Generator, Related, forward_words, forward_root, backward_words, backward_image}
use Rattle.galois.proofs.RootIndependent.{root_independent}
use Rattle.finder.specs.Theorem.{PairOf}

pub record PairHolds (p n : ℕ) (t1 t2 s r : List ℕ) : Type 0 where
  pub irreducible1 : HasDivisor p t1 → ⊥
  pub irreducible2 : HasDivisor p t2 → ⊥
  pub words : Words p n s × Words p n r
  pub congruences : Congruences p t1 t2 s r

module _ {p n : ℕ} {t1 t2 a1 a2 : List ℕ} (prime : Prime p) (w1 : Words p (suc n) t1) (w2 : Words p (suc n) t2)
    (irreducible : HasDivisor p t1 → ⊥) (related : Related p (suc n) t1 t2 a1 a2) where
  g1 : Generator p (suc n) related.q t1 a1
  g1 = related.first

  abbrev forward : List ℕ
  forward = substitute p t2 a2 (express p t1 a1)

  words : Words p (suc n) forward
  words = forward_words prime.0 w1 w2 related

  independent : Independent p (suc n) t2 forward
  independent = root_independent prime w1 w2 irreducible words (forward_root prime.0 w1 w2 related)

  pub pair_exists : PairOf p (suc n) t1 t2 a1 a2 forward (express p t2 forward)
  pair_exists =
      record {
        p1 = express p t1 a1;
        p1_is = express_is prime.0 w1 g1.words g1.independent;
        s_is = refl;
        r_is = express_is prime.0 w2 words independent;
      }

  -- R = P2(α1), which S takes to P2(α2) = X
  pub backward_is : express p t2 forward ≡ substitute p t1 a1 (express p t2 a2)
  backward_is =
      express_unique prime.0 w2 words independent (substitute p t1 a1 (express p t2 a2)) (backward_words prime.0 w1 w2 related) (backward_image prime.0 w1 w2 related)

  module _ {s r : List ℕ} (h : PairOf p (suc n) t1 t2 a1 a2 s r) where
    pair_forward : s ≡ forward
    pair_forward = h.s_is ∙ ap (substitute p t2 a2) (sym (express_unique prime.0 w1 g1.words g1.independent h.p1 h.p1_is.0 h.p1_is.1))

    pair_backward : r ≡ express p t2 forward
    pair_backward = sym (express_unique prime.0 w2 words independent r h.r_is.0 (ap (λ u. substitute p t2 u r) (sym pair_forward) ∙ h.r_is.1))

    pub pair_holds : (HasDivisor p t2 → ⊥) → PairHolds p (suc n) t1 t2 s r
    pair_holds irreducible2 =
        record {
          irreducible1 = irreducible;
          irreducible2 = irreducible2;
          words = (subst (Words p (suc n)) (sym pair_forward) words, h.r_is.0);
          congruences = subst (λ u. Congruences p t1 t2 u r) (sym pair_forward)
              (two_congruences prime.0 w1 w2 words h.r_is.0 (forward_root prime.0 w1 w2 related) (ap (λ u. substitute p t2 u r) (sym pair_forward) ∙ h.r_is.1));
        }

  pub same_pair : {s r s' r' : List ℕ} → PairOf p (suc n) t1 t2 a1 a2 s r → PairOf p (suc n) t1 t2 a1 a2 s' r' → (s ≡ s') × (r ≡ r')
  same_pair h h' = (pair_forward h ∙ sym (pair_forward h'), pair_backward h ∙ sym (pair_backward h'))
