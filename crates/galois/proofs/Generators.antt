-- From a common relation to a pair of inverse maps. Let α1 modulo T1 and α2 modulo T2 be generators with one relation: the powers of each are independent,
-- and Q(α1) = 0, Q(α2) = 0 for one monic Q of degree n. With Pi(αi) = X, the map X ↦ S = P1(α2) modulo T2 preserves sums and products and sends α1 to α2,
-- hence f(α1) to f(α2) for every polynomial f. So R = P2(α1) goes to P2(α2) = X; and P0(α1), the S of a map from T0 to T1, goes to
-- P0(α2), so that the map to T1 followed by that to T2 is the map to T2.
--   Generator p n q t a       the n words a have independent powers modulo T, and Q(a) = 0 modulo T
--   Related p n t1 t2 a1 a2   a1 modulo T1 and a2 modulo T2 are generators with one relation Q
use mathlib.Core.Path.{◌≡◌, sym, ap, ◌∙◌}
use mathlib.Core.List.{List}
use Prim.Native.Nat.{ℕ, suc, ◌≤◌}
use Rattle.array.specs.Words.{Words}
use Rattle.quotient.specs.Residue.{constant, residue_of_x, substitute, modulus_at}
use Rattle.quotient.proofs.Operations.{residue_of_x_words, substitute_words}
use Rattle.quotient.proofs.Substitution.{substitute-substitute, substitute_x, x_substitute}
use Rattle.galois.specs.Express.{express, Independent}
use Rattle.galois.proofs.Express.{express_is}
use Rattle.galois.proofs.Transfer.{transfer_root}

pub record Generator (p n : ℕ) (q t a : List ℕ) : Type 0 where
  pub words : Words p n a
  pub root : modulus_at p t a q ≡ constant n 0
  pub independent : Independent p n t a

pub record Related (p n : ℕ) (t1 t2 a1 a2 : List ℕ) : Type 0 where
  pub q : List ℕ
  pub q_words : Words p n q
  pub first : Generator p n q t1 a1
  pub second : Generator p n q t2 a2

module _ {p n : ℕ} {t1 t2 a1 a2 : List ℕ} (big : 2 ≤ p) (w1 : Words p (suc n) t1) (w2 : Words p (suc n) t2) (h : Related p (suc n) t1 t2 a1 a2) where
  abbrev q : List ℕ
  q = h.q

  wq : Words p (suc n) q
  wq = h.q_words

  g1 : Generator p (suc n) q t1 a1
  g1 = h.first

  g2 : Generator p (suc n) q t2 a2
  g2 = h.second

  abbrev p1 : List ℕ
  p1 = express p t1 a1

  words1 : Words p (suc n) p1
  words1 = (express_is big w1 g1.words g1.independent).0

  value1 : substitute p t1 a1 p1 ≡ residue_of_x p t1
  value1 = (express_is big w1 g1.words g1.independent).1

  abbrev s : List ℕ
  s = substitute p t2 a2 p1

  pub forward_words : Words p (suc n) s
  forward_words = substitute_words big w2 g2.words words1

  pub forward_root : modulus_at p t2 s t1 ≡ constant (suc n) 0
  forward_root = transfer_root big w1 w2 wq g1.words g2.words g1.root g2.root g1.independent words1 value1

  -- α1(P1) = X modulo Q, because the powers of α1 are independent
  inverse_relation : substitute p q p1 a1 ≡ residue_of_x p q
  inverse_relation =
      g1.independent (substitute p q p1 a1) (residue_of_x p q) (substitute_words big wq words1 g1.words) (residue_of_x_words big wq)
      (substitute-substitute big wq w1 g1.words g1.root words1 a1 ∙ ap (λ x. substitute p t1 x a1) value1 ∙ substitute_x big w1 g1.words
      ∙ sym (x_substitute big wq w1 g1.words g1.root))

  pub generator_image : substitute p t2 s a1 ≡ a2
  generator_image =
      sym (substitute-substitute big wq w2 g2.words g2.root words1 a1) ∙ ap (substitute p t2 a2) inverse_relation ∙ x_substitute big wq w2 g2.words g2.root

  -- f(α1) goes to f(α2)
  pub polynomial_image : (f : List ℕ) → substitute p t2 s (substitute p t1 a1 f) ≡ substitute p t2 a2 f
  polynomial_image f = substitute-substitute big w1 w2 forward_words forward_root g1.words f ∙ ap (λ x. substitute p t2 x f) generator_image

  abbrev r : List ℕ
  r = substitute p t1 a1 (express p t2 a2)

  pub backward_words : Words p (suc n) r
  backward_words = substitute_words big w1 g1.words (express_is big w2 g2.words g2.independent).0

  pub backward_image : substitute p t2 s r ≡ residue_of_x p t2
  backward_image = polynomial_image (express p t2 a2) ∙ (express_is big w2 g2.words g2.independent).1
