-- From a common relation to a root. Let Q(α) = 0 modulo T1 and Q(γ) = 0 modulo T2 for a monic Q of the same degree, the powers of α
-- independent, and P(α) = X modulo T1. Then S = P(γ) modulo T2 is a root of T1: u ↦ u(α) and u ↦ u(γ) preserve sums and products on the
-- residues modulo Q, the first is injective and takes T1(P) to T1(X) = 0, so T1(P) = 0 modulo Q, and the second takes it to T1(S).
use mathlib.Core.Path.{◌≡◌, sym, ap, ◌∙◌}
use mathlib.Core.List.{List}
use Prim.Native.Nat.{ℕ, suc, ◌≤◌}
use native.Mathlib.Omega.{arith}
use Rattle.array.specs.Words.{Words}
use Rattle.quotient.specs.Residue.{constant, residue_of_x, substitute, modulus_at}
use Rattle.quotient.proofs.Operations.{constant_words, modulus_at_words}
use Rattle.quotient.proofs.Substitution.{substitution_preserves, preserves_modulus_at, zero-substitute, modulus_at_x}
use Rattle.galois.specs.Express.{Independent}

module _ {p n : ℕ} {t q a : List ℕ} (big : 2 ≤ p) (wt : Words p (suc n) t) (wq : Words p (suc n) q) (wa : Words p (suc n) a)
    (root : modulus_at p t a q ≡ constant (suc n) 0) where
  -- (M(P))(α) = M(P(α))
  substitute-modulus_at : {f : List ℕ} → Words p (suc n) f → (m : List ℕ) → substitute p t a (modulus_at p q f m) ≡ modulus_at p t (substitute p t a f) m
  substitute-modulus_at wf m =
      preserves_modulus_at big wq wt (substitute p t a) (substitution_preserves big wq wt wa root) wf m

  -- T(P) = 0 modulo Q
  relation : Independent p (suc n) t a → {f : List ℕ} → Words p (suc n) f → substitute p t a f ≡ residue_of_x p t → modulus_at p q f t ≡ constant (suc n) 0
  relation independent {f} wf expresses =
      independent (modulus_at p q f t) (constant (suc n) 0) (modulus_at_words big wq wf wt) (constant_words (suc n) (omega arith))
      (substitute-modulus_at wf t ∙ ap (λ x. modulus_at p t x t) expresses ∙ modulus_at_x big wt ∙ sym (zero-substitute big wt wa (suc n)))

pub transfer_root : {p n : ℕ} {t1 t2 q a g f : List ℕ} → 2 ≤ p → Words p (suc n) t1 → Words p (suc n) t2 → Words p (suc n) q → Words p (suc n) a → Words p (suc n) g
    → modulus_at p t1 a q ≡ constant (suc n) 0 → modulus_at p t2 g q ≡ constant (suc n) 0 → Independent p (suc n) t1 a → Words p (suc n) f
    → substitute p t1 a f ≡ residue_of_x p t1 → modulus_at p t2 (substitute p t2 g f) t1 ≡ constant (suc n) 0
transfer_root {p} {n} {t1} {t2} {q} {a} {g} {f} big w1 w2 wq wa wg root1 root2 independent wf expresses =
    sym (substitute-modulus_at big w2 wq wg root2 wf t1) ∙ ap (substitute p t2 g) (relation big w1 wq wa root1 independent wf expresses) ∙ zero-substitute big w2 wg (suc n)
