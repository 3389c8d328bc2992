-- The pair is read off the map. If f preserves sums, products and one, then f(u) = f(u(X)) = u(f(X)): f is u ↦ u(S) for S = f(X), and T1(S) = f(T1(X)) = f(0) = 0. If f is
-- onto, some R has f(R) = X, that is R(S) = X. An accepted pair with this forward map has X(S') = S', for n = 1 because T1(S') = 0; so S' = f(X) = S. And f(R') = R'(S) = X = f(R),
-- so that R' = R where f is one-to-one.
use mathlib.Core.Path.{◌≡◌, sym, ap, ◌∙◌}
use mathlib.Core.List.{List}
use Prim.Native.Nat.{ℕ, suc, ◌≤◌}
use native.Mathlib.Omega.{arith}
use Rattle.array.specs.Words.{Words}
use Rattle.array.proofs.Words.{of_length, to_length}
use Rattle.pair.specs.Pair.{forward, check_number}
use Rattle.pair.proofs.Theorem.{checker_theorem}
use Rattle.pair.proofs.TwoCongruences.{first_congruence, two_congruences}
use Rattle.quotient.specs.Divisor.{HasDivisor}
use Rattle.quotient.specs.Map.{Preserves}
use Rattle.quotient.specs.Residue.{constant, residue_of_x, modulus_at}
use Rattle.quotient.proofs.Operations.{constant_words, residue_of_x_words}
use Rattle.quotient.proofs.Substitution.{modulus_at_x, preserves_modulus_at, preserves_substitute, substitute_x, x_substitute, zero-substitute}
use Rattle.refusal.specs.Models.{Models}
use Rattle.isomorphisms.specs.Theorem.{Isomorphism, IsForward, OnePair}

module _ {p n : ℕ} {t1 t2 : List ℕ} (big : 2 ≤ p) (w1 : Words p (suc n) t1) (w2 : Words p (suc n) t2) {f : List ℕ → List ℕ} (h : Preserves p t1 t2 f) where
  pub image_words : Words p (suc n) (f (residue_of_x p t1))
  image_words = of_length w2 (h.residues (residue_of_x p t1) (to_length w1 (residue_of_x_words big w1)))

  pub image_forward : IsForward p (suc n) t2 (f (residue_of_x p t1)) f
  unfolding forward
  image_forward u wu = ap f (sym (substitute_x big w1 wu)) ∙ preserves_substitute big w1 w2 f h (residue_of_x_words big w1) u

  pub image_root : modulus_at p t2 (f (residue_of_x p t1)) t1 ≡ constant (suc n) 0
  unfolding forward
  image_root =
      sym (preserves_modulus_at big w1 w2 f h (residue_of_x_words big w1) t1) ∙ ap f (modulus_at_x big w1)
      ∙ image_forward (constant (suc n) 0) (constant_words (suc n) (omega arith)) ∙ zero-substitute big w2 image_words (suc n)

module _ {p n : ℕ} {t1 t2 : List ℕ} (g : Models p (suc n) t1 t2) {f : List ℕ → List ℕ} (iso : Isomorphism p (suc n) t1 t2 f) where
  abbrev S : List ℕ
  S = f (residue_of_x p t1)

  abbrev big : 2 ≤ p
  big = g.prime.0

  is_forward : IsForward p (suc n) t2 S f
  is_forward = image_forward big g.modulus1 g.modulus2 iso.preserves

  -- a pair with the same forward map is the same pair
  only_pair : (r s' r' : List ℕ) → check_number p (suc n) t1 t2 S r ≡ 0 → check_number p (suc n) t1 t2 s' r' ≡ 0 → IsForward p (suc n) t2 s' f → (s' ≡ S) × (r' ≡ r)
  unfolding forward
  only_pair r s' r' accepted accepted' same =
      let (given, _, c, _) = (checker_theorem p (suc n) t1 t2 S r).0 accepted in
      let (given', _, c', _) = (checker_theorem p (suc n) t1 t2 s' r').0 accepted' in
      let x_at_s' = x_substitute big g.modulus1 g.modulus2 given'.words_s (first_congruence g.modulus2 c') in (
        sym (same (residue_of_x p t1) (residue_of_x_words big g.modulus1) ∙ x_at_s'),
        iso.one_to_one r' r given'.words_r given.words_r
            (same r' given'.words_r ∙ c'.r_of_s ∙ sym (is_forward r given.words_r ∙ c.r_of_s)),
      )

  pub one_pair : (HasDivisor p t1 → ⊥) → (HasDivisor p t2 → ⊥) → OnePair p (suc n) t1 t2 f
  unfolding forward
  one_pair none1 none2 =
      let (r, wr, e) = iso.onto (residue_of_x p t2) (residue_of_x_words big g.modulus2) in
      let ws : Words p (suc n) S = image_words big g.modulus1 g.modulus2 iso.preserves in
      let accepted : check_number p (suc n) t1 t2 S r ≡ 0
      = (checker_theorem p (suc n) t1 t2 S r).1 (record { models = g; words_s = ws; words_r = wr }) none1 none2
      (two_congruences big g.modulus1 g.modulus2 ws wr (image_root big g.modulus1 g.modulus2 iso.preserves) (sym (is_forward r wr) ∙ e)) in
      record { s = S; r = r; accepted = accepted; is_forward = is_forward; only = λ s' r'. only_pair r s' r' accepted }
