-- T1(S) = 0 and R(S) = X modulo T2 give all four congruences, and two maps of which each undoes the other. The forward map preserves and takes
-- R to X, hence u(R) to u; so the backward map is injective. The residues are finitely many and as many on both sides, so it is onto, and
-- backward after forward gives back every residue as well. The other two congruences hold because they hold after the forward map:
-- T2(R) goes to T2(X) = 0, and S(R) goes to S(X) = S, as X does.
use mathlib.Core.Path.{◌≡◌, sym, ap, ◌∙◌}
use mathlib.Core.List.{List}
use Prim.Native.Nat.{ℕ, suc, ◌≤◌}
use native.Mathlib.Omega.{arith}
use Rattle.quotient.specs.Map.{Preserves, Undoes}
use Rattle.array.specs.Words.{Words}
use Rattle.quotient.specs.Residue.{constant, residue_of_x, substitute, modulus_at}
use Rattle.quotient.proofs.Listing as Listing
use Rattle.quotient.proofs.Substitution as Substitution
use Rattle.array.proofs.Words as Words
use Rattle.quotient.proofs.Operations as Operations
use Rattle.pair.specs.Pair.{forward, backward, Congruences}
use Rattle.pair.specs.Theorem.{Isomorphisms}

-- T1(S) = 0 as n words
pub first_congruence : {p n : ℕ} {t1 t2 s r : List ℕ} → Words p n t2 → Congruences p t1 t2 s r → modulus_at p t2 s t1 ≡ constant n 0
first_congruence w2 c = c.root_of_t1 ∙ ap (λ k. constant k 0) (Words.words_length w2)

module _ {p n : ℕ} {t1 t2 s r : List ℕ} (big : 2 ≤ p) (w1 : Words p (suc n) t1) (w2 : Words p (suc n) t2) (ws : Words p (suc n) s) (wr : Words p (suc n) r)
    (root : modulus_at p t2 s t1 ≡ constant (suc n) 0) (inverse : substitute p t2 s r ≡ residue_of_x p t2) where
  backward_words : (u : List ℕ) → Words p (suc n) u → Words p (suc n) (backward p t1 r u)
  unfolding backward
  backward_words u wu = Operations.substitute_words big w1 wr wu

  forward_preserves : Preserves p t1 t2 (forward p t2 s)
  unfolding forward
  forward_preserves = Substitution.substitution_preserves big w1 w2 ws root

  forth_undoes_back : Undoes p (suc n) (forward p t2 s) (backward p t1 r)
  unfolding forward backward
  forth_undoes_back = Substitution.substitution_undoes big w1 w2 ws root wr inverse

  backward_onto : (u : List ℕ) → Words p (suc n) u → (v : List ℕ) × Words p (suc n) v × (backward p t1 r v ≡ u)
  backward_onto =
      Listing.one_to_one_onto p (suc n) (backward p t1 r) backward_words
      (λ a b wa wb e. sym (forth_undoes_back a wa) ∙ ap (forward p t2 s) e ∙ forth_undoes_back b wb)

  back_undoes_forth : Undoes p (suc n) (backward p t1 r) (forward p t2 s)
  back_undoes_forth u wu =
      let (v, wv, e) = backward_onto u wu in
      ap (backward p t1 r) (ap (forward p t2 s) (sym e) ∙ forth_undoes_back v wv) ∙ e

  forward_injective : {u v : List ℕ} → Words p (suc n) u → Words p (suc n) v → forward p t2 s u ≡ forward p t2 s v → u ≡ v
  forward_injective {u} {v} wu wv e = sym (back_undoes_forth u wu) ∙ ap (backward p t1 r) e ∙ back_undoes_forth v wv

  root_of_t2 : modulus_at p t1 r t2 ≡ constant (suc n) 0
  unfolding forward
  root_of_t2 =
      forward_injective (Operations.modulus_at_words big w1 wr w2) (Operations.constant_words (suc n) (omega arith))
      (Substitution.preserves_modulus_at big w1 w2 (forward p t2 s) forward_preserves wr t2 ∙ ap (λ x. modulus_at p t2 x t2) inverse
      ∙ Substitution.modulus_at_x big w2 ∙ sym (Substitution.zero-substitute big w2 ws (suc n)))

  s_of_r : substitute p t1 r s ≡ residue_of_x p t1
  unfolding forward
  s_of_r =
      forward_injective (Operations.substitute_words big w1 wr ws) (Operations.residue_of_x_words big w1)
      (Substitution.substitute-substitute big w1 w2 ws root wr s ∙ ap (λ x. substitute p t2 x s) inverse ∙ Substitution.substitute_x big w2 ws
      ∙ sym (Substitution.x_substitute big w1 w2 ws root))

  pub two_congruences : Congruences p t1 t2 s r
  two_congruences =
      record {
        root_of_t1 = root ∙ ap (λ k. constant k 0) (sym (Words.words_length w2));
        root_of_t2 = root_of_t2 ∙ ap (λ k. constant k 0) (sym (Words.words_length w1));
        s_of_r = s_of_r;
        r_of_s = inverse;
      }

  pub isomorphisms : Isomorphisms p (suc n) t1 t2 s r
  unfolding backward
  isomorphisms =
      record {
        forward_preserves = forward_preserves;
        backward_preserves = Substitution.substitution_preserves big w2 w1 wr root_of_t2;
        back_undoes_forth = back_undoes_forth;
        forth_undoes_back = forth_undoes_back;
      }
