-- u(S) is the sum of the u_i·S^i. Induction on u, for S^k·u(S) and the powers from k on: a word more in front of u adds c·S^k, and leaves
-- S^(k + 1)·u(S).
--   term k u    S^k·u(S)
use mathlib.Core.Path.{◌≡◌, refl, sym, ap, ap₂, ◌∙◌}
use mathlib.Core.List.{List, [], ◌∷◌}
use Prim.Native.Nat.{ℕ, zero, suc, ◌+◌, ◌*◌, ◌%◌, ◌≤◌, ◌<◌}
use native.Mathlib.Omega.{arith}
use lib.ListN.{get_or}
use Rattle.algebra.specs.Ring.{CommutativeRing, numeral}
use Rattle.algebra.specs.Ring as Ring
use Rattle.algebra.proofs.RingLaws as RingLaws
use Rattle.array.specs.Words.{Words, none, more}
use Rattle.array.proofs.Words.{words_length}
use Rattle.quotient.specs.Residue.{Residue, sum, scale, constant, power, substitute}
use Rattle.quotient.specs.Theorem.{sum_of_powers}
use Rattle.quotient.proofs.Evaluation.{evaluate, evaluate-nil, evaluate-cons, repeated_is}
use Rattle.quotient.proofs.Operations.{constant_words, sum_words, scale_words, power_words}
use Rattle.quotient.proofs.Ring.{residue_ring, add_residue, zero_residue, constant_residue, repeated-scale, power_is}
use Rattle.quotient.proofs.Substitution.{substitute_is}

-- the words of a sum and of a multiple

pub sum_word : {p n : ℕ} {u v : List ℕ} → Words p n u → Words p n v → (i : ℕ) → i < n → get_or (sum p u v) i 0 ≡ (get_or u i 0 + get_or v i 0) % p
unfolding sum
sum_word none none i l = absurd (omega arith)
sum_word (more h w) (more k v) zero l = refl
sum_word (more h w) (more k v) (suc i) l = sum_word w v i (omega arith)

pub scale_word : {p n : ℕ} (c : ℕ) {u : List ℕ} → Words p n u → (i : ℕ) → i < n → get_or (scale p c u) i 0 ≡ (c * get_or u i 0) % p
unfolding scale
scale_word c none i l = absurd (omega arith)
scale_word c (more h w) zero l = refl
scale_word c (more h w) (suc i) l = scale_word c w i (omega arith)

pub sum_of_powers_words : {p n : ℕ} {t s : List ℕ} → 2 ≤ p → Words p n t → Words p n s → (k : ℕ) (u : List ℕ) → Words p n (sum_of_powers p t s k u)
unfolding sum_of_powers
sum_of_powers_words {n = n} big wt ws k [] = rw (words_length wt) (constant_words n (omega arith))
sum_of_powers_words big wt ws k (c ∷ u) = sum_words (scale_words c (power_words big wt ws k)) (sum_of_powers_words big wt ws (suc k) u)

-- P·(c + s·e) = c·P + (s·P)·e
word_more : {A : Type 0} (R : CommutativeRing A) (P c s e : A) → R.mul P (R.add c (R.mul s e)) ≡ R.add (R.mul c P) (R.mul (R.mul s P) e)
word_more R P c s e =
    R.mul-add P c (R.mul s e) ∙ ap₂ R.add (R.mul_comm P c) (sym (R.mul_assoc P s e) ∙ ap (λ x. R.mul x e) (R.mul_comm P s))

module _ {p n : ℕ} {t : List ℕ} (big : 2 ≤ p) (wt : Words p n t) (s : Residue p n) where
  term : ℕ → List ℕ → Residue p n
  term k u = (residue_ring big wt).mul (Ring.power (residue_ring big wt) s k) (evaluate (residue_ring big wt) u s)

  term-nil : (k : ℕ) → (term k []).0 ≡ constant n 0
  unfolding term residue_ring zero_residue constant_residue
  term-nil k = ap (λ x. x.0) (ap ((residue_ring big wt).mul (Ring.power (residue_ring big wt) s k)) (evaluate-nil (residue_ring big wt) s) ∙ RingLaws.mul-zero (residue_ring big wt) _)

  scale_is : (c : ℕ) (u : Residue p n) → ((residue_ring big wt).mul (numeral (residue_ring big wt) c) u).0 ≡ scale p c u.0
  unfolding residue_ring
  scale_is c u = ap (λ x. x.0) (sym (repeated_is (residue_ring big wt) c u)) ∙ repeated-scale big c u

  term-cons : (k c : ℕ) (u : List ℕ) → (term k (c ∷ u)).0 ≡ sum p (scale p c (power p t s.0 k)) (term (suc k) u).0
  unfolding term residue_ring add_residue
  term-cons k c u =
      let R : CommutativeRing (Residue p n) = residue_ring big wt in
      ap (λ x. x.0) (ap (R.mul (Ring.power R s k)) (evaluate-cons R c u s) ∙ word_more R (Ring.power R s k) (numeral R c) s (evaluate R u s))
      ∙ ap₂ (sum p) (scale_is c (Ring.power R s k) ∙ ap (scale p c) (sym (power_is big wt s k))) (ap (λ x. (R.mul x (evaluate R u s)).0) (sym (RingLaws.power-suc R s k)))

  term_sum : (k : ℕ) (u : List ℕ) → (term k u).0 ≡ sum_of_powers p t s.0 k u
  unfolding sum_of_powers
  term_sum k [] = term-nil k ∙ ap (λ l. constant l 0) (sym (words_length wt))
  term_sum k (c ∷ u) = term-cons k c u ∙ ap (sum p (scale p c (power p t s.0 k))) (term_sum (suc k) u)

  substitute-term : (u : List ℕ) → substitute p t s.0 u ≡ (term 0 u).0
  unfolding term
  substitute-term u =
      let R : CommutativeRing (Residue p n) = residue_ring big wt in
      substitute_is big wt s u
      ∙ ap (λ x. x.0) (sym (ap (λ x. R.mul x (evaluate R u s)) (RingLaws.power_zero R s) ∙ RingLaws.one-mul R (evaluate R u s)))

  pub substitute_sum : (u : List ℕ) → substitute p t s.0 u ≡ sum_of_powers p t s.0 0 u
  substitute_sum u = substitute-term u ∙ term_sum 0 u
