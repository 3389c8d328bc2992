-- The kernel of u ↦ u^p − z·u on residues modulo T. In row i, M − z has the product of row i of M with u, minus z times word i of u; where the
-- columns of M are the powers of X^p, that product is word i of u(X^p) = u^p. So (M − z)·u = 0 says u^p = z·u.
use mathlib.Core.Path.{◌≡◌, refl, sym, ap, ◌∙◌}
use mathlib.Core.Bool.{true, false}
use mathlib.Core.List.{List, []}
use Prim.Native.Nat.{ℕ, ◌+◌, ◌-◌, ◌*◌, ◌%◌, ◌≤◌, ◌<◌}
use native.Mathlib.Nat.{add_assoc, add_comm, add-mul-mod_self_left, mod-add-mod, mod-eq_of_lt, mul-mod_right, zero-add, zero-mod}
use native.Mathlib.Omega.{arith}
use lib.ListN.{get_or, take, replicate}
use Rattle.algebra.specs.Prime.{Prime}
use Rattle.array.specs.Array.{Square, Holds}
use Rattle.linear.specs.System.{Solves, Outcome}
use Rattle.array.specs.Words.{Words}
use Rattle.quotient.specs.Residue.{scale, power, residue_of_x, substitute}
use Rattle.quotient.proofs.Frobenius.{frobenius_substitutes}
use Rattle.quotient.proofs.Operations.{constant-zero, scale_words, substitute_words}
use Rattle.array.proofs.Words.{words_same}
use Rattle.matrix.specs.Matrix.{Powers, Frobenius}
use Rattle.quotient.proofs.SumOfPowers.{scale_word}
use Rattle.matrix.proofs.FrobeniusMatrix.{power_x_words}
use Rattle.array.proofs.Padded.{words_at}
use Rattle.frobenius.specs.Kernel.{Kernel, TrivialKernel}
use Rattle.scalar.specs.Shifted.{Shifted}
use Rattle.scalar.proofs.ShiftedMatrix.{shifted_word, shifted_square, complement}

-- a + (p − z)·x = 0 says a = z·x
module _ (p z a x : ℕ) (below : z < p) where
  cancel : (p - z) * x + z * x ≡ p * x
  cancel = complement p z x (omega arith)

  equal_of_zero : a < p → (a + (p - z) * x) % p ≡ 0 → a ≡ z * x % p
  equal_of_zero l h =
      let regroup : a + p * x ≡ a + (p - z) * x + z * x = ap (λ y. a + y) (sym cancel) ∙ sym (add_assoc a ((p - z) * x) (z * x)) in
      sym (mod-eq_of_lt l) ∙ sym (add-mul-mod_self_left a p x) ∙ ap (λ y. y % p) regroup ∙ sym (mod-add-mod (a + (p - z) * x) p (z * x)) ∙ ap (λ y. (y + z * x) % p) h
      ∙ ap (λ y. y % p) (zero-add (z * x))

  zero_of_equal : a ≡ z * x % p → (a + (p - z) * x) % p ≡ 0
  zero_of_equal e =
      ap (λ y. (y + (p - z) * x) % p) e ∙ mod-add-mod (z * x) p ((p - z) * x) ∙ ap (λ y. y % p) (add_comm (z * x) ((p - z) * x) ∙ cancel) ∙ mul-mod_right p x

module _ {p n : ℕ} {t s m c : List ℕ} (prime : Prime p) (wt : Words p n t) (ws : Words p n s) (powers : Powers p n t s m) (z : ℕ) (below : z < p) (shifted : Shifted p n z m c)
  where
    abbrev big : 2 ≤ p
    big = prime.0

    kernel_value : {f : List ℕ} → Words p n f → Solves p n c [] f → substitute p t s f ≡ scale p z f
    kernel_value {f} wf h =
        words_same (substitute_words big wt ws wf) (scale_words z wf)
        (λ i l. equal_of_zero p z (get_or (substitute p t s f) i 0) (get_or f i 0) below (words_at (substitute_words big wt ws wf) i l)
        (sym (shifted_word prime wt ws powers z below shifted wf i l) ∙ h i l ∙ zero-mod p)
        ∙ sym (scale_word z wf i l))

    value_kernel : {f : List ℕ} → Words p n f → substitute p t s f ≡ scale p z f → Solves p n c [] f
    value_kernel {f} wf e i l =
        shifted_word prime wt ws powers z below shifted wf i l
        ∙ zero_of_equal p z (get_or (substitute p t s f) i 0) (get_or f i 0) below (ap (λ u. get_or u i 0) e ∙ scale_word z wf i l)
        ∙ sym (zero-mod p)

-- the same of arrays, with S = X^p: u(X^p) = u^p

module _ (p n : ℕ) (t m c : List ℕ) (z : ℕ) (prime : Prime p) (below : z < p) (ht : Holds p n t) (frobenius : Frobenius p n (take n t) m) where
  abbrev T : List ℕ
  T = take n t

  words : Words p n (power p T (residue_of_x p T) p)
  words = power_x_words prime.0 ht.words

  module _ (shifted : Shifted p n z m c) where
    pub kernel_square : Square p n c
    kernel_square = shifted_square prime ht.words words frobenius z below shifted

    pub trivial_kernel : (v : List ℕ) → Outcome p n c (replicate 16 0) true v → TrivialKernel p n T z
    trivial_kernel v outcome u wu h =
        (outcome.if_regular refl).trivial u wu
        (value_kernel prime ht.words words frobenius z below shifted wu (sym (frobenius_substitutes prime ht.words (u, wu)) ∙ h))
        ∙ sym (constant-zero n)

    pub kernel_is : (v : List ℕ) → Outcome p n c (replicate 16 0) false v → Kernel p n T z v
    kernel_is v outcome =
        record {
          holds = outcome.holds;
          not_zero = λ h. (outcome.if_singular refl).nonzero (h ∙ constant-zero n);
          power_is =
              frobenius_substitutes prime ht.words (take n v, outcome.holds.words)
              ∙ kernel_value prime ht.words words frobenius z below shifted outcome.holds.words (outcome.if_singular refl).solves;
        }
