-- When D divides a polynomial, by its lower words: for every list h there is one list l of deg D words such that D divides the monic polynomial T
-- with the lower words l ++ h. For T modulo D is l + H·X^m, where m = deg D and H is the monic polynomial of h, and X^m = −d modulo D: so l is H·d modulo D.
--   low_words p d h   that list l: H·d modulo D, by Horner's rule
use mathlib.Core.Path.{◌≡◌, sym, ap, ap₂, ◌∙◌}
use mathlib.Core.Bool.{true}
use mathlib.Core.List.{List, [], ◌∷◌, ◌++◌, append_assoc}
use Prim.Native.Nat.{ℕ, suc, ◌≤◌}
use lib.ListN.{length}
use Rattle.array.specs.Words.{Words}
use Rattle.array.proofs.Words.{words_length, append_words}
use Rattle.quotient.specs.Residue.{Residue, sum, scale, times_x}
use Rattle.quotient.specs.Divisor.{monic}
use Rattle.quotient.specs.DivisorTest.{divides_test}
use Rattle.quotient.proofs.Action.{PolynomialModule, add_cancel, linear_zero, act, act_linear, act-add, act-append, act_word, act-monic, multiple-one, iterate, iterate-act}
use Rattle.quotient.proofs.Operations.{residue_path}
use Rattle.quotient.proofs.Ring.{residue_module, residue_ring, add_residue, one_residue, multiple_is, act_one, modulus_vanishes}
use Rattle.quotient.proofs.Substitution.{evaluate_x}
use Rattle.quotient.proofs.Reduction.{reduce}
use Rattle.quotient.proofs.Divisor.{zero_divides, divides_zero}
use Rattle.quotient.proofs.Decision.{test_divides, divides_test_lem}

unfoldable pub low_words : ℕ → List ℕ → List ℕ → List ℕ
low_words p d [] = d
low_words p d (a ∷ h) = sum p (scale p a d) (times_x p d (low_words p d h))

module _ {p m : ℕ} {d : List ℕ} (big : 2 ≤ p) (wd : Words p (suc m) d) where
  abbrev K : PolynomialModule p (Residue p (suc m))
  K = residue_module big wd

  abbrev one : Residue p (suc m)
  one = one_residue big

  -- the lower words of D as a residue
  abbrev D : Residue p (suc m)
  D = (d, wd)

  pub low_words_is : (h : List ℕ) → low_words p d h ≡ (act K (monic h) D).0
  unfolding low_words monic act residue_module add_residue
  low_words_is [] = ap (λ u. u.0) (sym (act_word K 1 D ∙ multiple-one K D))
  low_words_is (a ∷ h) = ap₂ (λ x y. sum p x (times_x p d y)) (sym (multiple_is big wd a D)) (low_words_is h)

  -- d + X^m = 0 modulo D
  lower_opposite : K.add D (iterate K (length d) one) ≡ K.zero
  unfolding residue_module
  lower_opposite = ap (λ u. K.add u (iterate K (length d) one)) (sym (act_one big wd D)) ∙ sym (act-monic K d one) ∙ modulus_vanishes big wd one

  -- H·X^m modulo D
  higher : List ℕ → Residue p (suc m)
  higher h = act K (monic h) (iterate K (length d) one)

  -- H·d + H·X^m = 0 modulo D
  low_opposite : (h : List ℕ) → K.add (act K (monic h) D) (higher h) ≡ K.zero
  unfolding higher
  low_opposite h =
      sym (act-add K (monic h) D (iterate K (length d) one)) ∙ ap (act K (monic h)) lower_opposite ∙ linear_zero (act_linear K (monic h))

  module _ {k : ℕ} {l h : List ℕ} (wl : Words p (suc m) l) (wh : Words p k h) where
    -- T modulo D is l + H·X^m
    remainder_parts : act K (monic (l ++ h)) one ≡ K.add (l, wl) (higher h)
    unfolding monic higher
    remainder_parts =
        ap (λ f. act K f one) (append_assoc l h (1 ∷ [])) ∙ act-append K l (monic h) one
        ∙ ap₂ K.add (act_one big wd (l, wl))
        (iterate-act K (length l) (monic h) one ∙ ap (λ j. act K (monic h) (iterate K j one)) (words_length wl ∙ sym (words_length wd)))

    test_zero : divides_test p d (l ++ h) ≡ true → act K (monic (l ++ h)) one ≡ K.zero
    unfolding reduce residue_ring residue_module
    test_zero e = sym (evaluate_x big wd (monic (l ++ h))) ∙ divides_zero big wd (l ++ h) (test_divides big wd (append_words wl wh) e)

    zero_test : act K (monic (l ++ h)) one ≡ K.zero → divides_test p d (l ++ h) ≡ true
    unfolding reduce residue_ring residue_module
    zero_test e = divides_test_lem big wd (append_words wl wh) (zero_divides big wd (l ++ h) (evaluate_x big wd (monic (l ++ h)) ∙ e))

    -- l + H·X^m = 0 only where l = H·d
    pub low_divides : divides_test p d (l ++ h) ≡ true → l ≡ low_words p d h
    low_divides e =
        let zeros : K.add (higher h) (l, wl) ≡ K.add (higher h) (act K (monic h) D)
        = K.add_comm _ _ ∙ sym remainder_parts ∙ test_zero e ∙ sym (low_opposite h) ∙ K.add_comm _ _ in
        ap (λ u. u.0) (add_cancel K (higher h) (l, wl) (act K (monic h) D) zeros) ∙ sym (low_words_is h)

    pub divides_low : l ≡ low_words p d h → divides_test p d (l ++ h) ≡ true
    divides_low e =
        let same : (l, wl) ≡ act K (monic h) D = residue_path (e ∙ low_words_is h) in
        zero_test (remainder_parts ∙ ap (λ u. K.add u (higher h)) same ∙ low_opposite h)
