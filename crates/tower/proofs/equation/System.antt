-- The system of v^p = v + a: the matrix s is that of u ↦ u^p − u with a in column 0. Row i of s times u is word i of w^p − w + u[0]·a, for w = (0, u[1], …, u[n − 1]): s takes u to 0
-- exactly if w^p = w − u[0]·a.
use mathlib.Core.Path.{◌≡◌, sym, ap, ◌∙◌}
use mathlib.Core.List.{List, [], ◌∷◌}
use Prim.Native.Nat.{ℕ, suc, ◌+◌, ◌-◌, ◌*◌, ◌%◌, ◌≤◌, ◌<◌}
use native.Mathlib.Nat.{add_comm, mod-add-mod, mul-zero, zero-add, zero-mod}
use native.Mathlib.Omega.{arith}
use lib.ListN.{length, get_or, take}
use lib.Seq.{get_or-take}
use Rattle.algebra.specs.Prime.{Prime}
use Rattle.array.specs.Array.{entry, row_product}
use Rattle.array.specs.Words.{Words}
use Rattle.array.proofs.Padded.{words_at}
use Rattle.array.proofs.Words.{words_length, words_same}
use Rattle.linear.specs.System.{Solves}
use Rattle.matrix.specs.Matrix.{Placed}
use Rattle.matrix.proofs.FrobeniusMatrix.{power_x_words}
use Rattle.quotient.specs.Residue.{sum, scale, power}
use Rattle.quotient.proofs.Frobenius.{frobenius_substitutes}
use Rattle.quotient.proofs.Operations.{sum_words, scale_words, power_words}
use Rattle.quotient.proofs.SumOfPowers.{sum_word, scale_word}
use Rattle.scalar.proofs.ShiftedMatrix.{row_same, shifted_word}
use Rattle.tower.specs.Equation.{Differences}
use Rattle.tower.proofs.equation.Congruences.{row_equation, equation_row}

-- another column 0
row_first : (s c : List ℕ) (i b : ℕ) (f : List ℕ) → ((k : ℕ) → 1 ≤ k → k < 1 + length f → entry s i k ≡ entry c i k)
    → row_product s i 0 (b ∷ f) ≡ row_product c i 0 (0 ∷ f) + entry s i 0 * b
unfolding row_product
row_first s c i b f same =
    ap (λ x. entry s i 0 * b + x) (row_same c s i 1 f same) ∙ add_comm (entry s i 0 * b) (row_product c i 1 f)
    ∙ ap (λ x. x + entry s i 0 * b) (sym (ap (λ x. x + row_product c i 1 f) (mul-zero (entry c i 0)) ∙ zero-add (row_product c i 1 f)))

module _ {p n : ℕ} {t b c s : List ℕ} (prime : Prime p) (short : suc n ≤ 16) (wt : Words p (suc n) t) (wa : Words p (suc n) (take (suc n) b))
    (matrix : Differences p (suc n) t c) (placed : Placed (suc n) 0 b c s) where
  abbrev a : List ℕ
  a = take (suc n) b

  module _ (u : ℕ) {f : List ℕ} (w : Words p (suc n) (0 ∷ f)) where
    abbrev X : ℕ → ℕ
    X i = get_or (power p t (0 ∷ f) p) i 0

    row_is : (i : ℕ) → i < suc n → row_product s i 0 (u ∷ f) % p ≡ (X i + (p - 1) * get_or (0 ∷ f) i 0 + get_or a i 0 * u) % p
    row_is i l =
        let same : row_product s i 0 (u ∷ f) ≡ row_product c i 0 (0 ∷ f) + get_or a i 0 * u =
        row_first s c i u f (λ k low high. placed.others i k (omega (arith, words_length w)) (omega arith))
        ∙ ap (λ x. row_product c i 0 (0 ∷ f) + x * u) (placed.words i l ∙ sym (get_or-take (suc n) b i 0 l)) in
        let word : row_product c i 0 (0 ∷ f) % p ≡ (X i + (p - 1) * get_or (0 ∷ f) i 0) % p =
        shifted_word prime wt (power_x_words prime.0 wt) matrix.frobenius 1 prime.0 matrix.shifted w i l
        ∙ ap (λ x. (get_or x i 0 + (p - 1) * get_or (0 ∷ f) i 0) % p) (sym (frobenius_substitutes prime wt (0 ∷ f, w))) in
        ap (λ x. x % p) same ∙ sym (mod-add-mod (row_product c i 0 (0 ∷ f)) p (get_or a i 0 * u)) ∙ ap (λ x. (x + get_or a i 0 * u) % p) word
        ∙ mod-add-mod (X i + (p - 1) * get_or (0 ∷ f) i 0) p (get_or a i 0 * u)

    module _ (below : u < p) where
      -- word i of w − u·a
      right_is : (i : ℕ) → i < suc n → get_or (sum p (0 ∷ f) (scale p (p - u) a)) i 0 ≡ (get_or (0 ∷ f) i 0 + (p - u) * get_or a i 0 % p) % p
      right_is i l = sum_word w (scale_words (p - u) wa) i l ∙ ap (λ x. (get_or (0 ∷ f) i 0 + x) % p) (scale_word (p - u) wa i l)

      pub system_equation : Solves p (suc n) s [] (u ∷ f) → power p t (0 ∷ f) p ≡ sum p (0 ∷ f) (scale p (p - u) a)
      system_equation h =
          words_same (power_words prime.0 wt w p) (sum_words w (scale_words (p - u) wa))
          (λ i l. row_equation p (X i) (get_or (0 ∷ f) i 0) (get_or a i 0) u prime.0 (omega arith) (words_at (power_words prime.0 wt w p) i l) (sym (row_is i l) ∙ h i l ∙ zero-mod p)
          ∙ sym (right_is i l))

      pub equation_system : power p t (0 ∷ f) p ≡ sum p (0 ∷ f) (scale p (p - u) a) → Solves p (suc n) s [] (u ∷ f)
      equation_system e i l =
          row_is i l ∙ equation_row p (X i) (get_or (0 ∷ f) i 0) (get_or a i 0) u prime.0 (omega arith) (ap (λ x. get_or x i 0) e ∙ right_is i l) ∙ sym (zero-mod p)
