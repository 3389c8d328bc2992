-- The matrix whose columns are the powers of X^p is that of u ↦ u^p for a prime p, since u^p = u(X^p). It takes the conjugate u^(p^k) to the next, u^(p^(k+1)).
use mathlib.Core.Path.{◌≡◌, sym, ap, subst, ◌∙◌}
use mathlib.Core.List.{List}
use Prim.Native.Nat.{ℕ, ◌+◌, ◌≤◌}
use native.Mathlib.Numerals.{add-one}
use lib.ListN.{take}
use Rattle.algebra.specs.Prime.{Prime}
use Rattle.array.specs.Array.{padded, Holds, Square}
use Rattle.array.specs.Words.{Words}
use Rattle.array.proofs.Padded.{front_is, holds_is}
use Rattle.quotient.specs.Residue.{power, conjugate, residue_of_x}
use Rattle.quotient.proofs.Conjugates.{conjugate_words, conjugate-power}
use Rattle.quotient.proofs.Frobenius.{frobenius_substitutes}
use Rattle.quotient.proofs.Operations.{power_words, residue_of_x_words}
use Rattle.matrix.specs.Matrix.{Powers, Frobenius, matrix_product}
use Rattle.matrix.proofs.PowerMatrix.{powers_square, product_substitutes}

pub power_x_words : {p n : ℕ} {t : List ℕ} → 2 ≤ p → Words p n t → Words p n (power p t (residue_of_x p t) p)
power_x_words {p} big wt = power_words big wt (residue_of_x_words big wt) p

pub frobenius_applies : {p n : ℕ} {t m u : List ℕ} (prime : Prime p) → Words p n t → Frobenius p n t m → Words p n u → matrix_product p n m u ≡ power p t u p
frobenius_applies {u = u} prime wt h wu = product_substitutes prime.0 wt (power_x_words prime.0 wt) h wu ∙ sym (frobenius_substitutes prime wt (u, wu))

-- the same of arrays that hold T and X^p

pub frobenius_square : (p n : ℕ) (t m : List ℕ) → Prime p → Holds p n t → Frobenius p n (take n t) m → Square p n m
frobenius_square p n t m prime ht h = powers_square prime.0 ht.words (power_x_words prime.0 ht.words) h

module _ (p n : ℕ) (t x : List ℕ) (big : 2 ≤ p) (ht : Holds p n t) (e : x ≡ padded (power p (take n t) (residue_of_x p (take n t)) p)) where
  pub power_x_holds : Holds p n x
  power_x_holds = holds_is e (power_x_words big ht.words)

  pub powers_frobenius : (m : List ℕ) → Powers p n (take n t) (take n x) m → Frobenius p n (take n t) m
  powers_frobenius m h = subst (λ s. Powers p n (take n t) s m) (front_is e (power_x_words big ht.words)) h

-- an array that holds the conjugate a^(p^k)
module _ (p n : ℕ) (t a : List ℕ) (prime : Prime p) (ht : Holds p n t) (wa : Words p n a) (k : ℕ) (u : List ℕ) (e : u ≡ padded (conjugate p (take n t) a k)) where
  pub conjugate_holds : Holds p n u
  conjugate_holds = holds_is e (conjugate_words prime.0 ht.words wa k)

  pub conjugate_next : (m w : List ℕ) → Frobenius p n (take n t) m → w ≡ padded (matrix_product p n m (take n u)) → w ≡ padded (conjugate p (take n t) a (k + 1))
  conjugate_next m w h f =
      let wk : Words p n (conjugate p (take n t) a k) = conjugate_words prime.0 ht.words wa k in
      f ∙ ap padded (ap (matrix_product p n m) (front_is e wk) ∙ frobenius_applies prime ht.words h wk ∙ conjugate-power prime.0 ht.words wa k ∙ ap (conjugate p (take n t) a) (sym (add-one k)))
