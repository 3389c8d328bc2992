-- The lower words of the multiples of D, as the sieve works them out: in the residues modulo D they are X^k·D + H·D, and one word more at the end of H adds its multiple of
-- X^k·D to H·D.
use mathlib.Core.Path.{◌≡◌, refl, sym, ap, ap₂, ◌∙◌}
use mathlib.Core.List.{List, [], ◌∷◌, ◌++◌}
use Prim.Native.Nat.{ℕ, zero, suc, ◌/◌, ◌%◌, ◌^◌, ◌≤◌, ◌<◌}
use native.Mathlib.Omega.{arith}
use lib.ListN.{length}
use Rattle.array.specs.Words.{Words}
use Rattle.array.specs.Digits.{digits}
use Rattle.array.proofs.Words.{words_length}
use Rattle.array.proofs.Digits.{digits-length, digits_snoc}
use Rattle.quotient.specs.Residue.{Residue, sum, scale, constant, times_x, product}
use Rattle.quotient.proofs.Action.{PolynomialModule, act, act-append, act_word, act-monic, iterate, iterate-act}
use Rattle.quotient.proofs.Operations.{sum_words, product_words}
use Rattle.quotient.proofs.Ring.{residue_module, add_residue, product-act}
use Rattle.quotient.proofs.Ring as Residues
use Rattle.quotient.proofs.Multiples.{low_words, low_words_is}
use Rattle.matrix.specs.Matrix.{multiple}
use Rattle.matrix.proofs.MultiplicationMatrix.{multiple_words}
use Rattle.sieve.specs.Multiples.{times, lows}

module _ {p m : ℕ} {d : List ℕ} (big : 2 ≤ p) (wd : Words p (suc m) d) where
  abbrev K : PolynomialModule p (Residue p (suc m))
  K = residue_module big wd

  -- the lower words of D as a residue
  abbrev D : Residue p (suc m)
  D = (d, wd)

  multiple_is : (k : ℕ) → multiple p d d k ≡ (iterate K k D).0
  unfolding multiple iterate residue_module
  multiple_is zero = refl
  multiple_is (suc k) = ap (times_x p d) (multiple_is k)

  -- a last word a of u adds a·X^i·d to u·d
  product_last : (u : List ℕ) (a : ℕ) → product p d (u ++ a ∷ []) d ≡ sum p (product p d u d) (scale p a (multiple p d d (length u)))
  unfolding residue_module add_residue
  product_last u a =
      product-act big wd (u ++ a ∷ []) D
      ∙ ap (λ v. v.0) (act-append K u (a ∷ []) D ∙ ap (K.add (act K u D)) (iterate-act K (length u) (a ∷ []) D ∙ act_word K a (iterate K (length u) D)))
      ∙ ap₂ (sum p) (sym (product-act big wd u D)) (Residues.multiple_is big wd a (iterate K (length u) D) ∙ ap (scale p a) (sym (multiple_is (length u))))

  -- H·d = X^k·d + h·d, where H = X^k + h
  low_words-product : (h : List ℕ) → low_words p d h ≡ sum p (multiple p d d (length h)) (product p d h d)
  unfolding residue_module add_residue
  low_words-product h =
      low_words_is big wd h ∙ ap (λ v. v.0) (act-monic K h D ∙ K.add_comm (act K h D) (iterate K (length h) D))
      ∙ ap₂ (sum p) (sym (multiple_is (length h))) (sym (product-act big wd h D))

  pub times_words : (k x : ℕ) → Words p (suc m) (times p d k x)
  unfolding times
  times_words k x = product_words big wd (digits p k x) wd

  -- without words H is 0, and one digit more adds its multiple of X^k·D

  pub times_none : (x : ℕ) → times p d 0 x ≡ constant (suc m) 0
  unfolding times digits product
  times_none x = ap (λ n. constant n 0) (words_length wd)

  pub times_next : (k x : ℕ) → x < p ^ suc k → times p d (suc k) x ≡ sum p (times p d k (x % p ^ k)) (scale p (x / p ^ k) (multiple p d d k))
  unfolding times
  times_next k x l =
      let u : List ℕ = digits p k (x % p ^ k) in
      ap (λ v. product p d v d) (digits_snoc p k x (omega arith) l) ∙ product_last u (x / p ^ k)
      ∙ ap (λ j. sum p (product p d u d) (scale p (x / p ^ k) (multiple p d d j))) (digits-length p k (x % p ^ k))

  pub lows_words : (k x : ℕ) → Words p (suc m) (lows p d k x)
  unfolding lows
  lows_words k x = sum_words (multiple_words big wd wd k) (times_words k x)

  pub lows_is : (k x : ℕ) → lows p d k x ≡ low_words p d (digits p k x)
  unfolding lows times
  lows_is k x = sym (low_words-product (digits p k x) ∙ ap (λ j. sum p (multiple p d d j) (product p d (digits p k x) d)) (digits-length p k x))
