-- Divisors and remainders. The remainder of a polynomial f on division by a monic D is f modulo D. So D divides T exactly when T modulo D
-- is 0, that is, when the residue of X modulo D is a root of T; reduction modulo a divisor of T is then a map of residues modulo T; and
-- divisors of divisors divide.
use mathlib.Core.Path.{◌≡◌, refl, sym, ap, ◌∙◌, subst}
use mathlib.Core.List.{List, [], ◌∷◌}
use Prim.Native.Nat.{ℕ, zero, suc, ◌+◌, ◌%◌, ◌≤◌}
use native.Mathlib.Nat.{add-zero, mod-mod}
use lib.ListN.{get_or, replicate}
use Rattle.algebra.specs.Ring.{CommutativeRing}
use Rattle.algebra.proofs.RingLaws.{zero-mul}
use Rattle.array.specs.Words.{Words}
use Rattle.quotient.specs.Residue.{Residue, sum, constant, residue_of_x, modulus_at}
use Rattle.quotient.specs.Divisor.{Same, Divides, Remainder, polynomial_product, monic}
use Rattle.quotient.proofs.Operations.{residue_path, constant-zero}
use Rattle.quotient.proofs.Ring.{residue_ring, x_residue}
use Rattle.quotient.proofs.Substitution.{Homomorphism, evaluate_x, evaluate_homomorphism}
use Rattle.quotient.proofs.Reduction.{zero_is, characteristic, reduce, reduce_product, reduce_same, reduce-monic, reduce_modulus}
use Rattle.quotient.proofs.Remainder.{remainder_is}

sum_zeros_same : (p k : ℕ) (f : List ℕ) → Same p (sum p f (replicate k 0)) f
unfolding sum
sum_zeros_same p zero [] i = refl
sum_zeros_same p (suc k) [] zero = refl
sum_zeros_same p (suc k) [] (suc i) = sum_zeros_same p k [] i
sum_zeros_same p zero (a ∷ f) i = refl
sum_zeros_same p (suc k) (a ∷ f) zero = mod-mod (a + 0) p ∙ ap (λ c. c % p) (add-zero a)
sum_zeros_same p (suc k) (a ∷ f) (suc i) = sum_zeros_same p k f i

module _ {p m : ℕ} {d : List ℕ} (big : 2 ≤ p) (wd : Words p (suc m) d) where
  abbrev K : CommutativeRing (Residue p (suc m))
  K = residue_ring big wd

  multiple_vanishes : (f e : List ℕ) → reduce big wd f ≡ K.zero → reduce big wd (polynomial_product p f e) ≡ K.zero
  multiple_vanishes f e h = reduce_product big wd f e ∙ ap (λ u. K.mul u (reduce big wd e)) h ∙ zero-mul K (reduce big wd e)

  -- the remainder of f on division by D is f modulo D
  pub remainder_reduces : (f : List ℕ) → Remainder p d f (reduce big wd f).0
  unfolding reduce
  remainder_reduces f = subst (λ u. Remainder p d f u.0) (sym (evaluate_x big wd f)) (remainder_is big wd f)

  -- D divides T exactly when T modulo D is 0
  pub zero_divides : (t : List ℕ) → reduce big wd (monic t) ≡ K.zero → Divides p d t
  zero_divides t h =
      let (q, _, same) = remainder_reduces (monic t) in
      let DQ = polynomial_product p (monic d) q in
      let zeros : (reduce big wd (monic t)).0 ≡ replicate (suc m) 0 = ap (λ u. u.0) h ∙ zero_is big wd ∙ constant-zero (suc m) in
      (q, λ i. sym (sum_zeros_same p (suc m) DQ i) ∙ ap (λ z. get_or (sum p DQ z) i 0 % p) (sym zeros) ∙ same i)

  pub divides_zero : (t : List ℕ) → Divides p d t → reduce big wd (monic t) ≡ K.zero
  divides_zero t (e, h) = sym (reduce_same big wd (polynomial_product p (monic d) e) (monic t) h) ∙ multiple_vanishes (monic d) e (reduce_modulus big wd)

  -- the same on lists: T(X) = 0 modulo D
  pub divisor_root : (t : List ℕ) → Divides p d t → modulus_at p d (residue_of_x p d) t ≡ constant (suc m) 0
  divisor_root t h = sym (reduce-monic big wd t) ∙ ap (λ u. u.0) (divides_zero t h) ∙ zero_is big wd

  pub root_divisor : (t : List ℕ) → modulus_at p d (residue_of_x p d) t ≡ constant (suc m) 0 → Divides p d t
  root_divisor t h = zero_divides t (residue_path (reduce-monic big wd t ∙ h ∙ sym (zero_is big wd)))

  pub divides_itself : Divides p d d
  divides_itself = zero_divides d (reduce_modulus big wd)

  pub divides_transitive : (c t : List ℕ) → Divides p d c → Divides p c t → Divides p d t
  divides_transitive c t h (e, k) =
      zero_divides t (sym (reduce_same big wd (polynomial_product p (monic c) e) (monic t) k) ∙ multiple_vanishes (monic c) e (divides_zero c h))

  -- reduction modulo a divisor of T preserves sums, products and one
  module _ {n : ℕ} {t : List ℕ} (wt : Words p (suc n) t) (h : Divides p d t) where
    pub reduction_homomorphism : Homomorphism (residue_ring big wt) K (λ u. reduce big wd u.0)
    unfolding reduce
    reduction_homomorphism = evaluate_homomorphism big wt K (characteristic big wd) (x_residue big wd) (divides_zero t h)
