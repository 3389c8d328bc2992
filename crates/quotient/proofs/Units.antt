-- Modulo a prime p and a T without a divisor of degree 1 to n − 1, every residue but 0 has an inverse. Induction on the number of words of
-- w: a last word 0 is dropped; otherwise w is made monic, and T = w·E + R. Here R = 0 would make w a divisor of T or a constant, and
-- otherwise w·(−E) = R modulo T has an inverse by induction, and so has w.
--   Invertible R u   u has an inverse in R
--   ZeroOrUnit m w   w is m zeros, or w modulo T is invertible
use mathlib.Core.Path.{◌≡◌, refl, sym, ap, ◌∙◌, subst}
use mathlib.Core.List.{List, [], ◌∷◌, ◌++◌}
use mathlib.Core.Logic.{◌⊎◌, inl, inr, ⊎_elim}
use Prim.Native.Nat.{ℕ, zero, suc, ◌*◌, ◌%◌, ◌<◌, ◌≤◌}
use native.Mathlib.Nat.{eq-zero-or-pos, le_refl, mul_comm as ℕ·mul-comm}
use native.Mathlib.Omega.{arith}
use lib.ListN.{length, replicate}
use Rattle.algebra.specs.Prime.{Prime}
use Rattle.algebra.specs.Ring.{CommutativeRing, numeral}
use Rattle.algebra.proofs.Euclid.{inverse_exists}
use Rattle.algebra.proofs.RingLaws.{mul_comm, mul_neg, neg_unique}
use Rattle.array.specs.Words.{Words, none, more}
use Rattle.quotient.specs.Residue.{Residue, sum, scale}
use Rattle.quotient.specs.Divisor.{Same, HasDivisor, Remainder, polynomial_product, monic}
use Rattle.quotient.proofs.Operations.{scale_words}
use Rattle.array.proofs.Words.{words_length}
use Rattle.quotient.proofs.Ring.{residue_ring}
use Rattle.quotient.proofs.Reduction.{zero_of_zeros, reduce, reduce-sum, reduce-scale, reduce_product, reduce_same, reduce-one, reduce_residue, reduce_modulus}
use Rattle.quotient.proofs.Divisor.{remainder_reduces, zero_divides}

abbrev pub Invertible : {A : Type 0} → CommutativeRing A → A → Type 0
Invertible {A} R u = (v : A) × (R.mul u v ≡ R.one)

-- a factor of an invertible element is invertible
factor_invertible : {A : Type 0} (R : CommutativeRing A) (u v : A) {w : A} → R.mul u v ≡ w → Invertible R w → Invertible R u
factor_invertible R u v e (z, h) = (R.mul v z, sym (R.mul_assoc u v z) ∙ ap (λ w. R.mul w z) e ∙ h)

-- if d·q + r = 0, then d·(−q) = r
opposite_factor : {A : Type 0} (R : CommutativeRing A) (d q r : A) → R.add (R.mul d q) r ≡ R.zero → R.mul d (R.neg q) ≡ r
opposite_factor R d q r e = mul_neg R d q ∙ sym (neg_unique R (R.mul d q) r e)

record LastWord (p m : ℕ) (w : List ℕ) : Type 0 where
  front : List ℕ
  last : ℕ
  words : Words p m front
  below : last < p
  split : w ≡ front ++ last ∷ []

split_last : {p m : ℕ} {w : List ℕ} → Words p (suc m) w → LastWord p m w
split_last {m = zero} (more {a = a} h none) = record { front = []; last = a; words = none; below = h; split = refl }
split_last {m = suc m} (more {a = a} h w) =
    let r = split_last w in
    record { front = a ∷ r.front; last = r.last; words = more h r.words; below = r.below; split = ap (a ∷◌) r.split }

scale_last : (p c : ℕ) (w : List ℕ) (a : ℕ) → scale p c (w ++ a ∷ []) ≡ scale p c w ++ (c * a) % p ∷ []
unfolding scale
scale_last p c [] a = refl
scale_last p c (b ∷ w) a = ap ((c * b) % p ∷◌) (scale_last p c w a)

-- zeros at the end change nothing
pub zeros_same : (p k : ℕ) (f : List ℕ) → Same p (f ++ replicate k 0) f
zeros_same p zero [] i = refl
zeros_same p (suc k) [] zero = refl
zeros_same p (suc k) [] (suc i) = zeros_same p k [] i
zeros_same p k (a ∷ f) zero = refl
zeros_same p k (a ∷ f) (suc i) = zeros_same p k f i

zeros_last : (m : ℕ) → ◌++◌ {A = ℕ} (replicate m 0) (0 ∷ []) ≡ replicate (suc m) 0
zeros_last zero = refl
zeros_last (suc m) = ap (0 ∷◌) (zeros_last m)

module _ {p n : ℕ} {t : List ℕ} (prime : Prime p) (wt : Words p (suc n) t) (irreducible : HasDivisor p t → ⊥) where
  abbrev big : 2 ≤ p
  big = prime.0

  abbrev K : CommutativeRing (Residue p (suc n))
  K = residue_ring big wt

  abbrev modulo : List ℕ → Residue p (suc n)
  modulo = reduce big wt

  abbrev ZeroOrUnit : ℕ → List ℕ → Type 0
  ZeroOrUnit m w = (w ≡ replicate m 0) ⊎ Invertible K (modulo w)

  -- T = D·E + R is 0 modulo T
  division_vanishes : (d r : List ℕ) (h : Remainder p d (monic t) r) → K.add (K.mul (modulo (monic d)) (modulo h.0)) (modulo r) ≡ K.zero
  division_vanishes d r (e, _, same) =
      let DE = polynomial_product p (monic d) e in
      ap (λ u. K.add u (modulo r)) (sym (reduce_product big wt (monic d) e)) ∙ sym (reduce-sum big wt DE r)
      ∙ reduce_same big wt (sum p DE r) (monic t) same ∙ reduce_modulus big wt

  -- a D of degree m below n is invertible if every list of m words is zero or invertible: T has no divisor D, so R is not zero
  monic_invertible : (m : ℕ) (d : List ℕ) → m < suc n → Words p m d → ((r : List ℕ) → Words p m r → ZeroOrUnit m r) → Invertible K (modulo (monic d))
  unfolding monic
  monic_invertible zero d l none smaller = (K.one, ap (λ u. K.mul u K.one) (reduce-one big wt) ∙ K.mul-one K.one)
  monic_invertible (suc m) d l wd smaller = ⊎_elim divides (factor_invertible K (modulo (monic d)) (K.neg (modulo e)) opposite) (smaller r.0 r.1)
    where
      r : Residue p (suc m)
      r = reduce big wd (monic t)

      e : List ℕ
      e = (remainder_reduces big wd (monic t)).0

      opposite : K.mul (modulo (monic d)) (K.neg (modulo e)) ≡ modulo r.0
      opposite = opposite_factor K (modulo (monic d)) (modulo e) (modulo r.0) (division_vanishes d r.0 (remainder_reduces big wd (monic t)))

      divides : r.0 ≡ replicate (suc m) 0 → Invertible K (modulo (monic d))
      divides z =
          let l : suc m < length t = rw (words_length wt) l in
          absurd (irreducible (suc m, omega arith, l, d, wd, zero_divides big wd t (zero_of_zeros big wd r z)))

  -- w times the inverse of its last word is monic
  made_monic : (w : List ℕ) (a b : ℕ) → (a * b) % p ≡ 1 → K.mul (modulo (w ++ a ∷ [])) (numeral K b) ≡ modulo (monic (scale p b w))
  unfolding monic
  made_monic w a b h =
      mul_comm K (modulo (w ++ a ∷ [])) (numeral K b) ∙ sym (reduce-scale big wt b (w ++ a ∷ []))
      ∙ ap modulo (scale_last p b w a ∙ ap (λ c. scale p b w ++ c ∷ []) (ap (λ c. c % p) (ℕ·mul-comm b a) ∙ h))

  by_last_word : (m : ℕ) → m < suc n → (w : List ℕ) (a : ℕ) → Words p m w → a < p → ((r : List ℕ) → Words p m r → ZeroOrUnit m r)
      → ZeroOrUnit (suc m) (w ++ a ∷ [])
  by_last_word m l w a ww below smaller = ⊎_elim (λ z. subst (λ c. ZeroOrUnit (suc m) (w ++ c ∷ [])) (sym z) dropped) monic_made (eq-zero-or-pos a)
    where
      same : modulo w ≡ modulo (w ++ 0 ∷ [])
      same = sym (reduce_same big wt (w ++ 0 ∷ []) w (zeros_same p 1 w))

      dropped : ZeroOrUnit (suc m) (w ++ 0 ∷ [])
      dropped = ⊎_elim (λ e. inl (ap (λ v. v ++ 0 ∷ []) e ∙ zeros_last m)) (λ h. inr (subst (Invertible K) same h)) (smaller w ww)

      monic_made : 0 < a → ZeroOrUnit (suc m) (w ++ a ∷ [])
      monic_made h =
          let (b, _, e) = inverse_exists p a prime h below in
          inr (factor_invertible K (modulo (w ++ a ∷ [])) (numeral K b) (made_monic w a b e) (monic_invertible m (scale p b w) l (scale_words b ww) smaller))

  zero_or_unit : (m : ℕ) → m ≤ suc n → (w : List ℕ) → Words p m w → ZeroOrUnit m w
  zero_or_unit zero l w none = inl refl
  zero_or_unit (suc m) l w ww =
      let s = split_last ww in
      subst (ZeroOrUnit (suc m)) (sym s.split) (by_last_word m l s.front s.last s.words s.below (zero_or_unit m (omega arith)))

  pub nonzero_invertible : (u : Residue p (suc n)) → (u ≡ K.zero → ⊥) → Invertible K u
  nonzero_invertible u h =
      ⊎_elim (λ z. absurd (h (zero_of_zeros big wt u z))) (subst (Invertible K) (reduce_residue big wt u)) (zero_or_unit (suc n) (le_refl (suc n)) u.0 u.1)
