-- The list of all residues is the list of the digits of 0, 1, …, p^n − 1: by induction on n, since the words 0, …, p − 1 before the digits of c give the digits of the
-- numbers p·c, …, p·c + p − 1.
use mathlib.Core.Path.{◌≡◌, refl, sym, ap, ap₂, ◌∙◌}
use mathlib.Core.List.{◌∷◌, ◌++◌, map, map-append}
use Prim.Native.Nat.{ℕ, zero, suc, ◌+◌, ◌*◌, ◌^◌, ◌≤◌}
use native.Mathlib.Nat.{zero-add, suc-add, mul-zero, pow-zero, pow-succ'}
use native.Mathlib.Omega.{arith}
use Rattle.algebra.specs.Lists.{range}
use Rattle.algebra.proofs.Search.{range-append}
use Rattle.array.specs.Digits.{digits}
use Rattle.array.proofs.Digits.{digits-cons}
use Rattle.quotient.specs.Residue.{residues, prefixed}

-- the words a, …, a + k − 1 before the digits of c
words_before : (p n c a k : ℕ) → a + k ≤ p → map (λ b. b ∷ digits p n c) (range a k) ≡ map (digits p (suc n)) (range (a + p * c) k)
unfolding range
words_before p n c a zero h = refl
words_before p n c a (suc k) h =
    ap₂ ◌∷◌ (digits-cons p n a c (omega arith)) (words_before p n c (suc a) k (omega arith) ∙ ap (λ x. map (digits p (suc n)) (range x k)) (suc-add a (p * c)))

-- all words before the digits of s, …, s + k − 1
prefixed-digits : (p n s k : ℕ) → prefixed (range 0 p) (map (digits p n) (range s k)) ≡ map (digits p (suc n)) (range (p * s) (p * k))
unfolding prefixed range
prefixed-digits p n s zero = ap (λ x. map (digits p (suc n)) (range (p * s) x)) (sym (mul-zero p))
prefixed-digits p n s (suc k) =
    let count : p * suc k ≡ p + p * k = omega arith in
    let next : p * suc s ≡ p * s + p = omega arith in
    ap₂ ◌++◌
    (words_before p n s 0 p (omega arith) ∙ ap (λ x. map (digits p (suc n)) (range x p)) (zero-add (p * s)))
    (prefixed-digits p n (suc s) k ∙ ap (λ x. map (digits p (suc n)) (range x (p * k))) next)
    ∙ sym (map-append (digits p (suc n)) (range (p * s) p) (range (p * s + p) (p * k)))
    ∙ ap (map (digits p (suc n))) (sym (range-append (p * s) p (p * k)) ∙ ap (range (p * s)) (sym count))

pub residues-digits : (p n : ℕ) → residues p n ≡ map (digits p n) (range 0 (p ^ n))
unfolding residues range digits
residues-digits p zero = ap (λ x. map (digits p 0) (range 0 x)) (sym (pow-zero p))
residues-digits p (suc n) =
    ap (prefixed (range 0 p)) (residues-digits p n)
    ∙ prefixed-digits p n 0 (p ^ n)
    ∙ ap₂ (λ x y. map (digits p (suc n)) (range x y)) (mul-zero p) (sym (pow-succ' p n))
