-- The first of some numbers that divides p, or p: the loop that looks for it, and what it says of p.
--   divides p d         the test that d divides p
--   None p numbers      no one of the numbers divides p
use mathlib.Core.Path.{◌≡◌, refl, sym, ap, ◌∙◌}
use mathlib.Core.Bool.{Bool, true, false}
use mathlib.Core.List.{List, [], ◌∷◌}
use mathlib.Core.Logic.{◌⊎◌, inl, inr, ⊎_elim}
use Prim.Native.Nat.{ℕ, ◌+◌, ◌%◌, ◌≤◌, ◌<◌}
use native.Mathlib.Numerals.{add-one}
use lib.Dec.{eqb, ltb}
use lib.ListN.{length, get_or, drop, drop_of_length-le}
use lib.Seq.{drop-cons}
use borrow.Author.Tests.{eq-eqb, ne_eqb, eqb-true, eqb-false, ltb-true}
use Rattle.algebra.specs.Lists.{Member, all, first}
use Rattle.algebra.proofs.Search.{member_of_all, first_pass, first_fail}
use Rattle.algebra.proofs.Places.{place_member}
use Rattle.modular.specs.Prime.{first_divisor}

abbrev divides : ℕ → ℕ → Bool
divides p d = eqb (p % d) 0

abbrev pub None : ℕ → List ℕ → Type 0
None p numbers = (q : ℕ) → Member q numbers → p % q ≡ 0 → ⊥

-- before turn i the numbers from i on decide
module _ (p : ℕ) (numbers : List ℕ) (i : ℕ) where
  pub number_positive : all (ltb 0) numbers ≡ true → i < length numbers → 0 < get_or numbers i 0
  number_positive h l = ltb-true 0 (get_or numbers i 0) (member_of_all (ltb 0) numbers h (get_or numbers i 0) (place_member 0 numbers i l))

  module _ (e : first_divisor p numbers ≡ first_divisor p (drop i numbers)) where
    from_here : i < length numbers → first_divisor p numbers ≡ first (divides p) p (get_or numbers i 0 ∷ drop (i + 1) numbers)
    unfolding first_divisor
    from_here l = e ∙ rw (add-one, drop-cons numbers i 0)

    pub divisor_here : i < length numbers → p % get_or numbers i 0 ≡ 0 → get_or numbers i 0 ≡ first_divisor p numbers
    divisor_here l h = sym (from_here l ∙ first_pass (divides p) p _ _ (eq-eqb _ 0 h))

    pub divisor_later : i < length numbers → (p % get_or numbers i 0 ≡ 0 → ⊥) → first_divisor p numbers ≡ first_divisor p (drop (i + 1) numbers)
    unfolding first_divisor
    divisor_later l h = from_here l ∙ first_fail (divides p) p _ _ (ne_eqb _ 0 h)

    pub divisor_none : length numbers ≤ i → p ≡ first_divisor p numbers
    unfolding first_divisor first
    divisor_none l = sym (e ∙ ap (first (divides p) p) (drop_of_length-le numbers l))

module _ (p : ℕ) where
  -- where only p itself may divide p
  pub divisor_self : (numbers : List ℕ) → ((q : ℕ) → Member q numbers → p % q ≡ 0 → q ≡ p) → first_divisor p numbers ≡ p
  unfolding first_divisor
  divisor_self [] only = unfold first in refl
  divisor_self (x ∷ xs) only = by_head (divides p x) refl (divisor_self xs (λ q m. only q (inr m)))
    where
      by_head : (b : Bool) → divides p x ≡ b → first (divides p) p xs ≡ p → first (divides p) p (x ∷ xs) ≡ p
      by_head true t rest = first_pass (divides p) p x xs t ∙ only x (inl refl) (eqb-true (p % x) 0 t)
      by_head false t rest = first_fail (divides p) p x xs t ∙ rest

  pub self_or_none : (numbers : List ℕ) → first_divisor p numbers ≡ p → Member p numbers ⊎ None p numbers
  unfolding first_divisor
  self_or_none [] e = inr (λ q m. absurd m)
  self_or_none (x ∷ xs) e = by_head (divides p x) refl (self_or_none xs)
    where
      by_head : (b : Bool) → divides p x ≡ b → (first (divides p) p xs ≡ p → Member p xs ⊎ None p xs) → Member p (x ∷ xs) ⊎ None p (x ∷ xs)
      by_head true t rest = inl (inl (sym e ∙ first_pass (divides p) p x xs t))
      by_head false t rest =
          ⊎_elim (λ m. inl (inr m))
          (λ none. inr (λ q. ⊎_elim (λ s z. eqb-false (p % x) 0 t (ap (λ y. p % y) (sym s) ∙ z)) (none q)))
          (rest (sym (first_fail (divides p) p x xs t) ∙ e))
