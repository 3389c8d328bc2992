-- The multiples of D of degree m, one in each block: the polynomials with the same higher words h stand side by side, one for each list of lower words, and the one that D
-- divides has the lower words that `lows` computes. So what is struck out at h·p^n + codes[h] are the multiples.
use mathlib.Core.Path.{◌≡◌, refl, sym, ap, ap₂, subst, ◌∙◌}
use mathlib.Core.Bool.{Bool, true, false, true≢false}
use mathlib.Core.List.{List, ◌++◌}
use Prim.Native.Nat.{ℕ, zero, suc, ◌+◌, ◌*◌, ◌/◌, ◌%◌, ◌^◌, ◌≤◌, ◌<◌}
use native.Mathlib.Nat.{mod-lt, div-add-mod', div-lt_iff_lt-mul}
use native.Mathlib.Omega.{arith}
use borrow.Author.Tests.{eq-eqb, ne_eqb}
use lib.Dec.{eqb}
use lib.ListN.{get_or}
use Rattle.array.specs.Digits.{digits, code}
use Rattle.array.specs.Words.{Words}
use Rattle.array.proofs.Digits.{digits_words, digits-code, digits_split, code_below, code-digits}
use Rattle.quotient.specs.DivisorTest.{divides_test}
use Rattle.quotient.proofs.Multiples.{low_divides, divides_low}
use Rattle.sieve.specs.Clauses.{WordsBelow, Lows, Struck, StruckBy, struck}
use Rattle.sieve.specs.Multiples.{lows}
use Rattle.sieve.proofs.LowerWords.{lows_words, lows_is}
use Rattle.sieve.proofs.Powers.{power_parts, power_positive}

module _ {p n : ℕ} {d : List ℕ} (big : 2 ≤ p) (wd : Words p (suc n) d) where
  -- of the polynomials with the higher words h, D divides the one with these lower words
  low_test : (k l h : ℕ) → l < p ^ suc n → eqb l (code p (lows p d k h)) ≡ divides_test p d (digits p (suc n) l ++ digits p k h)
  low_test k l h below = by_test (divides_test p d (digits p (suc n) l ++ digits p k h)) refl
    where
      wl : Words p (suc n) (digits p (suc n) l)
      wl = digits_words p (suc n) l (omega arith)

      wh : Words p k (digits p k h)
      wh = digits_words p k h (omega arith)

      by_test : (b : Bool) → divides_test p d (digits p (suc n) l ++ digits p k h) ≡ b
          → eqb l (code p (lows p d k h)) ≡ divides_test p d (digits p (suc n) l ++ digits p k h)
      by_test true e =
          let same : digits p (suc n) l ≡ lows p d k h = low_divides big wd wl wh e ∙ sym (lows_is big wd k h) in
          eq-eqb l (code p (lows p d k h)) (sym (code-digits p (suc n) l (omega arith) below) ∙ ap (code p) same) ∙ sym e
      by_test false e =
          ne_eqb l (code p (lows p d k h)) (λ same.
          let words : digits p (suc n) l ≡ lows p d k h = ap (digits p (suc n)) same ∙ digits-code (lows_words big wd k h) in
          true≢false (sym (divides_low big wd wl wh (words ∙ lows_is big wd k h)) ∙ e)) ∙ sym e

  module _ (k : ℕ) (codes : List ℕ) (low : Lows p d k 0 codes) where
    below : (h : ℕ) → h < p ^ k → get_or codes h 0 < p ^ suc n
    below h l = subst (λ x. x < p ^ suc n) (sym (low.words h l)) (code_below (lows_words big wd k h))

    module _ (old new : List ℕ) (s : Struck (p ^ (suc n + k)) (p ^ suc n) (p ^ k) codes old new) where
      blocks : p ^ k * p ^ suc n ≡ p ^ (suc n + k)
      blocks = power_parts p (suc n) k

      inside : (c : ℕ) → c < p ^ (suc n + k)
          → get_or new (p ^ (suc n + k) + c) 0 ≡ struck (divides_test p d (digits p (suc n + k) c)) (get_or old (p ^ (suc n + k) + c) 0)
      inside c l =
          let positive : 0 < p ^ suc n = power_positive p big (suc n) in
          let high : c / p ^ suc n < p ^ k = (div-lt_iff_lt-mul positive).1 (rw blocks l) in
          let low_word : c % p ^ suc n < p ^ suc n = mod-lt c positive in
          let place : c / p ^ suc n * p ^ suc n + c % p ^ suc n ≡ c = div-add-mod' c (p ^ suc n) in
          let test : eqb (c % p ^ suc n) (get_or codes (c / p ^ suc n) 0) ≡ divides_test p d (digits p (suc n + k) c)
          = ap (eqb (c % p ^ suc n)) (low.words (c / p ^ suc n) high) ∙ low_test k (c % p ^ suc n) (c / p ^ suc n) low_word
          ∙ ap (divides_test p d) (sym (digits_split p (suc n) k c (omega arith))) in
          ap (λ i. get_or new (p ^ (suc n + k) + i) 0) (sym place) ∙ s.inside (c / p ^ suc n) (c % p ^ suc n) high low_word
          ∙ ap₂ (λ b i. struck b (get_or old (p ^ (suc n + k) + i) 0)) test place

      struck_multiples : StruckBy p d (suc n + k) old new
      struck_multiples = record { same_length = s.same_length; inside = inside; outside = λ i out. s.outside i (rw blocks out) }

-- the same of any degree n above 0

pub lows_below : (p n k : ℕ) (d codes : List ℕ) → 2 ≤ p → 1 ≤ n → Words p n d → Lows p d k 0 codes → WordsBelow (p ^ n) (p ^ k) codes
lows_below p zero k d codes big positive wd low = absurd (omega arith)
lows_below p (suc n) k d codes big positive wd low = record { size = low.size; words = below big wd k codes low }

pub lows_struck : (p n k : ℕ) (d codes old new : List ℕ) → 2 ≤ p → 1 ≤ n → Words p n d → Lows p d k 0 codes
    → Struck (p ^ (n + k)) (p ^ n) (p ^ k) codes old new → StruckBy p d (n + k) old new
lows_struck p zero k d codes old new big positive wd low s = absurd (omega arith)
lows_struck p (suc n) k d codes old new big positive wd low s = struck_multiples big wd k codes low old new s
