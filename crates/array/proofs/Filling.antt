-- An array of zeros that a loop fills word after word: before turn i it holds i words.
use mathlib.Core.Path.{◌≡◌, sym, ap, subst, ◌∙◌}
use mathlib.Core.List.{List, [], ◌∷◌, ◌++◌}
use Prim.Native.Nat.{ℕ, suc, ◌+◌, ◌-◌, ◌≤◌, ◌<◌}
use native.Mathlib.Numerals.{add-one}
use native.Mathlib.Omega.{arith}
use lib.ListN.{length, take, set, replicate}
use lib.Seq.{set_at, append_snoc}
use Rattle.array.specs.Words.{Words, none}
use Rattle.array.specs.Array.{padded, Holds}
use Rattle.array.proofs.Words.{words_length, snoc_words, zeros_words}
use Rattle.array.proofs.Padded.{holds_is, padded_zeros}

pub holds_none : (p : ℕ) → Holds p 0 (replicate 16 0)
holds_none p = holds_is (padded_zeros 0 (omega arith)) none

pub holds_zeros : (p n : ℕ) → 2 ≤ p → n ≤ 16 → Holds p n (replicate 16 0)
holds_zeros p n big short = holds_is (padded_zeros n short) (zeros_words n (omega arith))

-- the first zero gives way to x
pub holds_next : (p n i x : ℕ) (w : List ℕ) → n ≤ 16 → i < n → x < p → Holds p i w → Holds p (i + 1) (set w i x)
unfolding padded
holds_next p n i x w short less below h = subst (λ k. Holds p k (set w i x)) (sym (add-one i)) (holds_is written after)
  where
    u : List ℕ
    u = take i w

    before : length u ≡ i
    before = words_length h.words

    after : Words p (suc i) (u ++ x ∷ [])
    after = snoc_words h.words below

    rest : 16 - length u ≡ suc (15 - i)
    rest = omega (arith, before)

    fewer : 15 - i ≡ 16 - length (u ++ x ∷ [])
    fewer = omega (arith, words_length after)

    written : set w i x ≡ padded (u ++ x ∷ [])
    written =
        ap (λ l. set l i x) (h.zeros ∙ ap (λ k. u ++ replicate k 0) rest) ∙ set_at u 0 (replicate (15 - i) 0) x i before
        ∙ sym (append_snoc u x (replicate (15 - i) 0)) ∙ ap (λ k. (u ++ x ∷ []) ++ replicate k 0) fewer

pub holds_first : (p x : ℕ) → x < p → Holds p 1 (set (replicate 16 0) 0 x)
holds_first p x below = holds_next p 1 0 x (replicate 16 0) (omega arith) (omega arith) below (holds_none p)
