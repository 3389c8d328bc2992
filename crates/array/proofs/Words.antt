-- Lists of n words below p: their length, their parts, and that two with the same words are equal.
use mathlib.Core.Path.{◌≡◌, refl, sym, ap, ◌∙◌}
use mathlib.Core.List.{List, [], ◌∷◌, ◌++◌}
use Prim.Native.Nat.{ℕ, zero, suc, ◌+◌, ◌-◌, ◌<◌, ◌≤◌}
use native.Mathlib.Nat as Nat
use native.Mathlib.Bridge.{le_prop}
use native.Mathlib.Omega.{arith}
use lib.ListN.{length, get_or, take, drop, replicate}
use lib.Seq.{ext_get_or}
use Rattle.array.specs.Words.{Words, none, more}

pub words_length : {p n : ℕ} {u : List ℕ} → Words p n u → length u ≡ n
words_length none = refl
words_length (more h w) = ap suc (words_length w)

-- such a list fits an array
pub words_short : (p n : ℕ) (u : List ℕ) → n ≤ 16 → Words p n u → length u ≤ 16
words_short p n u h w = rw (words_length w) h

-- two such lists with the same words are equal
pub words_same : {p n : ℕ} {u v : List ℕ} → Words p n u → Words p n v → ((j : ℕ) → j < n → get_or u j 0 ≡ get_or v j 0) → u ≡ v
words_same {u = u} {v = v} a b h = ext_get_or 0 u v (words_length a ∙ sym (words_length b)) (λ j g. h j (omega (arith, words_length a)))

-- the number of words of a residue may be written as the length of the modulus
pub to_length : {p n : ℕ} {t u : List ℕ} → Words p n t → Words p n u → Words p (length t) u
to_length wt w = rw (words_length wt) w

pub of_length : {p n : ℕ} {t u : List ℕ} → Words p n t → Words p (length t) u → Words p n u
of_length wt w = rw (words_length wt) at w

pub words_prop : (p n : ℕ) (u : List ℕ) → IsProp (Words p n u)
words_prop p n u none none = refl
words_prop p n u (more {n = m} {u = u'} h w) (more k v) = λ i. more (le_prop h k i) (words_prop p m u' w v i)

-- a larger bound
pub words_up : {p q n : ℕ} {u : List ℕ} → p ≤ q → Words p n u → Words q n u
words_up h none = none
words_up h (more k w) = more (Nat.lt_of_lt_of_le k h) (words_up h w)

pub zeros_words : {p : ℕ} (n : ℕ) → 0 < p → Words p n (replicate n 0)
zeros_words zero h = none
zeros_words (suc n) h = more h (zeros_words n h)

-- u and j zeros
pub padded_words : {p k : ℕ} {u : List ℕ} → 0 < p → Words p k u → (j : ℕ) → Words p (k + j) (u ++ replicate j 0)
padded_words h none j = rw Nat.zero-add (zeros_words j h)
padded_words h (more {n = k} l w) j = rw Nat.suc-add (more l (padded_words h w j))

pub snoc_words : {p n a : ℕ} {u : List ℕ} → Words p n u → a < p → Words p (suc n) (u ++ a ∷ [])
snoc_words none k = more k none
snoc_words (more h w) k = more h (snoc_words w k)

-- parts of a list, and two lists in a row

pub take_words : {p m : ℕ} {u : List ℕ} → Words p m u → (n : ℕ) → n ≤ m → Words p n (take n u)
take_words w zero h = none
take_words none (suc n) h = absurd (omega arith)
take_words (more a w) (suc n) h = more a (take_words w n (omega arith))

pub drop_words : {p m : ℕ} {u : List ℕ} → Words p m u → (n : ℕ) → Words p (m - n) (drop n u)
drop_words w zero = rw Nat.sub-zero w
drop_words none (suc n) = rw Nat.zero-sub none
drop_words (more a w) (suc n) = rw Nat.suc-sub-suc (drop_words w n)

pub append_words : {p m n : ℕ} {u v : List ℕ} → Words p m u → Words p n v → Words p (m + n) (u ++ v)
append_words none v = rw Nat.zero-add v
append_words (more a w) v = rw Nat.suc-add (more a (append_words w v))
