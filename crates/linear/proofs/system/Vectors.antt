-- Arrays that hold a vector, word by word.
--   holds_of     16 words, the first n below p and the others 0, hold a vector
--   holds_past   past the vector they are 0
use mathlib.Core.Path.{◌≡◌, refl, sym, ap, ap₂, ◌∙◌}
use mathlib.Core.List.{List, [], ◌∷◌, ◌++◌}
use Prim.Native.Nat.{ℕ, zero, suc, ◌+◌, ◌-◌, ◌≤◌, ◌<◌}
use native.Mathlib.Omega.{arith}
use lib.ListN.{length, get_or, take, drop, replicate, length-replicate, length-drop, take-append-drop}
use lib.Seq.{ext_get_or, get_or-drop, get_or-append-add}
use Rattle.array.specs.Array.{padded, Holds}
use Rattle.array.specs.Words.{Words, none, more}
use Rattle.array.proofs.Words.{words_length}

pub zero_beyond : (n j : ℕ) → ◌≡◌ {A = ℕ} (get_or (replicate n 0) j 0) 0
zero_beyond zero j = refl
zero_beyond (suc n) zero = refl
zero_beyond (suc n) (suc j) = zero_beyond n j

words_take : (p n : ℕ) (xs : List ℕ) → n ≤ length xs → ((j : ℕ) → j < n → get_or xs j 0 < p) → Words p n (take n xs)
words_take p zero xs l h = none
words_take p (suc n) [] l h = absurd (omega arith)
words_take p (suc n) (x ∷ xs) l h = more (h 0 (omega arith)) (words_take p n xs (omega arith) (λ j g. h (suc j) (omega arith)))

pub holds_of : (p n : ℕ) (xs : List ℕ) → n ≤ 16 → length xs ≡ 16 → ((j : ℕ) → j < n → get_or xs j 0 < p) → ((j : ℕ) → n ≤ j → get_or xs j 0 ≡ 0) → Holds p n xs
unfolding padded
holds_of p n xs small size below zeros =
    record { words = words; zeros = sym (take-append-drop n xs) ∙ ap (λ z. take n xs ++ z) (rest ∙ ap (λ k. replicate (16 - k) 0) (sym (words_length words))) }
  where
    words : Words p n (take n xs)
    words = words_take p n xs (omega arith) below

    rest : drop n xs ≡ replicate (16 - n) 0
    rest =
        ext_get_or 0 (drop n xs) (replicate (16 - n) 0) (length-drop n xs ∙ ap (λ z. z - n) size ∙ sym (length-replicate (16 - n) 0))
        (λ j h. get_or-drop n xs j 0 ∙ zeros (n + j) (omega arith) ∙ sym (zero_beyond (16 - n) j))

pub holds_past : {p n : ℕ} {xs : List ℕ} → Holds p n xs → (j : ℕ) → n ≤ j → get_or xs j 0 ≡ 0
unfolding padded
holds_past {n = n} {xs = xs} held j h =
    let k : ℕ = length (take n xs) in
    let e : k + (j - n) ≡ j = omega (arith, words_length held.words) in
    ap₂ (λ z i. get_or z i 0) held.zeros (sym e) ∙ get_or-append-add (take n xs) (replicate (16 - k) 0) (j - n) 0 ∙ zero_beyond (16 - k) (j - n)
