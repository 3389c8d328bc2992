-- An array of 16 words that holds n words and zeros after them: its length, its words, and what a loop over the n words makes of it.
use mathlib.Core.Path.{◌≡◌, sym, ap, subst, ◌∙◌}
use mathlib.Core.List.{List, ◌++◌}
use Prim.Native.Nat.{ℕ, zero, suc, ◌-◌, ◌≤◌, ◌<◌}
use native.Mathlib.Nat as Nat
use native.Mathlib.Omega.{arith}
use lib.ListN.{length, get_or, take, drop, replicate, length-append, length-take, length-replicate, replicate-append-replicate}
use lib.Seq.{length-take-le, take_at, drop_at, get_or-take}
use Rattle.array.specs.Words.{Words, none, more}
use Rattle.array.proofs.Words.{words_length}
use Rattle.array.specs.Array.{padded, Holds}
use Rattle.array.proofs.Painted.{painted, table, painted_is, table-length}

pub padded-length : (u : List ℕ) → length u ≤ 16 → length (padded u) ≡ 16
unfolding padded
padded-length u h = rw (length-append, length-replicate) (omega arith)

pub array_length : (n : ℕ) (xs : List ℕ) → n ≤ 16 → xs ≡ padded (take n xs) → length xs ≡ 16
array_length n xs h e = ap length e ∙ padded-length (take n xs) (rw length-take (omega arith))

pub array_fits : (n : ℕ) (xs : List ℕ) → n ≤ 16 → xs ≡ padded (take n xs) → n ≤ length xs
array_fits n xs h e = rw (array_length n xs h e) h

array_rest : (n : ℕ) (xs : List ℕ) → n ≤ 16 → xs ≡ padded (take n xs) → drop n xs ≡ replicate (16 - n) 0
unfolding padded
array_rest n xs h e =
    let l : length (take n xs) ≡ n = length-take-le n xs (array_fits n xs h e) in
    ap (drop n) e ∙ drop_at (take n xs) (replicate (16 - length (take n xs)) 0) n l ∙ ap (λ k. replicate (16 - k) 0) l

-- a loop over the n words leaves the zeros alone
pub painted_array : (n : ℕ) (f : ℕ → ℕ) (xs : List ℕ) → n ≤ 16 → xs ≡ padded (take n xs) → painted xs f n ≡ padded (table f n)
unfolding padded
painted_array n f xs h e =
    painted_is xs f n (array_fits n xs h e)
    ∙ ap (λ l. table f n ++ l) (array_rest n xs h e ∙ ap (λ k. replicate (16 - k) 0) (sym (table-length f n)))

pub take-padded : (n : ℕ) (u : List ℕ) → length u ≡ n → take n (padded u) ≡ u
unfolding padded
take-padded n u l = take_at u (replicate (16 - length u) 0) n l

pub words_at : {p n : ℕ} {u : List ℕ} → Words p n u → (i : ℕ) → i < n → get_or u i 0 < p
words_at none i h = absurd (omega arith)
words_at (more h w) zero l = h
words_at (more h w) (suc i) l = words_at w i (omega arith)

-- each of the n words is below p
pub holds_word : {p n : ℕ} {xs : List ℕ} → Holds p n xs → (i : ℕ) → i < n → get_or xs i 0 < p
holds_word {p} {n} {xs} h i l = subst (λ a. a < p) (get_or-take n xs i 0 l) (words_at h.words i l)

pub holds_padded : {p n : ℕ} {u : List ℕ} → Words p n u → Holds p n (padded u)
holds_padded {p} {n} {u} w =
    let e : take n (padded u) ≡ u = take-padded n u (words_length w) in
    record { words = subst (Words p n) (sym e) w; zeros = ap padded (sym e) }

pub padded_zeros : (n : ℕ) → n ≤ 16 → replicate 16 0 ≡ padded (replicate n 0)
unfolding padded
padded_zeros n h = rw (length-replicate {A = ℕ} n 0, replicate-append-replicate {A = ℕ} n (16 - n) 0, Nat.add-sub_of_le h)

pub take_zeros : (n : ℕ) → n ≤ 16 → take n (replicate {A = ℕ} 16 0) ≡ replicate n 0
take_zeros n h = ap (take n) (padded_zeros n h) ∙ take-padded n (replicate n 0) (length-replicate n 0)

-- of an array that is given as u and zeros
pub holds_is : {p n : ℕ} {u xs : List ℕ} → xs ≡ padded u → Words p n u → Holds p n xs
holds_is {p} {n} e w = subst (Holds p n) (sym e) (holds_padded w)

pub front_is : {p n : ℕ} {u xs : List ℕ} → xs ≡ padded u → Words p n u → take n xs ≡ u
front_is {p} {n} {u} e w = ap (take n) e ∙ take-padded n u (words_length w)

-- the end of a loop that writes n words into an array of zeros
pub painted-table : (f : ℕ → ℕ) (n i : ℕ) (w : List ℕ) → n ≤ 16 → i ≤ n → n ≤ i → w ≡ painted (replicate 16 0) f i → w ≡ padded (table f n)
painted-table f n i w short l l' e =
    let same : i ≡ n = omega arith in
    e ∙ ap (painted (replicate 16 0) f) same
    ∙ painted_array n f (replicate 16 0) short (padded_zeros n short ∙ ap padded (sym (take_zeros n short)))
