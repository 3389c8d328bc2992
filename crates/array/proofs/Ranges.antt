-- Lists f a, f (a + 1), …: their words, where two of them are equal, where their words are below p, and the loop that writes one.
use mathlib.Core.Path.{◌≡◌, refl, sym, ap, ap₂, ◌∙◌}
use mathlib.Core.List.{List, [], ◌∷◌, ◌++◌, map, append-nil}
use Prim.Native.Nat.{ℕ, zero, suc, ◌+◌, ◌≤◌, ◌<◌}
use native.Mathlib.Nat as Nat
use native.Mathlib.Omega.{arith}
use lib.ListN.{length, get_or, replicate}
use lib.Seq.{drop-length}
use Rattle.algebra.specs.Lists.{range}
use Rattle.array.specs.Array.{padded}
use Rattle.array.specs.Words.{Words, none, more}
use Rattle.array.proofs.Padded.{painted-table}
use Rattle.array.proofs.Painted.{painted, table, painted_is}
use Rattle.array.proofs.Words.{words_length}

pub range_word : (f : ℕ → ℕ) (a k i : ℕ) → i < k → get_or (map f (range a k)) i 0 ≡ f (a + i)
unfolding range
range_word f a zero i l = absurd (omega arith)
range_word f a (suc k) zero l = ap f (sym (Nat.add-zero a))
range_word f a (suc k) (suc i) l = range_word f (suc a) k i (omega arith) ∙ ap f (Nat.suc-add a i ∙ sym (Nat.add-suc a i))

pub range_same : (f g : ℕ → ℕ) (a k : ℕ) → ((x : ℕ) → x < a + k → f x ≡ g x) → map f (range a k) ≡ map g (range a k)
unfolding range
range_same f g a zero h = refl
range_same f g a (suc k) h = ap₂ ◌∷◌ (h a (omega arith)) (range_same f g (suc a) k (λ x l. h x (omega arith)))

pub range_words : {p : ℕ} (f : ℕ → ℕ) (a k : ℕ) → ((x : ℕ) → x < a + k → f x < p) → Words p k (map f (range a k))
unfolding range
range_words f a zero h = none
range_words f a (suc k) h = more (h a (omega arith)) (range_words f (suc a) k (λ x l. h x (omega arith)))

pub table-range : (f g : ℕ → ℕ) (a n : ℕ) → ((k : ℕ) → g k ≡ f (a + k)) → table g n ≡ map f (range a n)
unfolding table range
table-range f g a zero h = refl
table-range f g a (suc n) h =
    ap₂ ◌∷◌ (h 0 ∙ ap f (Nat.add-zero a)) (table-range f (λ k. g (suc k)) (suc a) n (λ k. h (suc k) ∙ ap f (Nat.add-suc a k ∙ sym (Nat.suc-add a k))))

-- the end of a loop that writes the n words of a list
pub painted-range : (f : ℕ → ℕ) (n i : ℕ) (w₀ w : List ℕ) → length w₀ ≡ n → i ≤ n → n ≤ i → w ≡ painted w₀ f i → w ≡ map f (range 0 n)
painted-range f n i w₀ w size l l' e =
    let same : i ≡ length w₀ = omega arith in
    e ∙ ap (painted w₀ f) same
    ∙ painted_is w₀ f (length w₀) (Nat.le_refl (length w₀))
    ∙ ap (λ xs. table f (length w₀) ++ xs) (drop-length w₀)
    ∙ append-nil _
    ∙ table-range f f 0 (length w₀) (λ k. ap f (sym (Nat.zero-add k)))
    ∙ ap (λ k. map f (range 0 k)) size

-- of an array of zeros into which it writes n words
pub painted_done : (f : ℕ → ℕ) (n i : ℕ) (w : List ℕ) → n ≤ 16 → i ≤ n → n ≤ i → w ≡ painted (replicate 16 0) f i → w ≡ padded (map f (range 0 n))
painted_done f n i w short l l' e = painted-table f n i w short l l' e ∙ ap padded (table-range f f 0 n (λ k. ap f (sym (Nat.zero-add k))))

-- a list of n words that are those of f

table_of : (f : ℕ → ℕ) (l : List ℕ) → ((i : ℕ) → i < length l → f i ≡ get_or l i 0) → table f (length l) ≡ l
unfolding table
table_of f [] h = refl
table_of f (a ∷ l) h = ap₂ ◌∷◌ (h 0 (omega arith)) (table_of (λ k. f (suc k)) l (λ i m. h (suc i) (omega arith)))

pub words_range : {p n : ℕ} (f : ℕ → ℕ) {u : List ℕ} → Words p n u → ((i : ℕ) → i < n → f i ≡ get_or u i 0) → map f (range 0 n) ≡ u
words_range {p} {n} f {u} w h =
    let size : length u ≡ n = words_length w in
    sym (table-range f f 0 n (λ k. ap f (sym (Nat.zero-add k)))) ∙ ap (table f) (sym size) ∙ table_of f u (λ i l. h i (rw size at l))

-- a list of zeros
pub zeros_word : (k i : ℕ) → get_or {A = ℕ} (replicate k 0) i 0 ≡ 0
zeros_word zero i = refl
zeros_word (suc k) zero = refl
zeros_word (suc k) (suc i) = zeros_word k i
