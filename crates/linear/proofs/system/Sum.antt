-- Sums of n terms, and row products as such sums.
--   sum_to f n   f 0 + f 1 + … + f (n − 1)
use mathlib.Core.Path.{◌≡◌, refl, sym, ap, ap₂, ◌∙◌}
use mathlib.Core.List.{List, [], ◌∷◌}
use Prim.Native.Nat.{ℕ, zero, suc, ◌+◌, ◌*◌, ◌≤◌, ◌<◌}
use native.Mathlib.Decide.{ℕ_discrete}
use native.Mathlib.Omega.{arith}
use lib.ListN.{length, get_or}
use Rattle.array.specs.Array.{entry, row_product}

sum_to : (ℕ → ℕ) → ℕ → ℕ
sum_to f zero = 0
sum_to f (suc n) = sum_to f n + f n

sum_ext : (f g : ℕ → ℕ) (n : ℕ) → ((k : ℕ) → k < n → f k ≡ g k) → sum_to f n ≡ sum_to g n
unfolding sum_to
sum_ext f g zero h = refl
sum_ext f g (suc n) h = ap₂ ◌+◌ (sum_ext f g n (λ k l. h k (omega arith))) (h n (omega arith))

-- The first term apart.
sum_first : (f : ℕ → ℕ) (n : ℕ) → sum_to f (suc n) ≡ f 0 + sum_to (λ k. f (suc k)) n
unfolding sum_to
sum_first f zero = omega arith
sum_first f (suc n) = let ih = sum_first f n in omega arith

-- Terms from c on that are 0 add nothing.
sum_tail : (f : ℕ → ℕ) (c n : ℕ) → c ≤ n → ((k : ℕ) → c ≤ k → k < n → f k ≡ 0) → sum_to f n ≡ sum_to f c
unfolding sum_to
sum_tail f c zero l h = let e : 0 ≡ c = omega arith in ap (sum_to f) e
sum_tail f c (suc n) l h = go (ℕ_discrete c (suc n)) (λ g. sum_tail f c n g (λ k a b. h k a (omega arith)))
  where
    go : Dec (c ≡ suc n) → (c ≤ n → sum_to f n ≡ sum_to f c) → sum_to f n + f n ≡ sum_to f c
    go (yes e) ih = ap (sum_to f) (sym e)
    go (no d) ih = let a = ih (omega arith) in let b = h n (omega arith) (omega arith) in omega arith

sum-zero : (f : ℕ → ℕ) (n : ℕ) → ((k : ℕ) → k < n → f k ≡ 0) → sum_to f n ≡ 0
unfolding sum_to
sum-zero f n h = sum_tail f 0 n (omega arith) (λ k _ l. h k l)

-- Only the term at i is not 0.
sum_single : (f : ℕ → ℕ) (i n : ℕ) → i < n → ((k : ℕ) → k < n → (k ≡ i → ⊥) → f k ≡ 0) → sum_to f n ≡ f i
unfolding sum_to
sum_single f i n l h =
    let tail : sum_to f n ≡ sum_to f i + f i = sum_tail f (suc i) n l (λ k a b. h k b (omega arith)) in
    let front : sum_to f i ≡ 0 = sum-zero f i (λ k a. h k (omega arith) (omega arith)) in
    omega arith

-- Only the terms at i and at c are not 0.
sum_double : (f : ℕ → ℕ) (i c n : ℕ) → i < c → c < n → ((k : ℕ) → k < n → (k ≡ i → ⊥) → (k ≡ c → ⊥) → f k ≡ 0) → sum_to f n ≡ f i + f c
unfolding sum_to
sum_double f i c n l g h =
    let tail : sum_to f n ≡ sum_to f c + f c = sum_tail f (suc c) n g (λ k a b. h k b (omega arith) (omega arith)) in
    let front : sum_to f c ≡ f i = sum_single f i c l (λ k a d. h k (omega arith) d (omega arith)) in
    omega arith

offset_sum : (m : List ℕ) (i : ℕ) (v : List ℕ) (j : ℕ) → row_product m i j v ≡ sum_to (λ k. entry m i (j + k) * get_or v k 0) (length v)
unfolding row_product
offset_sum m i [] j = unfold sum_to in refl
offset_sum m i (a ∷ v) j =
    ap₂ ◌+◌ (ap (λ z. entry m i z * a) (omega arith)) (offset_sum m i v (suc j) ∙ sum_ext (λ k. entry m i (suc j + k) * get_or v k 0) (λ k. entry m i (j + suc k) * get_or v k 0) (length v) (λ k _. ap (λ z. entry m i z * get_or v k 0) (omega arith)))
    ∙ sym (sum_first (λ k. entry m i (j + k) * get_or (a ∷ v) k 0) (length v))

term : List ℕ → ℕ → List ℕ → ℕ → ℕ
term m i v k = entry m i k * get_or v k 0

product_sum : (m : List ℕ) (i : ℕ) (v : List ℕ) → row_product m i 0 v ≡ sum_to (term m i v) (length v)
unfolding term
product_sum m i v =
    offset_sum m i v 0
    ∙ sum_ext (λ k. entry m i (0 + k) * get_or v k 0) (term m i v) (length v) (λ k _. ap (λ z. entry m i z * get_or v k 0) (omega arith))

module _ (m : List ℕ) (i n : ℕ) (v : List ℕ) (l : length v ≡ n) where
  -- Every term is 0.
  pub product_zero : ((k : ℕ) → k < n → entry m i k * get_or v k 0 ≡ 0) → row_product m i 0 v ≡ 0
  unfolding term
  product_zero h = product_sum m i v ∙ sum-zero (term m i v) (length v) (λ k g. h k (rw (← l) g))

  -- Only the term at d is not 0.
  pub product_single : (d : ℕ) → d < n → ((k : ℕ) → k < n → (k ≡ d → ⊥) → entry m i k * get_or v k 0 ≡ 0)
      → row_product m i 0 v ≡ entry m i d * get_or v d 0
  unfolding term
  product_single d g h = product_sum m i v ∙ sum_single (term m i v) d (length v) (rw l g) (λ k a e. h k (rw (← l) a) e)

  -- Only the terms at d and at c are not 0.
  pub product_double : (d c : ℕ) → d < c → c < n → ((k : ℕ) → k < n → (k ≡ d → ⊥) → (k ≡ c → ⊥) → entry m i k * get_or v k 0 ≡ 0)
      → row_product m i 0 v ≡ entry m i d * get_or v d 0 + entry m i c * get_or v c 0
  unfolding term
  product_double d c g b h = product_sum m i v ∙ sum_double (term m i v) d c (length v) g (rw l b) (λ k a e f. h k (rw (← l) a) e f)
