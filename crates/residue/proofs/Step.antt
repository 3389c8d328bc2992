-- The loop of a step of Horner's rule with delayed reduction: no sum overflows, the bound of the entries grows by 3·p², and the array at the
-- loop's end is that of the next step.
use mathlib.Core.Path.{◌≡◌, sym, ap, subst, ◌∙◌}
use mathlib.Core.List.{List, [], ◌∷◌}
use Prim.Native.Nat.{ℕ, zero, suc, ◌+◌, ◌-◌, ◌*◌, ◌%◌, ◌^◌, ◌≤◌, ◌<◌}
use native.Mathlib.Nat as Nat
use native.Mathlib.Numerals.{add-one}
use native.Mathlib.Omega.{arith}
use lib.ListN.{length, get_or, take, set}
use lib.Seq.{get_or-take, length-take-le}
use mir.Syntax.{w64}
use mir.Val.{Fits}
use Rattle.algebra.specs.Lists.{All}
use Rattle.quotient.specs.Residue.{sum, scale, times_x}
use Rattle.array.specs.Array.{padded, Holds}
use Rattle.residue.specs.Delayed.{reduced, Delayed, Stepped}
use Rattle.array.proofs.Painted.{painted, table, table-length, painted_turn, painted_above}
use Rattle.array.proofs.Padded.{array_fits, painted_array, take-padded, holds_word}
use Rattle.residue.proofs.Horner.{term, step_mod}

all_table : (P : ℕ → Type 0) (f : ℕ → ℕ) (n : ℕ) → ((k : ℕ) → k < n → P (f k)) → All P (table f n)
unfolding table
all_table P f zero h = tt
all_table P f (suc n) h = (h 0 (omega arith), all_table P (λ k. f (suc k)) n (λ k l. h (suc k) (omega arith)))

all_at : (P : ℕ → Type 0) (u : List ℕ) → All P u → (i : ℕ) → i < length u → P (get_or u i 0)
all_at P [] h i l = absurd (omega arith)
all_at P (a ∷ u) h zero l = h.0
all_at P (a ∷ u) h (suc i) l = all_at P u h.1 i (omega arith)

pub delayed_word : {p n m : ℕ} {s xs : List ℕ} → Delayed p n m s xs → n ≤ 16 → (k : ℕ) → k < n → get_or xs k 0 ≤ m * (3 * (p * p))
delayed_word {p} {n} {m} {s} {xs} d b k l =
    subst (λ a. a ≤ m * (3 * (p * p))) (get_or-take n xs k 0 l)
    (all_at (λ a. a ≤ m * (3 * (p * p))) (take n xs) d.small k (rw (length-take-le n xs (array_fits n xs b d.zeros)) l))

-- the word below entry k, before it is overwritten
delayed_carry : {p n m : ℕ} {s xs : List ℕ} → Delayed p n m s xs → n ≤ 16 → (k : ℕ) → k ≤ n → get_or (0 ∷ xs) k 0 ≤ m * (3 * (p * p))
delayed_carry d b zero l = omega arith
delayed_carry d b (suc k) l = delayed_word d b k l

pub word_few : {p n : ℕ} {xs : List ℕ} → Holds p n xs → p ≤ 2 ^ 20 → (j : ℕ) → j < n → get_or xs j 0 < 2 ^ 20
word_few h b j l = omega (arith, holds_word h j l)

pub word_short : {p n : ℕ} {xs : List ℕ} → Holds p n xs → p ≤ 2 ^ 20 → (j : ℕ) → j < n → get_or xs j 0 < 2 ^ 32
word_short h b j l = omega (arith, word_few h b j l)

pub top_short : {p n : ℕ} {xs : List ℕ} → Holds p n xs → p ≤ 2 ^ 20 → 1 ≤ n → get_or xs (n - 1) 0 < 2 ^ 32
top_short {n = n} x b some = word_short x b (n - 1) (omega arith)

module _ (p n j q : ℕ) (t : List ℕ) (short : n ≤ 16) (bound : q ≤ 2 * p) (x : Holds p n t) (lj : j < n) where
  pub taken_small : q * get_or t j 0 ≤ 2 * p * p
  taken_small = Nat.mul-le-mul bound (omega (arith, holds_word x j lj))

  entry_small : (c : ℕ) (v : List ℕ) → c < p → Holds p n v → {k : ℕ} {a w : List ℕ} → Delayed p n k a w
      → get_or (0 ∷ w) j 0 + q * get_or t j 0 + c * get_or v j 0 ≤ (k + 1) * (3 * (p * p))
  entry_small c v lc z d =
      let added : c * get_or v j 0 ≤ p * p = Nat.mul-le-mul (Nat.le_of_lt lc) (Nat.le_of_lt (holds_word z j lj)) in
      omega (arith, taken_small, delayed_carry d short j (omega arith))

  -- no sum of the loop's turn overflows; y is its product
  pub carry_fits : (carry y : ℕ) (w a : List ℕ) → p ≤ 2 ^ 20 → Delayed p n 16 a w → carry ≡ get_or (0 ∷ w) j 0 → y ≡ q * get_or t j 0 → Fits w64 (carry + y)
  carry_fits carry y w a small d e f = omega (arith, taken_small, delayed_carry d short j (omega arith), Nat.mul-le-mul small small)

-- turn j writes entry j of the next step
pub step_turn : (q carry a j : ℕ) (t w w' : List ℕ) → carry ≡ get_or (0 ∷ w) j 0 → a ≡ q * get_or t j 0
    → w' ≡ painted w (term q 0 0 t t w) j → set w' j (carry + a) ≡ painted w (term q 0 0 t t w) (j + 1)
unfolding term
step_turn q carry a j t w w' f g e = painted_turn (term q 0 0 t t w) j (carry + a) w w' (omega arith) e

pub carry_turn : (f : ℕ → ℕ) (j : ℕ) (w w' : List ℕ) → w' ≡ painted w f j → get_or w' j 0 ≡ get_or (0 ∷ w) (j + 1) 0
carry_turn f j w w' e = rw (add-one j, e) (painted_above w f j j (omega arith))

-- the loop's end
pub step_done : (p n j q c : ℕ) (t v w w' : List ℕ) → 2 ≤ p → 1 ≤ n → n ≤ 16 → c < p → Holds p n t → Holds p n v
    → q ≤ 2 * p → (q + get_or w (n - 1) 0) % p ≡ 0 → j ≤ n → n ≤ j → w' ≡ painted w (term q c 0 t v w) j
    → Stepped p n (take n t) c (take n v) w w'
step_done p n j q c t v w w' big pos g h x z b o l l' e = record {
  next = λ k s d.
      let entry : ℕ → ℕ = term q c 0 t v w in
      let same : j ≡ n = omega arith in
      let whole : w' ≡ padded (table entry n) = e ∙ ap (painted w entry) same ∙ painted_array n entry w g d.zeros in
      let front : take n w' ≡ table entry n = ap (take n) whole ∙ take-padded n (table entry n) (table-length entry n) in
      record {
        words =
            ap (reduced p) front
            ∙ step_mod p q c n t v w (omega arith) pos (array_fits n t g x.zeros) (array_fits n v g z.zeros) (array_fits n w g d.zeros) o
            ∙ ap (λ s. sum p (scale p c (take n v)) (times_x p (take n t) s)) d.words;
        small = subst (All (λ a. a ≤ (k + 1) * (3 * (p * p)))) (sym front)
            (all_table (λ a. a ≤ (k + 1) * (3 * (p * p))) entry n (λ i m. unfold term in entry_small p n i q t g b x m c v h z d));
        zeros = whole ∙ ap padded (sym front);
      };
}

pub step_alone : (p n j q : ℕ) (t w w' : List ℕ) → 2 ≤ p → 1 ≤ n → n ≤ 16 → Holds p n t → q ≤ 2 * p → (q + get_or w (n - 1) 0) % p ≡ 0
    → j ≤ n → n ≤ j → w' ≡ painted w (term q 0 0 t t w) j → Stepped p n (take n t) 0 (take n t) w w'
step_alone p n j q t w w' big some short x b o l l' e = step_done p n j q 0 t t w w' big some short (omega arith) x x b o l l' e
