-- Loops that write the entries of a list one after another.
--   painted xs f k   xs with f 0, …, f (k − 1) in place of its first k entries
--   table f n        the list of f 0, …, f (n − 1)
-- A loop that writes entry j in its turn j has the invariant `w ≡ painted w₀ f j`; `painted_is` says what has become of the list at its end.
use mathlib.Core.Path.{◌≡◌, refl, sym, ap, ap₂, ◌∙◌}
use mathlib.Core.List.{List, [], ◌∷◌, ◌++◌}
use Prim.Native.Nat.{ℕ, zero, suc, ◌+◌, ◌≤◌}
use native.Mathlib.Numerals.{add-one}
use native.Mathlib.Omega.{arith}
use lib.ListN.{length, get_or, drop, set, length-set}
use lib.Seq.{get_or-set_other, drop-cons, set_at, append_snoc}

unfoldable pub painted : List ℕ → (ℕ → ℕ) → ℕ → List ℕ
painted xs f zero = xs
painted xs f (suc k) = set (painted xs f k) k (f k)

unfoldable pub table : (ℕ → ℕ) → ℕ → List ℕ
table f zero = []
table f (suc n) = f 0 ∷ table (λ k. f (suc k)) n

pub painted_none : (xs : List ℕ) (f : ℕ → ℕ) → xs ≡ painted xs f 0
unfolding painted
painted_none xs f = refl

pub painted_next : (xs : List ℕ) (f : ℕ → ℕ) (k : ℕ) → set (painted xs f k) k (f k) ≡ painted xs f (k + 1)
unfolding painted
painted_next xs f k = rw (add-one k)

-- a turn that writes r = f k
pub painted_turn : (f : ℕ → ℕ) (k r : ℕ) (xs w : List ℕ) → r ≡ f k → w ≡ painted xs f k → set w k r ≡ painted xs f (k + 1)
painted_turn f k r xs w g e = ap₂ (λ l a. set l k a) e g ∙ painted_next xs f k

pub painted-length : (xs : List ℕ) (f : ℕ → ℕ) (k : ℕ) → length (painted xs f k) ≡ length xs
unfolding painted
painted-length xs f zero = refl
painted-length xs f (suc k) = length-set (painted xs f k) k (f k) ∙ painted-length xs f k

-- what is not yet written is as it was
pub painted_above : (xs : List ℕ) (f : ℕ → ℕ) (k j : ℕ) → k ≤ j → get_or (painted xs f k) j 0 ≡ get_or xs j 0
unfolding painted
painted_above xs f zero j h = refl
painted_above xs f (suc k) j h = get_or-set_other (painted xs f k) k j (f k) 0 (omega arith) ∙ painted_above xs f k j (omega arith)

pub table-length : (f : ℕ → ℕ) (n : ℕ) → length (table f n) ≡ n
unfolding table
table-length f zero = refl
table-length f (suc n) = ap suc (table-length (λ k. f (suc k)) n)

table_last : (f : ℕ → ℕ) (n : ℕ) → table f (suc n) ≡ table f n ++ f n ∷ []
unfolding table
table_last f zero = refl
table_last f (suc n) = ap (λ l. f 0 ∷ l) (table_last (λ k. f (suc k)) n)

pub painted_is : (xs : List ℕ) (f : ℕ → ℕ) (n : ℕ) → n ≤ length xs → painted xs f n ≡ table f n ++ drop n xs
unfolding painted
painted_is xs f zero h = unfold table in refl
painted_is xs f (suc n) h =
    ap (λ l. set l n (f n)) (painted_is xs f n (omega arith) ∙ ap (λ l. table f n ++ l) (drop-cons xs n 0 h))
    ∙ set_at (table f n) (get_or xs n 0) (drop (suc n) xs) (f n) n (table-length f n)
    ∙ sym (append_snoc (table f n) (f n) (drop (suc n) xs))
    ∙ ap (λ l. l ++ drop (suc n) xs) (sym (table_last f n))
