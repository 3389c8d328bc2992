-- The matrix whose columns are the powers of S is that of u ↦ u(S): for each row i, word i of u(S) is the product of the row with u, modulo p.
-- For u(S) is the sum of the u_j·S^j.
use mathlib.Core.Path.{◌≡◌, refl, sym, ap, ap₂, ◌∙◌}
use mathlib.Core.List.{List, [], ◌∷◌}
use Prim.Native.Nat.{ℕ, suc, ◌+◌, ◌*◌, ◌%◌, ◌≤◌, ◌<◌}
use native.Mathlib.Nat as Nat
use native.Mathlib.Omega.{arith}
use lib.ListN.{length, get_or, take, get_or-replicate}
use Rattle.array.specs.Words.{Words}
use Rattle.quotient.specs.Residue.{constant, power, substitute}
use Rattle.quotient.specs.Theorem.{sum_of_powers}
use Rattle.quotient.proofs.SumOfPowers.{sum_word, scale_word, sum_of_powers_words, substitute_sum}
use Rattle.quotient.proofs.Operations.{constant-zero, power_words, substitute_words, scale_words}
use Rattle.array.proofs.Words.{words_length}
use Rattle.array.specs.Array.{padded, Holds, entry, Square, row_product}
use Rattle.matrix.specs.Matrix.{Powers, column, matrix_product, dot}
use Rattle.array.proofs.Padded.{words_at}
use Rattle.array.proofs.Ranges.{words_range}

-- the product of a row with u, where f j is the row's word j
pub row_dot : (m : List ℕ) (i k : ℕ) (u : List ℕ) (f : ℕ → ℕ) → ((j : ℕ) → j < length u → f j ≡ entry m i (k + j)) → row_product m i k u ≡ dot f u
unfolding row_product dot
row_dot m i k [] f h = refl
row_dot m i k (a ∷ u) f h =
    ap₂ (λ x y. x * a + y) (sym (h 0 (omega arith) ∙ ap (entry m i) (Nat.add-zero k)))
    (row_dot m i (suc k) u (λ j. f (suc j)) (λ j l. h (suc j) (omega arith) ∙ ap (entry m i) (Nat.add-suc k j ∙ sym (Nat.suc-add k j))))

module _ {p n : ℕ} {t s : List ℕ} (big : 2 ≤ p) (wt : Words p n t) (ws : Words p n s) (i : ℕ) (l : i < n) where
  -- word i of the sum of the powers from k on, where f j is word i of S^(k + j)
  power_sum_word : (u : List ℕ) (k : ℕ) (f : ℕ → ℕ) → ((j : ℕ) → j < length u → f j ≡ get_or (power p t s (k + j)) i 0)
      → get_or (sum_of_powers p t s k u) i 0 ≡ dot f u % p
  unfolding dot sum_of_powers
  power_sum_word [] k f h = ap (λ x. get_or x i 0) (ap (λ x. constant x 0) (words_length wt) ∙ constant-zero n) ∙ get_or-replicate n i 0 0 l ∙ sym (Nat.zero-mod p)
  power_sum_word (c ∷ u) k f h =
      let wk : Words p n (power p t s k) = power_words big wt ws k in
      sum_word (scale_words c wk) (sum_of_powers_words big wt ws (suc k) u) i l
      ∙ ap₂ (λ x y. (x + y) % p)
      (scale_word c wk i l ∙ ap (λ x. x % p) (ap (λ x. c * x) (sym (h 0 (omega arith) ∙ ap (λ x. get_or (power p t s x) i 0) (Nat.add-zero k))) ∙ Nat.mul_comm c (f 0)))
      (power_sum_word u (suc k) (λ j. f (suc j)) (λ j b. h (suc j) (omega arith) ∙ ap (λ x. get_or (power p t s x) i 0) (Nat.add-suc k j ∙ sym (Nat.suc-add k j))))
      ∙ Nat.mod-add-mod (f 0 * c) p _ ∙ Nat.add-mod-mod (f 0 * c) _ p

  -- word i of u(S), where f j is word i of S^j
  pub dot_substitutes : {u : List ℕ} → Words p n u → (f : ℕ → ℕ) → ((j : ℕ) → j < n → f j ≡ get_or (power p t s j) i 0)
      → dot f u % p ≡ get_or (substitute p t s u) i 0
  dot_substitutes {u} wu f h =
      sym (ap (λ x. get_or x i 0) (substitute_sum big wt (s, ws) u)
      ∙ power_sum_word u 0 f (λ j b. h j (omega (arith, words_length wu)) ∙ ap (λ x. get_or (power p t s x) i 0) (sym (Nat.zero-add j))))

module _ {p n : ℕ} {t s m : List ℕ} (big : 2 ≤ p) (wt : Words p n t) (ws : Words p n s) (h : Powers p n t s m) where
  power_word : (i j : ℕ) → i < n → j < n → entry m i j ≡ get_or (power p t s j) i 0
  power_word i j li lj = h.words i j (rw (words_length wt) li) lj

  -- the words of the matrix are below p
  pub powers_square : Square p n m
  powers_square = record { size = h.size; below = λ i j li lj. rw (power_word i j li lj) (words_at (power_words big wt ws j) i li) }

  pub column-power : (j : ℕ) → j < n → column n m j ≡ power p t s j
  unfolding column
  column-power j l = words_range (λ i. entry m i j) (power_words big wt ws j) (λ i k. power_word i j k l)

  -- word i of f(S)
  pub row_substitutes : {f : List ℕ} → Words p n f → (i : ℕ) → i < n → row_product m i 0 f % p ≡ get_or (substitute p t s f) i 0
  row_substitutes {f} wf i l =
      ap (λ x. x % p) (row_dot m i 0 f (entry m i) (λ j b. ap (entry m i) (sym (Nat.zero-add j)))) ∙ dot_substitutes big wt ws i l wf (entry m i) (λ j b. power_word i j l b)

  pub product_substitutes : {u : List ℕ} → Words p n u → matrix_product p n m u ≡ substitute p t s u
  unfolding matrix_product
  product_substitutes {u} wu = words_range (λ i. row_product m i 0 u % p) (substitute_words big wt ws wu) (row_substitutes wu)

-- the same of arrays that hold T, S and u

module _ (p n : ℕ) (t s m : List ℕ) (big : 2 ≤ p) (x : Holds p n t) (y : Holds p n s) (h : Powers p n (take n t) (take n s) m) where
  pub square_of_powers : Square p n m
  square_of_powers = powers_square big x.words y.words h

  pub column_is_power : (j : ℕ) (r : List ℕ) → j < n → r ≡ padded (column n m j) → r ≡ padded (power p (take n t) (take n s) j)
  column_is_power j r l e = e ∙ ap padded (column-power big x.words y.words h j l)

  pub apply_is_substitute : (u r : List ℕ) → Holds p n u → r ≡ padded (matrix_product p n m (take n u)) → r ≡ padded (substitute p (take n t) (take n s) (take n u))
  apply_is_substitute u r z e = e ∙ ap padded (product_substitutes big x.words y.words h z.words)
