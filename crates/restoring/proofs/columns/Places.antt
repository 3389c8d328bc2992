-- Places of a table in groups of n words, by their column: the remainder by n.
use mathlib.Core.Path.{◌≡◌, sym, ap, ◌∙◌}
use Prim.Native.Nat.{ℕ, suc, ◌+◌, ◌-◌, ◌*◌, ◌/◌, ◌%◌, ◌≤◌, ◌<◌}
use native.Mathlib.Decide.{dec_lt}
use native.Mathlib.Nat as Nat
use native.Mathlib.Omega.{arith}

module _ (n k j : ℕ) (column : k % n ≡ j) where
  moved : (d : ℕ) → (k + d) % n ≡ (j + d) % n
  moved d = sym (Nat.mod-add-mod k n d) ∙ ap (λ c. (c + d) % n) column

  -- d places on, in the same group
  pub column_on : (d : ℕ) → j + d < n → (k + d) % n ≡ j + d
  column_on d l = moved d ∙ Nat.mod-eq_of_lt l

  -- and in the next
  column_next : (d : ℕ) → d < n → j < n → n ≤ j + d → (k + d) % n ≡ j + d - n
  column_next d l h m = moved d ∙ Nat.mod-eq-sub-mod m ∙ Nat.mod-eq_of_lt (omega arith)

  pub same_column : (k + n) % n ≡ j
  same_column = Nat.add-mod_right k n ∙ column

  -- from k on, of the next n places those of the columns j to j + w − 1 are the first w
  pub in_row : (w i : ℕ) → j + w ≤ n → k ≤ i → i < k + n → j ≤ i % n → i % n < j + w → i < k + w
  in_row w i wide low high left right = go (dec_lt (j + (i - k)) n)
    where
      same : k + (i - k) ≡ i
      same = omega arith

      go : Dec (j + (i - k) < n) → i < k + w
      go (yes l) =
          let at : i % n ≡ j + (i - k) = ap (λ x. x % n) (sym same) ∙ column_on (i - k) l in
          omega arith
      go (no l) =
          let at : i % n ≡ j + (i - k) - n = ap (λ x. x % n) (sym same) ∙ column_next (i - k) (omega arith) (omega arith) (omega arith) in
          absurd (omega arith)

  -- a table of whole groups has all w places where it has the first
  pub row_fits : (w l : ℕ) → 1 ≤ n → j + w ≤ n → l % n ≡ 0 → k < l → k + w ≤ l
  row_fits w l positive wide whole inside =
      let here : k / n * n + k % n ≡ k = Nat.div-add-mod' k n in
      let all : l / n * n + l % n ≡ l = Nat.div-add-mod' l n in
      let fewer : k / n < l / n = Nat.lt_of_mul-lt-mul_right n (omega arith) in
      let next : suc (k / n) * n ≤ l / n * n = Nat.mul-le-mul_right n fewer in
      omega arith
