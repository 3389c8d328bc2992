-- The vector that `kernel_vector` fills: where column c is 0 from row c on, the matrix takes (−m[0][c], …, −m[c−1][c], 1, 0, …) to 0.
--   Filled p c k m v   the words of v before word k are those of column c, negated; word c is 1, and the words after it are 0
use mathlib.Core.Path.{◌≡◌, sym, ap, ◌∙◌}
use mathlib.Core.List.{List}
use Prim.Native.Nat.{ℕ, ◌+◌, ◌-◌, ◌*◌, ◌%◌, ◌≤◌, ◌<◌}
use native.Mathlib.Decide.{ℕ_discrete, dec_lt}
use native.Mathlib.Nat.{mod_self, mod-lt, zero-mod, mod-add-mod}
use native.Mathlib.Omega.{arith}
use lib.ListN.{length, get_or, take, set, replicate, length-set}
use lib.Seq.{get_or-set_same, get_or-set_other, get_or-take}
use Rattle.linear.proofs.system.Sum.{product_zero, product_double}
use Rattle.linear.proofs.system.Vectors.{zero_beyond, holds_of}
use Rattle.array.specs.Array.{entry, row_product, Holds}
use Rattle.array.proofs.Words.{words_length}
use Rattle.linear.specs.System.{Singular}
use Rattle.linear.specs.Elimination.{Identity, Pivot}

pub record Filled (p c k : ℕ) (m v : List ℕ) : Type 0 where
  pub size : length v ≡ 16
  pub front : (j : ℕ) → j < k → get_or v j 0 ≡ (0 + (p - entry m j c)) % p
  pub one : get_or v c 0 ≡ 1
  pub after : (j : ℕ) → c < j → get_or v j 0 ≡ 0

pub fill_start : (p n c : ℕ) (m : List ℕ) → n ≤ 16 → c < n → Filled p c 0 m (set (replicate 16 0) c 1)
fill_start p n c m small h =
    record {
      size = length-set (replicate 16 0) c 1;
      front = λ j l. absurd (omega arith);
      one = get_or-set_same (replicate 16 0) c 1 0 (omega arith);
      after = λ j l. get_or-set_other (replicate 16 0) c j 1 0 (omega arith) ∙ zero_beyond 16 j;
    }

module _ (p n c k : ℕ) (m v : List ℕ) (prime : 2 ≤ p) (small : n ≤ 16) (column : c < n) (I : Identity p n c m) (P : Pivot n c m n) (F : Filled p c k m v) (full : c ≤ k)
  where
    kernel_below : (j : ℕ) → j < n → get_or v j 0 < p
    kernel_below j h = go (dec_lt j c) (ℕ_discrete j c)
      where
        go : Dec (j < c) → Dec (j ≡ c) → get_or v j 0 < p
        go (yes l) d = rw (F.front j (omega arith)) (mod-lt (0 + (p - entry m j c)) (omega arith))
        go (no l) (yes e) = rw (e, F.one) prime
        go (no l) (no d) = rw (F.after j (omega arith)) (omega arith)

    pub kernel_holds : Holds p n v
    kernel_holds = holds_of p n v small F.size kernel_below (λ j h. F.after j (omega arith))

    word : (j : ℕ) → j < n → get_or (take n v) j 0 ≡ get_or v j 0
    word j h = get_or-take n v j 0 h

    kernel_length : length (take n v) ≡ n
    kernel_length = words_length kernel_holds.words

    -- Left of column c a word of row i is 0 but for column i, and right of it a word of v is 0.
    other_terms : (i j : ℕ) → i < n → j < n → (j < c → j ≡ i → ⊥) → (j ≡ c → ⊥) → entry m i j * get_or (take n v) j 0 ≡ 0
    other_terms i j h g d e = go (dec_lt j c)
      where
        go : Dec (j < c) → entry m i j * get_or (take n v) j 0 ≡ 0
        go (yes l) = rw (I.others i j h l (λ z. d l (sym z))) (omega arith)
        go (no l) = rw (word j g, F.after j (omega arith)) (omega arith)

    -- v_i + m_ic·1 = (p − m_ic) + m_ic
    cancels : (e q r s : ℕ) → e < p → q ≡ 1 → r ≡ (0 + (p - e)) % p → s ≡ 1 → (q * r + e * s) % p ≡ 0
    cancels e q r s l hq hr hs =
        let a : 1 * ((0 + (p - e)) % p) + e * 1 ≡ (0 + (p - e)) % p + e = omega arith in
        let b : 0 + (p - e) + e ≡ p = omega arith in
        rw (hq, hr, hs) (ap (λ z. z % p) a ∙ mod-add-mod (0 + (p - e)) p e ∙ ap (λ z. z % p) b ∙ mod_self p)

    kernel_row : (i : ℕ) → i < n → row_product m i 0 (take n v) % p ≡ 0
    kernel_row i h = go (dec_lt i c)
      where
        go : Dec (i < c) → row_product m i 0 (take n v) % p ≡ 0
        go (yes l) =
            ap (λ z. z % p) (product_double m i n (take n v) kernel_length i c l column (λ j g d e. other_terms i j h g (λ _. d) e))
            ∙ cancels (entry m i c) (entry m i i) (get_or (take n v) i 0) (get_or (take n v) c 0) (I.square.below i c h column) (I.diagonal i l)
            (word i h ∙ F.front i (omega arith)) (word c column ∙ F.one)
        go (no l) = ap (λ z. z % p) (product_zero m i n (take n v) kernel_length (λ j g. term j g (ℕ_discrete j c))) ∙ zero-mod p
          where
            term : (j : ℕ) → j < n → Dec (j ≡ c) → entry m i j * get_or (take n v) j 0 ≡ 0
            term j g (yes e) = rw (e, P.zeros i (omega arith) h) (omega arith)
            term j g (no d) = other_terms i j h g (λ a e. omega arith) d

    pub kernel_singular : Singular p n m (take n v)
    kernel_singular =
        record {
          nonzero = λ e. different (sym (word c column ∙ F.one) ∙ ap (λ z. get_or z c 0) e ∙ zero_beyond n c);
          solves = λ i h. kernel_row i h ∙ sym (zero-mod p);
        }
      where
        different : ◌≡◌ {A = ℕ} 1 0 → ⊥
        different e = omega arith
