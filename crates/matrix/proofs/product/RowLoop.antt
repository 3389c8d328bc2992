-- The loop that multiplies a row with u.
--   Term p i j m u r      r is the product of word j of row i with word j of u, and at most p²
--   RowSum p i m u j s    s is the sum of the first j such products
use mathlib.Core.Path.{◌≡◌, refl, sym, ap, ap₂, ◌∙◌}
use mathlib.Core.List.{List, [], ◌∷◌, ◌++◌}
use Prim.Native.Nat.{ℕ, zero, suc, ◌+◌, ◌-◌, ◌*◌, ◌%◌, ◌^◌, ◌≤◌, ◌<◌}
use native.Mathlib.Nat as Nat
use native.Mathlib.Decide.{dec_lt}
use native.Mathlib.Numerals.{add-one}
use native.Mathlib.Omega.{arith}
use lib.ListN.{length, get_or, take, replicate, length-take}
use lib.Seq.{take-suc, take_all, length-take-le}
use mir.Syntax.{w64}
use mir.Val.{Fits}
use Rattle.array.specs.Words.{Words, word_bound}
use Rattle.array.specs.Array.{padded, Holds, entry, Square, row_product}
use Rattle.array.proofs.Words.{words_length}
use Rattle.array.proofs.Padded.{holds_word, words_at, array_length}
use Rattle.matrix.specs.Matrix.{Factors}

-- one product

zeros_after : (v : List ℕ) (k j : ℕ) → length v ≤ j → get_or (v ++ replicate k 0) j 0 ≡ 0
zeros_after [] zero j h = refl
zeros_after [] (suc k) zero h = refl
zeros_after [] (suc k) (suc j) h = zeros_after [] k j (omega arith)
zeros_after (a ∷ v) k zero h = absurd (omega arith)
zeros_after (a ∷ v) k (suc j) h = zeros_after v k j (omega arith)

pub zero_word : {p n : ℕ} {u : List ℕ} → Holds p n u → (j : ℕ) → n ≤ j → get_or u j 0 ≡ 0
unfolding padded
zero_word {n = n} {u = u} h j l =
    ap (λ v. get_or v j 0) h.zeros ∙ zeros_after (take n u) (16 - length (take n u)) j (rw length-take (omega arith))

-- where a·b is 0, the low bits of a times b are
low_none : (a b : ℕ) → a * b ≡ 0 → a % 2 ^ 32 * b ≡ 0
low_none a b h =
    let few : a % 2 ^ 32 * b ≤ a * b = Nat.mul-le-mul_right b (Nat.mod-le a (2 ^ 32)) in
    omega arith

module _ (a b : ℕ) (l : b < 2 ^ 32) where
  low_same : b % 2 ^ 32 ≡ b
  low_same = Nat.mod-eq_of_lt l

  pub term_fits : Fits w64 (a % 2 ^ 32 * (b % 2 ^ 32))
  term_fits =
      let f : a % 2 ^ 32 ≤ 2 ^ 32 - 1 = omega arith in
      let g : b % 2 ^ 32 ≤ 2 ^ 32 - 1 = omega arith in
      omega (arith, Nat.mul-le-mul f g)

  pub term_is : a % 2 ^ 32 * (b % 2 ^ 32) ≡ a % 2 ^ 32 * b
  term_is = ap (λ x. a % 2 ^ 32 * x) low_same

pub record Term (p i j : ℕ) (m u : List ℕ) (r : ℕ) : Type 0 where
  pub value : r ≡ entry m i j * get_or u j 0
  pub small : r ≤ p * p
  pub place : j < length u
  pub turn : j < 16

term_of : (p i j : ℕ) (m u : List ℕ) (r : ℕ) → r ≡ entry m i j * get_or u j 0 → entry m i j < p → get_or u j 0 < p → j < length u → j < 16 → Term p i j m u r
term_of p i j m u r e la lb place turn = record { value = e; small = rw e (Nat.mul-le-mul (omega arith) (omega arith)); place = place; turn = turn }

module _ (p n i j : ℕ) (m u : List ℕ) (x : Factors p n i m u) where
  pub word_low : get_or u j 0 < 2 ^ 32
  word_low = x.low j

  -- past n words one of the two is 0
  pub array_term : (r : ℕ) → p ≤ 2 ^ 20 → j < 16 → r ≡ get_or m (16 * i + j) 0 % 2 ^ 32 * get_or u j 0 → Term p i j m u r
  array_term r few lj e = go (dec_lt j n)
    where
      place : j < length u
      place = omega (arith, x.size)

      go : Dec (j < n) → Term p i j m u r
      go (yes l) =
          let (la, lb) = x.below j l in
          term_of p i j m u r (e ∙ ap (λ a. a * get_or u j 0) (Nat.mod-eq_of_lt (omega arith))) la lb place lj
      go (no l) =
          let none : entry m i j * get_or u j 0 ≡ 0 = x.rest j (omega arith) lj in
          let zero : r ≡ 0 = e ∙ low_none (entry m i j) (get_or u j 0) none in
          record { value = zero ∙ sym none; small = omega arith; place = place; turn = lj }

module _ (p n i j : ℕ) (m u : List ℕ) (few : p ≤ 2 ^ 20) (short : n ≤ 16) (x : Square p n m) (li : i < n) (y : Words p n u) (lj : j < n) where
  pub list_place : j < length u
  list_place = omega (arith, words_length y)

  pub list_word : get_or u j 0 < 2 ^ 32
  list_word = omega (arith, words_at y j lj)

  pub list_word_fits : Fits w64 (get_or u j 0)
  list_word_fits = omega (arith, list_word)

  pub entry_low : get_or m (16 * i + j) 0 < 2 ^ 32
  entry_low = omega (arith, x.below i j li lj)

  pub list_term : (r : ℕ) → r ≡ get_or m (16 * i + j) 0 * get_or u j 0 → Term p i j m u r
  list_term r e = term_of p i j m u r e (x.below i j li lj) (words_at y j lj) list_place (omega arith)

-- the factors, where the zeros are in u
pub products_factors : (p n k i : ℕ) (m u : List ℕ) → p ≤ 2 ^ 20 → n ≤ k → k ≤ 16 → i < n → Square p k m → Holds p k u → Factors p k i m u
products_factors p n k i m u few wide short li x y =
    record {
      size = array_length k u short y.zeros;
      low = λ j. low j (dec_lt j k);
      below = λ j l. (x.below i j (omega arith) l, holds_word y j l);
      rest = λ j l h. ap (λ b. entry m i j * b) (zero_word y j l) ∙ Nat.mul-zero (entry m i j);
    }
  where
    low : (j : ℕ) → Dec (j < k) → get_or u j 0 < word_bound
    low j (yes l) = omega (arith, holds_word y j l)
    low j (no l) = omega (arith, zero_word y j (omega arith))

-- the product of a row with u

row_last : (m : List ℕ) (i j : ℕ) (v : List ℕ) (a : ℕ) → row_product m i j (v ++ a ∷ []) ≡ row_product m i j v + entry m i (j + length v) * a
unfolding row_product
row_last m i j [] a = rw (Nat.add-zero j) (omega arith)
row_last m i j (b ∷ v) a =
    ap (λ x. entry m i j * b + x) (row_last m i (suc j) v a)
    ∙ ap (λ k. entry m i j * b + (row_product m i (suc j) v + entry m i k * a)) (Nat.suc-add j (length v) ∙ sym (Nat.add-suc j (length v)))
    ∙ sym (Nat.add_assoc (entry m i j * b) (row_product m i (suc j) v) _)

-- words whose products are 0 do not count
row_none : (m : List ℕ) (i j : ℕ) (v : List ℕ) → ((k : ℕ) → k < length v → entry m i (j + k) * get_or v k 0 ≡ 0) → row_product m i j v ≡ 0
unfolding row_product
row_none m i j [] h = refl
row_none m i j (a ∷ v) h =
    ap₂ ◌+◌ (ap (λ k. entry m i k * a) (sym (Nat.add-zero j)) ∙ h 0 (omega arith))
    (row_none m i (suc j) v (λ k l. ap (λ b. entry m i b * get_or v k 0) (Nat.suc-add j k ∙ sym (Nat.add-suc j k)) ∙ h (suc k) (omega arith)))

row_front : (m : List ℕ) (i j n : ℕ) (v : List ℕ) → ((k : ℕ) → n ≤ k → k < length v → entry m i (j + k) * get_or v k 0 ≡ 0) → row_product m i j v ≡ row_product m i j (take n v)
unfolding row_product
row_front m i j zero v h = row_none m i j v (λ k l. h k (omega arith) l)
row_front m i j (suc n) [] h = refl
row_front m i j (suc n) (a ∷ v) h =
    ap (λ x. entry m i j * a + x)
    (row_front m i (suc j) n v (λ k low l. ap (λ b. entry m i b * get_or v k 0) (Nat.suc-add j k ∙ sym (Nat.add-suc j k)) ∙ h (suc k) (omega arith) (omega arith)))

pub record RowSum (p i : ℕ) (m u : List ℕ) (j sum : ℕ) : Type 0 where
  pub value : sum ≡ row_product m i 0 (take j u)
  pub small : sum ≤ j * (p * p)
  pub turns : j ≤ 16

pub row_starts : (p i : ℕ) (m u : List ℕ) → RowSum p i m u 0 0
unfolding row_product
row_starts p i m u = record { value = refl; small = omega arith; turns = omega arith }

module _ (p i : ℕ) (m u : List ℕ) (j sum : ℕ) (h : RowSum p i m u j sum) where
  module _ (r : ℕ) (t : Term p i j m u r) where
    sum_small : sum + r ≤ (j + 1) * (p * p)
    sum_small = omega (arith, h.small, t.small)

    pub sum_fits : p ≤ 2 ^ 20 → Fits w64 (sum + r)
    sum_fits few =
        let turns : j + 1 ≤ 16 = omega (arith, t.turn) in
        omega (arith, sum_small, Nat.mul-le-mul turns (Nat.mul-le-mul few few))

    pub row_turn : RowSum p i m u (j + 1) (sum + r)
    row_turn =
        let place : 0 + length (take j u) ≡ j = Nat.zero-add _ ∙ length-take-le j u (omega (arith, t.place)) in
        record {
          value =
              ap₂ ◌+◌ h.value (t.value ∙ ap (λ k. entry m i k * get_or u j 0) (sym place))
              ∙ sym (ap (row_product m i 0) (ap (λ k. take k u) (add-one j) ∙ take-suc u j 0 t.place) ∙ row_last m i 0 (take j u) (get_or u j 0));
          small = sum_small;
          turns = omega (arith, t.turn);
        }

  pub sum_few : sum ≤ 64 * (p * p)
  sum_few =
      let few : j ≤ 64 = omega (arith, h.turns) in
      omega (arith, h.small, Nat.mul-le-mul_right (p * p) few)

  whole_row : length u ≤ j → (r : ℕ) → r ≡ sum % p → r ≡ row_product m i 0 u % p
  whole_row l r f = f ∙ ap (λ x. x % p) (h.value ∙ ap (row_product m i 0) (take_all j u l))

  pub list_row : (n : ℕ) → Words p n u → n ≤ j → (r : ℕ) → r ≡ sum % p → r ≡ row_product m i 0 u % p
  list_row n y l r f = whole_row (omega (arith, words_length y)) r f

  pub array_row : (n : ℕ) → Factors p n i m u → 16 ≤ j → (r : ℕ) → r ≡ sum % p → r ≡ row_product m i 0 (take n u) % p
  array_row n x l r f =
      whole_row (omega (arith, x.size)) r f
      ∙ ap (λ y. y % p) (row_front m i 0 n u (λ k low high. ap (λ b. entry m i b * get_or u k 0) (Nat.zero-add k) ∙ x.rest k low (omega (arith, x.size))))
