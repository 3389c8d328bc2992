-- Conversion by a matrix, by the turns of the code: before turn k the output begins with the products of the first k groups, and the groups from there on
-- are still to be multiplied.
--   Progress              the invariant
--   starts, turn, done    it holds at 0; a turn keeps it; at the end the output is what is promised
--   converts              the products with the powers of S are the images
use mathlib.Core.Path.{◌≡◌, refl, sym, ap, ap₂, ◌∙◌}
use mathlib.Core.List.{List, ◌++◌, append-nil, append_assoc}
use Prim.Native.Nat.{ℕ, ◌+◌, suc, ◌-◌, ◌*◌, ◌/◌, ◌%◌, ◌≤◌, ◌<◌}
use native.Mathlib.Nat as Nat
use native.Mathlib.Omega.{arith}
use lib.ListN.{length, take, drop, replicate, length-drop, length-append}
use lib.Seq.{length-take-le, drop-drop, take_at, take_all}
use borrow.Rule.Slice.PartMut.{put_mid, post_of, same_len_mid}
use Rattle.array.specs.Words.{Words}
use Rattle.array.specs.Array.{padded, row_product}
use Rattle.array.proofs.Words.{words_length, drop_words}
use Rattle.array.proofs.Padded.{front_is}
use Rattle.matrix.specs.Matrix.{Powers, Kept, Rows, matrix_product}
use Rattle.matrix.proofs.PowerMatrix.{product_substitutes, powers_square}
use Rattle.array.proofs.Ranges.{range_words, zeros_word}
use Rattle.quotient.specs.Residue.{substitute}
use Rattle.table.specs.Table.{each_group, converted, table_number}
use Rattle.table.proofs.Convertible.{table_given, whole_groups}
use Rattle.table.proofs.Groups.{table_groups, groups_same}

-- one group

product_words : (p n : ℕ) (m u : List ℕ) → 0 < p → Words p n (matrix_product p n m u)
unfolding matrix_product
product_words p n m u h = range_words (λ i. row_product m i 0 u % p) 0 n (λ i l. Nat.mod-lt _ h)

-- the groups

pub record Progress (p n : ℕ) (m table out : List ℕ) (k : ℕ) : Type 0 where
  pub lengths : length out ≡ length table
  pub image :
      take (k * n) out ++ each_group n (matrix_product p n m) (length table / n - k) (drop (k * n) table)
      ≡ each_group n (matrix_product p n m) (length table / n) table

part : (i n : ℕ) (xs : List ℕ) → take (i + n - i) (drop i xs) ≡ take n (drop i xs)
part i n xs = ap (λ k. take k (drop i xs)) (Nat.add-sub_cancel_left i n)

rest : (i : ℕ) (xs : List ℕ) → take (length xs - i) (drop i xs) ≡ drop i xs
rest i xs = take_all (length xs - i) (drop i xs) (rw length-drop (Nat.le_refl (length xs - i)))

next_group : (n k : ℕ) → (k + 1) * n ≡ k * n + n
next_group n k = omega arith

module _ (p n : ℕ) (m table out : List ℕ) (k : ℕ) (g : Progress p n m table out k) (l : k < length table / n) where
  pub group_ends : k * n + n ≤ length table
  group_ends = omega (arith, Nat.mul-le-mul_right n l, Nat.div-mul-le_self (length table) n)

  pub output_ends : k * n + n ≤ length out
  output_ends = rw g.lengths group_ends

  pub output_part : length (take (k * n + n - k * n) (drop (k * n) out)) ≡ n
  output_part = ap length (part (k * n) n out) ∙ length-take-le n (drop (k * n) out) (rw length-drop (omega (arith, output_ends)))

  -- what is left of the table
  rest_length : length (take (length table - k * n) (drop (k * n) table)) ≡ length table - k * n
  rest_length = ap length (rest (k * n) table) ∙ length-drop (k * n) table

  pub rest_words : (out₀ : List ℕ) → table_number p n table out₀ ≡ 0
      → Words p (length (take (length table - k * n) (drop (k * n) table))) (take (length table - k * n) (drop (k * n) table))
  rest_words out₀ h = rw (rest_length, rest (k * n) table) (drop_words (table_given p n table out₀ h).words (k * n))

  pub rest_long : n ≤ length (take (length table - k * n) (drop (k * n) table))
  rest_long = rw rest_length (omega (arith, group_ends))

  module _ (big : 2 ≤ p) (z : List ℕ) (d : z ≡ matrix_product p n m (take n (take (length table - k * n) (drop (k * n) table)))) where
    product : z ≡ matrix_product p n m (take n (drop (k * n) table))
    product = d ∙ ap (λ xs. matrix_product p n m (take n xs)) (rest (k * n) table)

    product_length : length z ≡ n
    product_length = ap length product ∙ words_length (product_words p n m (take n (drop (k * n) table)) (omega arith))

    later : List ℕ
    later = each_group n (matrix_product p n m) (length table / n - (k + 1)) (drop ((k + 1) * n) table)

    -- one group less is left
    next : each_group n (matrix_product p n m) (length table / n - k) (drop (k * n) table) ≡ matrix_product p n m (take n (drop (k * n) table)) ++ later
    unfolding later each_group
    next =
        let left : length table / n - k ≡ suc (length table / n - (k + 1)) = omega arith in
        ap (λ j. each_group n (matrix_product p n m) j (drop (k * n) table)) left
        ∙ ap (λ xs. matrix_product p n m (take n (drop (k * n) table)) ++ each_group n (matrix_product p n m) (length table / n - (k + 1)) xs)
        (drop-drop n (k * n) table ∙ ap (λ j. drop j table) (sym (next_group n k)))

    front : take ((k + 1) * n) (put_mid (k * n) (k * n + n - k * n) out z) ≡ take (k * n) out ++ z
    front =
        ap (take ((k + 1) * n)) (sym (append_assoc (take (k * n) out) z (post_of (k * n) (k * n + n - k * n) out)))
        ∙ take_at (take (k * n) out ++ z) (post_of (k * n) (k * n + n - k * n) out) ((k + 1) * n)
        (length-append (take (k * n) out) z ∙ ap₂ ◌+◌ (length-take-le (k * n) out (omega (arith, output_ends))) product_length ∙ sym (next_group n k))

    pub turn : Progress p n m table (put_mid (k * n) (k * n + n - k * n) out z) (k + 1)
    unfolding later
    turn =
        record {
          lengths = same_len_mid (k * n) (k * n + n - k * n) out z (product_length ∙ sym output_part) ∙ g.lengths;
          image =
              ap (λ xs. xs ++ later) front
              ∙ append_assoc (take (k * n) out) z later
              ∙ ap (λ xs. take (k * n) out ++ xs) (ap (λ xs. xs ++ later) product ∙ sym next)
              ∙ g.image;
        }

pub starts : (p n : ℕ) (m table out : List ℕ) → table_number p n table out ≡ 0 → Progress p n m table out 0
starts p n m table out h = record { lengths = (table_given p n table out h).sizes.lengths; image = rw (Nat.zero-mul, Nat.sub-zero) refl }

pub done : (p n : ℕ) (m table out₀ out : List ℕ) (k : ℕ) → table_number p n table out₀ ≡ 0 → Progress p n m table out k → length table / n ≤ k
    → out ≡ each_group n (matrix_product p n m) (length table / n) table
unfolding each_group
done p n m table out₀ out k h g l =
    let all : length out ≤ k * n = omega (arith, g.lengths, whole_groups (table_given p n table out₀ h), Nat.mul-le-mul_right n l) in
    let none : length table / n - k ≡ 0 = omega arith in
    sym (append-nil out)
    ∙ sym (ap₂ (λ xs j. xs ++ each_group n (matrix_product p n m) j (drop (k * n) table)) (take_all (k * n) out all) none)
    ∙ g.image

-- the matrix of the powers of S, and the divisor q that is p
module _ (p n : ℕ) (t s a b m : List ℕ) (big : 2 ≤ p) (wt : Words p n t) (ws : Words p n s) (e : a ≡ padded t) (f : b ≡ padded s)
    (h : Powers p n (take n a) (take n b) m) where
  powers : Powers p n t s m
  powers = rw (front_is e wt, front_is f ws) at h

  module _ (q : ℕ) (same : q ≡ p) where
    pub is_rows : Kept n (replicate 256 0) m → Rows q n m
    is_rows kept =
        rw same (record { square = powers_square big wt ws powers; zeros = λ i j li low high. kept.words i j low high ∙ zeros_word 256 (16 * i + j) })

    pub converts : (table out₀ out : List ℕ) → table_number p n table out₀ ≡ 0 → out ≡ each_group n (matrix_product q n m) (length table / n) table
        → out ≡ converted p n t s table
    unfolding converted
    converts table out₀ out g d =
        d ∙ ap (λ k. each_group n (matrix_product k n m) (length table / n) table) same
        ∙ groups_same (matrix_product p n m) (substitute p t s) (λ u w. product_substitutes big wt ws powers w) (length table / n) table
        (table_groups (table_given p n table out₀ g))
