-- The loop of `insert`: before turn j the first j rows are those of the list with u inserted, and what is carried is to be inserted into the rows from j on.
--   Carrying                       the invariant
--   carry_starts, carry_turn       it holds before turn 0, and a turn keeps it
--   carried_last                   what is carried past the last row is the last row
use mathlib.Core.Path.{◌≡◌, refl, sym, ap, ap₂, subst, ◌∙◌}
use mathlib.Core.Logic.{⊎_elim}
use mathlib.Core.List.{List, ◌++◌, flatten, append_assoc, append-nil}
use Prim.Native.Nat.{ℕ, suc, ◌+◌, ◌-◌, ◌*◌, ◌≤◌, ◌<◌}
use native.Mathlib.Nat as Nat
use native.Mathlib.Numerals.{add-one}
use native.Mathlib.Omega.{arith}
use lib.ListN.{length, take, drop, take-append-drop, length-drop}
use lib.Seq.{length-take-le, drop-drop, drop-append-le, take-append-le}
use borrow.Rule.Slice.PartMut.{put_mid, same_len_mid, drop_put}
use Rattle.array.specs.Array.{padded, Holds}
use Rattle.array.specs.Words.{Words, word_bound}
use Rattle.array.proofs.Padded.{front_is, holds_is}
use Rattle.array.proofs.Words.{words_length, take_words, drop_words}
use Rattle.sorting.specs.Sorting.{earlier, later, insert, rows}
use Rattle.sorting.proofs.Insertion.{ordered}
use Rattle.sorting.proofs.insert.Rows.{row_ends, row_length, row_put, part}

pub record Carrying (n k : ℕ) (u out₀ out carried : List ℕ) (j : ℕ) : Type 0 where
  pub room : length out ≡ n * n
  pub lengths : length out ≡ length out₀
  pub holds : Holds word_bound n carried
  pub rest : drop (j * n) out ≡ drop (j * n) out₀
  pub list : take (j * n) out ++ flatten (insert (take n carried) (rows n (k - j) (drop (j * n) out₀))) ≡ flatten (insert (take n u) (rows n k out₀))

pub carry_starts : (n k : ℕ) (u out : List ℕ) → length out ≡ n * n → Holds word_bound n u → Carrying n k u out out u 0
carry_starts n k u out room holds =
    record { room = room; lengths = refl; holds = holds; rest = refl; list = rw (Nat.zero-mul, Nat.sub-zero) refl }

-- both of two lists of words are lists of words, whichever is lower
choice_words : (p n : ℕ) (u v : List ℕ) → Words p n u → Words p n v → Words p n (earlier u v) × Words p n (later u v)
choice_words p n u v wu wv =
    ⊎_elim
    (λ (_, e, l). (subst (Words p n) (sym e) wu, subst (Words p n) (sym l) wv))
    (λ (_, e, l). (subst (Words p n) (sym e) wv, subst (Words p n) (sym l) wu))
    (ordered u v)

-- one row of the list with c inserted
insert_step : (n m : ℕ) (c xs : List ℕ)
    → flatten (insert c (rows n (suc m) xs)) ≡ earlier c (take n xs) ++ flatten (insert (later c (take n xs)) (rows n m (drop n xs)))
unfolding insert rows flatten
insert_step n m c xs = refl

insert_end : (n : ℕ) (c xs : List ℕ) → flatten (insert c (rows n 0 xs)) ≡ c
unfolding insert rows flatten
insert_end n c xs = append-nil c

-- a part of the front is that part of the whole
front_part : (a b n : ℕ) (xs : List ℕ) → b ≤ length xs → a + n ≤ b → take n (drop a (take b xs)) ≡ take n (drop a xs)
front_part a b n xs fits l =
    let front : length (take b xs) ≡ b = length-take-le b xs fits in
    sym (ap (λ ys. take n (drop a ys)) (sym (take-append-drop b xs)) ∙ ap (take n) (drop-append-le a (take b xs) (drop b xs) (omega arith))
    ∙ take-append-le n (drop a (take b xs)) (drop b xs) (rw length-drop (omega arith)))

module _ (n k : ℕ) (u out₀ out carried : List ℕ) (j : ℕ) (c : Carrying n k u out₀ out carried j) (less : k < n) where
  module _ (l : j < k) (words : Words word_bound (k * n) (take (k * n) out₀)) where
    abbrev row : List ℕ
    row = take n (drop (j * n) out₀)

    below : j < n
    below = omega arith

    -- the row as the code reads it
    row_read : take (j * n + n - j * n) (drop (j * n) out) ≡ row
    row_read = part n j out c.room below ∙ ap (take n) c.rest

    row_words : Words word_bound n row
    row_words =
        let next : suc j * n ≡ j * n + n = omega arith in
        let whole : suc j * n ≤ k * n = Nat.mul-le-mul l (Nat.le_refl n) in
        let fits : k * n ≤ length out₀ = omega (arith, c.lengths, row_ends n k out c.room less) in
        subst (Words word_bound n) (front_part (j * n) (k * n) n out₀ fits (omega arith)) (take_words (drop_words words (j * n)) n (omega arith))

    module _ (z w : List ℕ) (e : z ≡ earlier (take n carried) (take (j * n + n - j * n) (drop (j * n) out)))
        (f : w ≡ padded (later (take n carried) (take (j * n + n - j * n) (drop (j * n) out)))) where
      both : Words word_bound n (earlier (take n carried) row) × Words word_bound n (later (take n carried) row)
      both = choice_words word_bound n (take n carried) row c.holds.words row_words

      new_row : z ≡ earlier (take n carried) row
      new_row = e ∙ ap (earlier (take n carried)) row_read

      new_carried : w ≡ padded (later (take n carried) row)
      new_carried = f ∙ ap (λ v. padded (later (take n carried) v)) row_read

      size : length z ≡ n
      size = ap length new_row ∙ words_length both.0

      same_length : length (put_mid (j * n) (j * n + n - j * n) out z) ≡ length out
      same_length = same_len_mid (j * n) (j * n + n - j * n) out z (size ∙ sym (row_length n j out c.room below))

      next : (j + 1) * n ≡ j * n + n
      next = omega arith

      behind : drop (j * n + n) (put_mid (j * n) (j * n + n - j * n) out z) ≡ drop (j * n + n) out₀
      behind =
          let width : n ≡ j * n + n - j * n = omega arith in
          drop_put (j * n) (j * n + n) out z (omega arith) (row_ends n j out c.room below) (size ∙ width)
          ∙ sym (drop-drop n (j * n) out) ∙ ap (drop n) c.rest ∙ drop-drop n (j * n) out₀

      front : take ((j + 1) * n) (put_mid (j * n) (j * n + n - j * n) out z) ≡ take (j * n) out ++ z
      front = ap (λ i. take (i * n) (put_mid (j * n) (j * n + n - j * n) out z)) (add-one j) ∙ row_put n j out c.room below z size

      later_rows : List (List ℕ)
      later_rows = rows n (k - (j + 1)) (drop n (drop (j * n) out₀))

      step : z ++ flatten (insert (later (take n carried) row) later_rows) ≡ flatten (insert (take n carried) (rows n (k - j) (drop (j * n) out₀)))
      unfolding later_rows
      step =
          let one : k - j ≡ suc (k - (j + 1)) = omega arith in
          ap (λ v. v ++ flatten (insert (later (take n carried) row) (rows n (k - (j + 1)) (drop n (drop (j * n) out₀))))) new_row
          ∙ sym (insert_step n (k - (j + 1)) (take n carried) (drop (j * n) out₀)) ∙ ap (λ m. flatten (insert (take n carried) (rows n m (drop (j * n) out₀)))) (sym one)

      pub carry_turn : Carrying n k u out₀ (put_mid (j * n) (j * n + n - j * n) out z) w (j + 1)
      unfolding later_rows
      carry_turn =
          record {
            room = same_length ∙ c.room;
            lengths = same_length ∙ c.lengths;
            holds = holds_is new_carried both.1;
            rest = ap (λ i. drop i (put_mid (j * n) (j * n + n - j * n) out z)) next ∙ behind ∙ ap (λ i. drop i out₀) (sym next);
            list =
                ap₂ ◌++◌ front
                (ap₂ (λ v xs. flatten (insert v (rows n (k - (j + 1)) xs))) (front_is new_carried both.1) (ap (λ i. drop i out₀) next ∙ sym (drop-drop n (j * n) out₀)))
                ∙ append_assoc (take (j * n) out) z (flatten (insert (later (take n carried) row) later_rows))
                ∙ ap (λ xs. take (j * n) out ++ xs) step ∙ c.list;
          }

  pub carried_last : j ≤ k → k ≤ j → (z : List ℕ) → z ≡ take (length (take (k * n + n - k * n) (drop (k * n) out))) carried
      → take (suc k * n) (put_mid (k * n) (k * n + n - k * n) out z) ≡ flatten (insert (take n u) (rows n k out₀))
  carried_last within l z e =
      let same : j ≡ k = omega arith in
      let none : k - j ≡ 0 = omega arith in
      let last : z ≡ take n carried = e ∙ ap (λ m. take m carried) (row_length n k out c.room less) in
      row_put n k out c.room less z (ap length last ∙ words_length c.holds.words)
      ∙ ap₂ (λ i v. take (i * n) out ++ v) (sym same)
      (last ∙ sym (ap (λ m. flatten (insert (take n carried) (rows n m (drop (j * n) out₀)))) none ∙ insert_end n (take n carried) (drop (j * n) out₀)))
      ∙ c.list
