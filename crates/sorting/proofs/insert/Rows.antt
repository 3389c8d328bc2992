-- The rows of a flat list: where they lie, what a row put into its place changes, and the rows of lists written one after the other.
use mathlib.Core.Path.{◌≡◌, refl, sym, ap, ap₂, ◌∙◌}
use mathlib.Core.List.{List, [], ◌∷◌, ◌++◌, flatten, append_assoc}
use Prim.Native.Nat.{ℕ, suc, ◌+◌, ◌-◌, ◌*◌, ◌≤◌, ◌<◌}
use native.Mathlib.Nat as Nat
use native.Mathlib.Omega.{arith}
use lib.ListN.{length, take, drop, length-append, length-drop}
use lib.Seq.{length-take-le, take_at, drop_at}
use borrow.Rule.Slice.PartMut.{put_mid, post_of}
use mir.Syntax.{w64}
use mir.Val.{Fits}
use Rattle.algebra.specs.Lists.{All}
use Rattle.array.specs.Array.{Holds}
use Rattle.array.specs.Words.{word_bound}
use Rattle.sorting.specs.Sorting.{rows}

-- row i starts at i·n and ends at i·n + n

rows_within : (n i : ℕ) → i < n → i * n + n ≤ n * n
rows_within n i l =
    let whole : suc i * n ≤ n * n = Nat.mul-le-mul l (Nat.le_refl n) in
    let next : suc i * n ≡ i * n + n = omega arith in
    omega arith

end_small : (n i : ℕ) → n ≤ 16 → i < n → i * n + n ≤ 256
end_small n i short l =
    let square : n * n ≤ 16 * 16 = Nat.mul-le-mul short short in
    omega (arith, rows_within n i l)

pub start_fits : (n i : ℕ) → n ≤ 16 → i < n → Fits w64 (i * n)
start_fits n i short l = record { fits = omega (arith, end_small n i short l) }

-- four bytes for each word
pub bytes_fit : (n i : ℕ) → n ≤ 16 → i < n → Fits w64 (i * n * 4)
bytes_fit n i short l = record { fits = omega (arith, end_small n i short l) }

pub end_fits : (n i : ℕ) → n ≤ 16 → i < n → Fits w64 (i * n + n)
end_fits n i short l = record { fits = omega (arith, end_small n i short l) }

module _ (n i : ℕ) (out : List ℕ) (room : length out ≡ n * n) (l : i < n) where
  pub row_ends : i * n + n ≤ length out
  row_ends = omega (arith, rows_within n i l)

  pub part : take (i * n + n - i * n) (drop (i * n) out) ≡ take n (drop (i * n) out)
  part = ap (λ k. take k (drop (i * n) out)) (Nat.add-sub_cancel_left (i * n) n)

  pub row_length : length (take (i * n + n - i * n) (drop (i * n) out)) ≡ n
  row_length = ap length part ∙ length-take-le n (drop (i * n) out) (rw length-drop (omega (arith, row_ends)))

  pub row_short : n ≤ 16 → length (take (i * n + n - i * n) (drop (i * n) out)) ≤ 16
  row_short short = rw row_length short

  pub row_holds : (w : List ℕ) → Holds word_bound n w → Holds word_bound (length (take (i * n + n - i * n) (drop (i * n) out))) w
  row_holds w h = rw row_length h

  -- z in the place of row i
  pub row_put : (z : List ℕ) → length z ≡ n → take (suc i * n) (put_mid (i * n) (i * n + n - i * n) out z) ≡ take (i * n) out ++ z
  row_put z size =
      let next : suc i * n ≡ i * n + n = omega arith in
      ap₂ take next (sym (append_assoc (take (i * n) out) z (post_of (i * n) (i * n + n - i * n) out)))
      ∙ take_at (take (i * n) out ++ z) (post_of (i * n) (i * n + n - i * n) out) (i * n + n)
      (length-append (take (i * n) out) z ∙ ap₂ ◌+◌ (length-take-le (i * n) out (omega (arith, row_ends))) size)

-- the rows of lists of n words
pub rows-flatten : (n : ℕ) (us : List (List ℕ)) (rest : List ℕ) → All (λ u. length u ≡ n) us → rows n (length us) (flatten us ++ rest) ≡ us
unfolding rows flatten
rows-flatten n [] rest h = refl
rows-flatten n (u ∷ us) rest h =
    ap₂ (λ v w. v ∷ rows n (length us) w)
    (ap (take n) (append_assoc u (flatten us) rest) ∙ take_at u (flatten us ++ rest) n h.0)
    (ap (drop n) (append_assoc u (flatten us) rest) ∙ drop_at u (flatten us ++ rest) n h.0)
    ∙ ap (λ v. u ∷ v) (rows-flatten n us rest h.1)
