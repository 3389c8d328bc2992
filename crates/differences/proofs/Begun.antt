-- Loops that write the words of a list xs one after another into a list w of its length.
use Rattle.std.proofs.Common.{◌≡◌, ℕ, ◌+◌, ◌<◌, ◌≤◌, List, length, get_or, set, sym, ap, ◌∙◌, ⊎_elim, eq-or-lt_of_le, arith, length-set, get_or-set_other, get_or-set_same, ext_get_or}
use Rattle.differences.specs.Clauses.{Begun}

pub begun_none : (xs w : List ℕ) → length w ≡ length xs → Begun 0 xs w
begun_none xs w size = record { size = size; words = λ i l h. absurd (omega arith) }

pub begun_turn : (k r : ℕ) (xs w : List ℕ) → Begun k xs w → k < length xs → r ≡ get_or xs k 0 → Begun (k + 1) xs (set w k r)
begun_turn k r xs w begun inside e =
    record {
      size = length-set w k r ∙ begun.size;
      words = λ i l h. ⊎_elim (last i) (other i h) (eq-or-lt_of_le (smaller i l));
    }
  where
    smaller : (i : ℕ) → i < k + 1 → i ≤ k
    smaller i l = omega arith

    last : (i : ℕ) → i ≡ k → get_or (set w k r) i 0 ≡ get_or xs i 0
    last i same = ap (λ j. get_or (set w k r) j 0) same ∙ get_or-set_same w k r 0 (omega (arith, begun.size)) ∙ e ∙ ap (λ j. get_or xs j 0) (sym same)

    other : (i : ℕ) → i < length xs → i < k → get_or (set w k r) i 0 ≡ get_or xs i 0
    other i h l = get_or-set_other w k i r 0 (λ same. omega arith) ∙ begun.words i l h

pub begun_done : (k : ℕ) (xs w : List ℕ) → Begun k xs w → length xs ≤ k → w ≡ xs
begun_done k xs w begun end = ext_get_or 0 w xs begun.size (λ i l. begun.words i (omega (arith, begun.size)) (omega (arith, begun.size)))

-- the first n words of xs are those of another list
pub begun_other : (n : ℕ) (xs ys w : List ℕ) → length ys ≡ length xs → ((i : ℕ) → i < n → i < length xs → get_or ys i 0 ≡ get_or xs i 0) → Begun n xs w → Begun n ys w
begun_other n xs ys w size same begun =
    record {
      size = begun.size ∙ sym size;
      words = λ i l h. begun.words i l (rw size at h) ∙ sym (same i l (rw size at h));
    }
