-- The sums that run down the columns of a table: what they are before each group, and what storing them makes of the output list.
--   Adding k c table old sums  the words of the table from word k on are added to the first c of the sums old
--   Running n table sums k     sum c, with word k + c of the table added, is the restored word k + c
--   Restoring n j w k table sums old out    word k is in column j, and the w columns from j on, one for each sum, are restored before word k
use mathlib.Core.Path.{◌≡◌, refl, sym, ap, ap₂, subst, ◌∙◌}
use mathlib.Core.List.{List, [], ◌∷◌}
use mathlib.Core.Logic.{◌⊎◌, inl, inr, ⊎_elim}
use Prim.Native.Nat.{ℕ, zero, suc, ◌+◌, ◌-◌, ◌*◌, ◌/◌, ◌%◌, ◌≤◌, ◌<◌}
use native.Mathlib.Decide.{dec_lt}
use native.Mathlib.Nat as Nat
use native.Mathlib.Omega.{arith}
use lib.ListN.{length, get_or, set, replicate, length-replicate}
use lib.Seq.{sets, length-sets, get_or-set_other}
use Rattle.array.specs.Words.{word_bound}
use Rattle.array.proofs.Ranges.{zeros_word}
use Rattle.restoring.specs.Clauses.{Whole, added, Columns}
use Rattle.differences.specs.Differences.{restored}
use Rattle.differences.specs.Clauses.{Begun}
use Rattle.differences.proofs.Begun.{begun_none, begun_turn, begun_done}
use Rattle.differences.proofs.Words.{restored_start, restored_next}
use Rattle.restoring.proofs.columns.Places.{column_on, same_column, in_row, row_fits}
use Rattle.restoring.proofs.columns.Rows.{row_inside, row_outside}

pub record Running (n : ℕ) (table sums : List ℕ) (k : ℕ) : Type 0 where
  pub next : (c : ℕ) → c < length sums → k + c < length table → (get_or sums c 0 + get_or table (k + c) 0) % word_bound ≡ get_or (restored n table) (k + c) 0

pub record Restoring (n j w k : ℕ) (table sums old out : List ℕ) : Type 0 where
  pub column : k % n ≡ j
  pub room : length out ≡ length table
  pub many : length sums ≡ w
  pub running : Running n table sums k
  pub done : Columns n j w k (restored n table) old out

-- before the first group the sums are 0
module _ (n j w : ℕ) (table out : List ℕ) (h : Whole n table out) (wide : j + w ≤ n) (some : 1 ≤ w) where
  apart : (i : ℕ) → i < j → j ≤ i % n → ⊥
  apart i l left =
      let same : i % n ≡ i = Nat.mod-eq_of_lt (omega arith) in
      omega arith

  first_sum : (c : ℕ) → c < w → j + c < length table → (get_or (replicate w 0) c 0 + get_or table (j + c) 0) % word_bound ≡ get_or (restored n table) (j + c) 0
  first_sum c l m = ap (λ s. (s + get_or table (j + c) 0) % word_bound) (zeros_word w c) ∙ restored_start n table (j + c) (omega arith) m

  pub restoring_none : (sums : List ℕ) → sums ≡ replicate w 0 → Restoring n j w j table sums out out
  restoring_none sums zeros =
      rw zeros
      record {
        column = Nat.mod-eq_of_lt (omega arith);
        room = h.room;
        many = length-replicate {A = ℕ} w 0;
        running = record { next = λ c l m. first_sum c (rw (length-replicate {A = ℕ} w 0) at l) m };
        done = record { size = refl; inside = λ i l m left right. absurd (apart i l left); outside = λ i m. refl };
      }

-- the sums with a group added, one by one

added-length : (k : ℕ) (table sums : List ℕ) → length (added k table sums) ≡ length sums
unfolding added
added-length k table [] = refl
added-length k table (s ∷ sums) = ap suc (added-length (suc k) table sums)

added_word : (k : ℕ) (table sums : List ℕ) (c : ℕ) → c < length sums → get_or (added k table sums) c 0 ≡ (get_or sums c 0 + get_or table (k + c) 0) % word_bound
unfolding added
added_word k table [] c l = absurd (omega arith)
added_word k table (s ∷ sums) zero l = ap (λ i. (s + get_or table i 0) % word_bound) (sym (Nat.add-zero k))
added_word k table (s ∷ sums) (suc c) l =
    added_word (suc k) table sums c (omega arith) ∙ ap (λ i. (get_or sums c 0 + get_or table i 0) % word_bound) (Nat.suc-add k c ∙ sym (Nat.add-suc k c))

-- one after another, so far c of them
pub record Adding (k c : ℕ) (table old sums : List ℕ) : Type 0 where
  pub begun : Begun c (added k table old) sums
  pub rest : (i : ℕ) → c ≤ i → get_or sums i 0 ≡ get_or old i 0

module _ (k : ℕ) (table old : List ℕ) where
  pub adding_none : Adding k 0 table old old
  adding_none = record { begun = begun_none (added k table old) old (sym (added-length k table old)); rest = λ i l. refl }

  pub adding_turn : (c r : ℕ) (sums : List ℕ) → Adding k c table old sums → c < length old → r ≡ (get_or sums c 0 + get_or table (k + c) 0) % word_bound
      → Adding k (c + 1) table old (set sums c r)
  adding_turn c r sums a l e =
      record {
        begun = begun_turn c r (added k table old) sums a.begun (rw added-length l) (
            e ∙ ap (λ s. (s + get_or table (k + c) 0) % word_bound) (a.rest c (Nat.le_refl c)) ∙ sym (added_word k table old c l)
            );
        rest = λ i m. get_or-set_other sums c i r 0 (λ same. omega arith) ∙ a.rest i (omega arith);
      }

  pub adding_done : (c : ℕ) (sums : List ℕ) → Adding k c table old sums → length old ≤ c → sums ≡ added k table old
  adding_done c sums a end = begun_done c (added k table old) sums a.begun (rw added-length end)

-- a group: its words in these columns are added to the sums, which are stored
module _ (n j w k : ℕ) (table sums old out : List ℕ) (r : Restoring n j w k table sums old out) (h : Whole n table old) (wide : j + w ≤ n) (here : k < length table) where
  -- it is in the table, and in the output
  pub row_table : k + w ≤ length table
  row_table = row_fits n k j r.column w (length table) h.low wide h.groups here

  pub row_room : k + w ≤ length out
  row_room = rw r.room row_table

  module _ (new : List ℕ) (e : new ≡ added k table sums) where
    many_new : length new ≡ w
    many_new = ap length e ∙ added-length k table sums ∙ r.many

    new_words : (c : ℕ) → c < w → get_or new c 0 ≡ get_or (restored n table) (k + c) 0
    new_words c l =
        let l' : c < length sums = rw r.many l in
        ap (λ xs. get_or xs c 0) e ∙ added_word k table sums c l' ∙ r.running.next c l' (omega (arith, row_table))

    next_sum : (c : ℕ) → c < w → k + n + c < length table → (get_or new c 0 + get_or table (k + n + c) 0) % word_bound ≡ get_or (restored n table) (k + n + c) 0
    next_sum c l m =
        let place : k + n + c ≡ k + c + n = omega arith in
        ap₂ (λ s i. (s + get_or table i 0) % word_bound) (new_words c l) place
        ∙ restored_next n table (k + c) h.low (omega arith)
        ∙ ap (λ i. get_or (restored n table) i 0) (sym place)

    row_words : (i : ℕ) → k ≤ i → i < k + w → get_or (sets out k new) i 0 ≡ get_or (restored n table) i 0
    row_words i low high =
        let place : k + (i - k) ≡ i = omega arith in
        ap (λ x. get_or (sets out k new) x 0) (sym place)
        ∙ row_inside new out k (i - k) (omega (arith, row_room, many_new)) (omega (arith, many_new))
        ∙ new_words (i - k) (omega arith)
        ∙ ap (λ x. get_or (restored n table) x 0) place

    other_words : (i : ℕ) → (i < k) ⊎ (k + w ≤ i) → get_or (sets out k new) i 0 ≡ get_or out i 0
    other_words i m = row_outside new out k i (rw many_new m)

    inside_turn : (i : ℕ) → Dec (i < k) → i < k + n → i < length (restored n table) → j ≤ i % n → i % n < j + w
        → get_or (sets out k new) i 0 ≡ get_or (restored n table) i 0
    inside_turn i (yes l) below inside left right = other_words i (inl l) ∙ r.done.inside i l inside left right
    inside_turn i (no l) below inside left right =
        row_words i (omega arith) (in_row n k j r.column w i wide (omega arith) below left right)

    outside_turn : (i : ℕ) → Dec (i < k) → Dec (i < k + w) → (i % n < j) ⊎ (j + w ≤ i % n) → get_or (sets out k new) i 0 ≡ get_or out i 0
    outside_turn i (yes l) m other = other_words i (inl l)
    outside_turn i (no l) (no m) other = other_words i (inr (omega arith))
    outside_turn i (no l) (yes m) other =
        let place : k + (i - k) ≡ i = omega arith in
        let at : i % n ≡ j + (i - k) = ap (λ x. x % n) (sym place) ∙ column_on n k j r.column (i - k) (omega arith) in
        absurd (⊎_elim (λ x. omega arith) (λ x. omega arith) other)

    pub restoring_turn : (out' : List ℕ) → out' ≡ sets out k new → Restoring n j w (k + n) table new old out'
    restoring_turn out' stored =
        rw stored
        record {
          column = same_column n k j r.column;
          room = length-sets out k new ∙ r.room;
          many = many_new;
          running = record { next = λ c l m. next_sum c (rw many_new at l) m };
          done = record {
            size = length-sets out k new ∙ r.done.size;
            inside = λ i. inside_turn i (dec_lt i k);
            outside = λ i m. outside_turn i (dec_lt i k) (dec_lt i (k + w)) m ∙ r.done.outside i m;
          };
        }

-- row by row: the group `row` begins with word row · n, and its words in these columns with the word that is j places on

pub lanes_start : (n j w : ℕ) (table out : List ℕ) → Whole n table out → (1 ≤ w) × (j + w ≤ n) → Restoring n j w (0 * n + j) table (replicate w 0) out out
lanes_start n j w table out h wide =
    rw (Nat.zero-mul, Nat.zero-add) (restoring_none n j w table out h wide.1 wide.0 (replicate w 0) refl)

module _ (n j w row : ℕ) (table sums old out : List ℕ) (r : Restoring n j w (row * n + j) table sums old out) (h : Whole n table old) (wide : (1 ≤ w) × (j + w ≤ n))
    (here : row < length table / n) where
  row_here : row * n + j < length table
  row_here = omega (arith, Nat.mul-le-mul_right n here, Nat.div-mul-le_self (length table) n)

  pub lanes_table : row * n + j + w ≤ length table
  lanes_table = row_table n j w (row * n + j) table sums old out r h wide.1 row_here

  pub lanes_room : row * n + j + w ≤ length out
  lanes_room = row_room n j w (row * n + j) table sums old out r h wide.1 row_here

  pub lanes_turn : (new : List ℕ) → new ≡ added (row * n + j) table sums → (out' : List ℕ) → out' ≡ sets out (row * n + j) new
      → Restoring n j w ((row + 1) * n + j) table new old out'
  lanes_turn new e out' f =
      let next : row * n + j + n ≡ (row + 1) * n + j = omega arith in
      subst (λ k. Restoring n j w k table new old out') next (restoring_turn n j w (row * n + j) table sums old out r h wide.1 row_here new e out' f)

-- after the last group
pub restoring_end : (n j w k : ℕ) (table sums old out : List ℕ) → Restoring n j w k table sums old out → length table ≤ k
    → Columns n j w (length table) (restored n table) old out
restoring_end n j w k table sums old out r end =
    record {
      size = r.done.size;
      inside = λ i l. r.done.inside i (omega arith);
      outside = r.done.outside;
    }

pub lanes_end : (n j w row : ℕ) (table sums old out : List ℕ) → Restoring n j w (row * n + j) table sums old out → Whole n table old → length table / n ≤ row
    → Columns n j w (length table) (restored n table) old out
lanes_end n j w row table sums old out r h end =
    restoring_end n j w (row * n + j) table sums old out r
    (omega (arith, Nat.mul-le-mul_right n end, Nat.div-add-mod' (length table) n, h.groups))
