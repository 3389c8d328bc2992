-- The loops through a matrix, one that writes it into a list and one that writes it into an array.
--   square_word n m k     the word of the array m that comes to place k of the list
--   Storing, Loading      the first k words of the list are stored, or loaded
use mathlib.Core.Path.{◌≡◌, refl, sym, ap, ap₂, subst, ◌∙◌}
use mathlib.Core.List.{List}
use Prim.Native.Nat.{ℕ, ◌+◌, ◌*◌, ◌/◌, ◌%◌, ◌≤◌, ◌<◌}
use native.Mathlib.Decide.{ℕ_discrete}
use native.Mathlib.Nat as Nat
use native.Mathlib.Omega.{arith}
use lib.ListN.{length, get_or, set, replicate, length-set, length-replicate}
use lib.Seq.{get_or-set_same, get_or-set_other}
use mir.Syntax.{w32}
use mir.Val.{Fits}
use Rattle.array.specs.Array.{entry, Square}
use Rattle.array.specs.Words.{word_bound}
use Rattle.array.proofs.Painted.{painted, painted_none, painted_turn}
use Rattle.array.proofs.Ranges.{painted-range, zeros_word}
use Rattle.bymatrix.specs.ByMatrix.{word, square}
use Rattle.bymatrix.specs.Clauses.{Loaded}
use Rattle.bymatrix.proofs.Places.{row_of, column_of, place_below}

pub index_less : (n i j : ℕ) → n ≤ 16 → i < n → j < n → 16 * i + j < 256
index_less n i j short li lj = omega arith

-- into a list

unfoldable pub square_word : ℕ → List ℕ → ℕ → ℕ
square_word n m k = entry m (k / n) (k % n)

pub record Storing (n : ℕ) (m out₀ out : List ℕ) (k : ℕ) : Type 0 where
  pub lengths : length out ≡ length out₀
  pub room : length out ≡ n * n
  pub list : out ≡ painted out₀ (square_word n m) k

pub word_fits : (n i j : ℕ) (m : List ℕ) → Square word_bound n m → i < n → j < n → Fits w32 (get_or m (16 * i + j) 0)
word_fits n i j m h li lj = record { fits = h.below i j li lj }

pub store_starts : (n : ℕ) (m out : List ℕ) → length out ≡ n * n → Storing n m out out (0 * n)
store_starts n m out room = rw Nat.zero-mul record { lengths = refl; room = room; list = painted_none out (square_word n m) }

module _ (n : ℕ) (m out₀ out : List ℕ) (i j : ℕ) (c : Storing n m out₀ out (i * n + j)) where
  pub store_turn : j < n → Storing n m out₀ (set out (i * n + j) (get_or m (16 * i + j) 0)) (i * n + (j + 1))
  unfolding square_word
  store_turn l =
      let same : length (set out (i * n + j) (get_or m (16 * i + j) 0)) ≡ length out = length-set out (i * n + j) (get_or m (16 * i + j) 0) in
      let next : i * n + j + 1 ≡ i * n + (j + 1) = omega arith in
      subst (Storing n m out₀ (set out (i * n + j) (get_or m (16 * i + j) 0))) next
      record {
        lengths = same ∙ c.lengths;
        room = same ∙ c.room;
        list =
            painted_turn (square_word n m) (i * n + j) (entry m i j) out₀ out
            (sym (ap₂ (entry m) (row_of n i j (i * n + j) refl l) (column_of n i j (i * n + j) refl l))) c.list;
      }

  pub store_row : j ≤ n → n ≤ j → Storing n m out₀ out ((i + 1) * n)
  store_row l h =
      let same : j ≡ n = omega arith in
      let next : i * n + j ≡ (i + 1) * n = omega arith in
      subst (Storing n m out₀ out) next c

pub store_begins : (n : ℕ) (m out₀ out : List ℕ) (i : ℕ) → Storing n m out₀ out (i * n) → Storing n m out₀ out (i * n + 0)
store_begins n m out₀ out i c = rw Nat.add-zero c

pub store_done : (n : ℕ) (m out₀ out : List ℕ) (i : ℕ) → Storing n m out₀ out (i * n) → i ≤ n → n ≤ i → out ≡ square n (entry m)
unfolding square square_word
store_done n m out₀ out i c l h =
    let same : i ≡ n = omega arith in
    let all : i * n ≡ n * n = ap (λ a. a * n) same in
    painted-range (square_word n m) (n * n) (i * n) out₀ out (sym c.lengths ∙ c.room) (omega (arith, all)) (omega (arith, all, c.room)) c.list

-- into an array

pub record Loading (n : ℕ) (matrix m : List ℕ) (k : ℕ) : Type 0 where
  pub size : length m ≡ 256
  pub words : (a b : ℕ) → b < n → a * n + b < k → entry m a b ≡ get_or matrix (a * n + b) 0
  pub zeros : (a b : ℕ) → n ≤ b → b < 16 → entry m a b ≡ 0

pub load_starts : (n : ℕ) (matrix m : List ℕ) → m ≡ replicate 256 0 → Loading n matrix m (0 * n)
load_starts n matrix m e =
    rw Nat.zero-mul
    record {
      size = ap length e ∙ length-replicate {A = ℕ} 256 0;
      words = λ a b lb l. absurd (omega arith);
      zeros = λ a b low high. ap (λ xs. entry xs a b) e ∙ zeros_word 256 (16 * a + b);
    }

module _ (n : ℕ) (matrix m : List ℕ) (i j : ℕ) (short : n ≤ 16) (c : Loading n matrix m (i * n + j)) where
  module _ (li : i < n) (lj : j < n) where
    -- another place of the list is another place of the array
    same_place : (a b : ℕ) → b < n → 16 * a + b ≡ 16 * i + j → a * n + b ≡ i * n + j
    same_place a b lb e =
        let row : a ≡ i = omega arith in
        let column : b ≡ j = omega arith in
        ap₂ (λ y z. y * n + z) row column

    loaded : (a b : ℕ) → b < n → a * n + b < i * n + (j + 1) → entry (set m (16 * i + j) (get_or matrix (i * n + j) 0)) a b ≡ get_or matrix (a * n + b) 0
    loaded a b lb lk = by_place (ℕ_discrete (a * n + b) (i * n + j))
      where
        by_place : Dec (a * n + b ≡ i * n + j) → entry (set m (16 * i + j) (get_or matrix (i * n + j) 0)) a b ≡ get_or matrix (a * n + b) 0
        by_place (yes e) =
            ap₂ (entry (set m (16 * i + j) (get_or matrix (i * n + j) 0)))
            (sym (row_of n a b (a * n + b) refl lb) ∙ ap (λ k. k / n) e ∙ row_of n i j (i * n + j) refl lj)
            (sym (column_of n a b (a * n + b) refl lb) ∙ ap (λ k. k % n) e ∙ column_of n i j (i * n + j) refl lj)
            ∙ get_or-set_same m (16 * i + j) (get_or matrix (i * n + j) 0) 0 (omega (arith, c.size, index_less n i j short li lj))
            ∙ ap (λ y. get_or matrix y 0) (sym e)
        by_place (no other) =
            get_or-set_other m (16 * i + j) (16 * a + b) (get_or matrix (i * n + j) 0) 0 (λ e. other (same_place a b lb e)) ∙ c.words a b lb (omega arith)

    pub load_turn : Loading n matrix (set m (16 * i + j) (get_or matrix (i * n + j) 0)) (i * n + (j + 1))
    load_turn =
        record {
          size = length-set m (16 * i + j) (get_or matrix (i * n + j) 0) ∙ c.size;
          words = loaded;
          zeros = λ a b low high. get_or-set_other m (16 * i + j) (16 * a + b) (get_or matrix (i * n + j) 0) 0 (λ e. absurd (omega arith)) ∙ c.zeros a b low high;
        }

  pub load_row : j ≤ n → n ≤ j → Loading n matrix m ((i + 1) * n)
  load_row l h =
      let same : j ≡ n = omega arith in
      let next : i * n + j ≡ (i + 1) * n = omega arith in
      subst (Loading n matrix m) next c

pub load_begins : (n : ℕ) (matrix m : List ℕ) (i : ℕ) → Loading n matrix m (i * n) → Loading n matrix m (i * n + 0)
load_begins n matrix m i c = rw Nat.add-zero c

pub load_done : (n : ℕ) (matrix m : List ℕ) (i : ℕ) → Loading n matrix m (i * n) → i ≤ n → n ≤ i → Loaded n matrix m
unfolding word
load_done n matrix m i c l h =
    let same : i ≡ n = omega arith in
    let all : i * n ≡ n * n = ap (λ a. a * n) same in
    record { size = c.size; words = λ a b la lb. c.words a b lb (omega (arith, all, place_below n a b la lb)); zeros = c.zeros }
