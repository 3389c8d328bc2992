-- The loop over the conjugates: before turn k the first k rows are the first k conjugates in order, and u is the next.
--   Sorting                          the invariant
--   sort_starts, sort_turn, sort_done   it holds before turn 0; a turn keeps it; after turn n the list has all n
use mathlib.Core.Path.{◌≡◌, refl, sym, ap, ap₂, subst, ◌∙◌}
use mathlib.Core.List.{List, [], ◌∷◌, ◌++◌, flatten}
use Prim.Native.Nat.{ℕ, suc, ◌+◌, ◌*◌, ◌^◌, ◌≤◌, ◌<◌}
use native.Mathlib.Nat as Nat
use native.Mathlib.Numerals.{add-one}
use native.Mathlib.Omega.{arith}
use lib.ListN.{length, take, drop, take-append-drop}
use lib.Seq.{take_all}
use Rattle.algebra.specs.Lists.{All}
use Rattle.algebra.specs.Prime.{Prime}
use Rattle.algebra.proofs.Lists.{member_all}
use Rattle.array.specs.Array.{padded, Holds}
use Rattle.array.specs.Words.{Words, none, word_bound}
use Rattle.array.proofs.Padded.{front_is, holds_is}
use Rattle.array.proofs.Words.{words_length, words_up, append_words}
use Rattle.matrix.specs.Matrix.{Frobenius, matrix_product}
use Rattle.matrix.proofs.FrobeniusMatrix as FrobeniusMatrix
use Rattle.quotient.specs.Residue.{conjugate}
use Rattle.quotient.proofs.Conjugates.{conjugate_words, conjugate-zero}
use Rattle.sorting.specs.Sorting.{insert, rows, sorted}
use Rattle.sorting.proofs.Insertion.{sorted-length, sorted_member}
use Rattle.sorting.proofs.insert.Rows.{rows-flatten}

pub record Sorting (p n : ℕ) (t s out₀ out u : List ℕ) (k : ℕ) : Type 0 where
  pub room : length out ≡ n * n
  pub lengths : length out ≡ length out₀
  pub next : u ≡ padded (conjugate p (take n t) (take n s) k)
  pub list : take (k * n) out ≡ flatten (sorted (conjugate p (take n t) (take n s)) k)

flatten_words : (p n : ℕ) (us : List (List ℕ)) → All (Words p n) us → Words p (length us * n) (flatten us)
unfolding flatten
flatten_words p n [] h = rw Nat.zero-mul none
flatten_words p n (u ∷ us) h = rw (Nat.suc-mul, Nat.add_comm (length us * n) n) (append_words h.0 (flatten_words p n us h.1))

sorted_zero : (n : ℕ) (f : ℕ → List ℕ) (out : List ℕ) → take (0 * n) out ≡ flatten (sorted f 0)
unfolding sorted flatten
sorted_zero n f out = rw Nat.zero-mul refl

sorted_suc : (f : ℕ → List ℕ) (k : ℕ) → insert (f k) (sorted f k) ≡ sorted f (k + 1)
unfolding sorted
sorted_suc f k = rw (add-one k)

module _ (p n : ℕ) (t s : List ℕ) (prime : Prime p) (ht : Holds p n t) (hs : Holds p n s) where
  abbrev f : ℕ → List ℕ
  f = conjugate p (take n t) (take n s)

  pub sort_starts : (out : List ℕ) → length out ≡ n * n → Sorting p n t s out out s 0
  sort_starts out room =
      record {
        room = room;
        lengths = refl;
        next = hs.zeros ∙ ap padded (sym (conjugate-zero prime.0 ht.words hs.words));
        list = sorted_zero n f out;
      }

  each : (k : ℕ) → All (Words p n) (sorted f k)
  each k =
      member_all (Words p n) (sorted f k)
      (λ a m. let (j, l, e) = sorted_member f k a m in subst (Words p n) (sym e) (conjugate_words prime.0 ht.words hs.words j))

  module _ (out₀ out u : List ℕ) (k : ℕ) (c : Sorting p n t s out₀ out u k) where
    pub next_holds : Holds p n u
    next_holds = FrobeniusMatrix.conjugate_holds p n t (take n s) prime ht hs.words k u c.next

    module _ (small : p ≤ 2 ^ 20) where
      pub next_word : Holds word_bound n u
      next_word = holds_is c.next (words_up (omega arith) (conjugate_words prime.0 ht.words hs.words k))

      pub rows_words : Words word_bound (k * n) (take (k * n) out)
      rows_words =
          words_up (omega arith) (subst (λ i. Words p (i * n) (take (k * n) out)) (sorted-length f k)
          (subst (Words p (length (sorted f k) * n)) (sym c.list) (flatten_words p n (sorted f k) (each k))))

    -- the rows so far
    rows_are : rows n k out ≡ sorted f k
    rows_are =
        ap₂ (rows n) (sym (sorted-length f k)) (sym (take-append-drop (k * n) out) ∙ ap (λ xs. xs ++ drop (k * n) out) c.list)
        ∙ rows-flatten n (sorted f k) (drop (k * n) out)
        (member_all (λ a. length a ≡ n) (sorted f k) (λ a m. let (j, l, e) = sorted_member f k a m in ap length e ∙ words_length (conjugate_words prime.0 ht.words hs.words j)))

    pub sort_turn : k < n → (m out' w : List ℕ) → Frobenius p n (take n t) m → length out' ≡ length out → take (suc k * n) out' ≡ flatten (insert (take n u) (rows n k out))
        → w ≡ padded (matrix_product p n m (take n u)) → Sorting p n t s out₀ out' w (k + 1)
    sort_turn l m out' w frobenius same e g =
        record {
          room = same ∙ c.room;
          lengths = same ∙ c.lengths;
          next = FrobeniusMatrix.conjugate_next p n t (take n s) prime ht hs.words k u c.next m w frobenius g;
          list =
              ap (λ i. take (i * n) out') (add-one k) ∙ e
              ∙ ap flatten (ap₂ insert (front_is c.next (conjugate_words prime.0 ht.words hs.words k)) rows_are ∙ sorted_suc f k);
        }

    pub sort_done : k ≤ n → n ≤ k → out ≡ flatten (sorted f n)
    sort_done within l =
        let same : k ≡ n = omega arith in
        let whole : length out ≤ k * n = omega (arith, c.room, ap (λ i. i * n) same) in
        sym (take_all (k * n) out whole) ∙ c.list ∙ ap (λ i. flatten (sorted f i)) same
