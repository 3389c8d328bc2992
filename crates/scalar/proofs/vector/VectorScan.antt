-- The loops of `vector`: the words of c·u one after another, the search for the first word that is not 0, and the test for constants.
--   scaled_word p c u k   word k of c·u
--   ZerosBefore u i       no word of u before word i is different from 0
use mathlib.Core.Path.{◌≡◌, refl, sym, ap, ap₂, subst, ◌∙◌}
use mathlib.Core.Bool.{Bool, false≢true}
use mathlib.Core.List.{List, [], ◌∷◌, tail-eq_of_cons-eq}
use Prim.Native.Nat.{ℕ, zero, suc, ◌+◌, ◌-◌, ◌*◌, ◌%◌, ◌^◌, ◌≤◌, ◌<◌}
use native.Mathlib.Numerals.{add-one}
use native.Mathlib.Omega.{arith}
use lib.ListN.{length, get_or, take, drop, set, replicate, drop_of_length-le}
use lib.Seq.{drop-cons}
use Rattle.std.specs.Prelude.{IsTrue, ◌↔◌, slice_range}
use Rattle.std.specs.List.{All}
use Rattle.std.proofs.lemmas.List.{length-take-le}
use Rattle.std.proofs.lemmas.List.Elements.{All-replicate}
use Rattle.algebra.specs.Prime.{Prime}
use Rattle.modular.specs.Inverse.{inverse}
use Rattle.quotient.specs.Residue.{scale, constant}
use Rattle.quotient.proofs.Operations.{scale_words}
use Rattle.array.specs.Array.{padded, Holds}
use Rattle.array.proofs.Padded.{holds_is, holds_word, array_length, array_fits, painted-table}
use Rattle.array.proofs.Painted.{painted, table, painted_turn}
use Rattle.galois.specs.Eigenvector.{first_non_zero}
use Rattle.algebra.specs.Search.{Decides}
use Rattle.galois.proofs.FirstNonZero.{first_non_zero-zero, first_non_zero_nonzero, first_non_zero-nil, first_non_zero_positive, first_non_zero_below}

unfoldable pub scaled_word : ℕ → ℕ → List ℕ → ℕ → ℕ
scaled_word p c u k = c * get_or u k 0 % p

table_scaled : (p c n : ℕ) (u : List ℕ) → n ≤ length u → table (scaled_word p c u) n ≡ scale p c (take n u)
unfolding table scaled_word scale
table_scaled p c zero u h = refl
table_scaled p c (suc n) [] h = absurd (omega arith)
table_scaled p c (suc n) (a ∷ u) h = ap (λ l. c * a % p ∷ l) (table_scaled p c n u (omega arith))

pub word_small : (p n i : ℕ) (u : List ℕ) → p ≤ 2 ^ 20 → Holds p n u → i < n → get_or u i 0 ≤ 1048576
word_small p n i u small h l = omega (arith, holds_word h i l)

pub scale_turn : (p c i r : ℕ) (u w w' : List ℕ) → r ≡ c * get_or u i 0 % p → w' ≡ painted w (scaled_word p c u) i → set w' i r ≡ painted w (scaled_word p c u) (i + 1)
unfolding scaled_word
scale_turn p c i r u w w' f e = painted_turn (scaled_word p c u) i r w w' f e

pub scale_done : (p c n i : ℕ) (u w : List ℕ) → n ≤ 16 → Holds p n u → i ≤ n → n ≤ i → w ≡ painted (replicate 16 0) (scaled_word p c u) i → w ≡ padded (scale p c (take n u))
scale_done p c n i u w short h l l' e = painted-table (scaled_word p c u) n i w short l l' e ∙ ap padded (table_scaled p c n u (array_fits n u short h.zeros))

abbrev pub ZerosBefore : List ℕ → ℕ → Type 0
ZerosBefore u i = first_non_zero u ≡ first_non_zero (drop i u)

module _ (u : List ℕ) (i : ℕ) (h : ZerosBefore u i) where
  split : i < length u → first_non_zero u ≡ first_non_zero (get_or u i 0 ∷ drop (suc i) u)
  split less = h ∙ ap first_non_zero (drop-cons u i 0 less)

  pub first_non_zero_turn : i < length u → get_or u i 0 ≡ 0 → ZerosBefore u (i + 1)
  first_non_zero_turn less e = split less ∙ first_non_zero-zero (get_or u i 0) (drop (suc i) u) e ∙ ap (λ k. first_non_zero (drop k u)) (sym (add-one i))

  pub first_non_zero_found : i < length u → (get_or u i 0 ≡ 0 → ⊥) → get_or u i 0 ≡ first_non_zero u
  first_non_zero_found less other = sym (split less ∙ first_non_zero_nonzero (get_or u i 0) (drop (suc i) u) other)

  pub first_non_zero_none : length u ≤ i → 0 ≡ first_non_zero u
  first_non_zero_none all = sym (h ∙ ap first_non_zero (drop_of_length-le u all) ∙ first_non_zero-nil)

module _ (p n : ℕ) (u : List ℕ) where
  -- what the inverse requires
  pub first_non_zero_positive_word : Holds p n u → (take n u ≡ constant n 0 → ⊥) → (a : ℕ) → a ≡ first_non_zero (take n u) → 0 < a
  first_non_zero_positive_word h other a e = rw e (first_non_zero_positive h.words other)

  pub first_non_zero_small_word : Prime p → Holds p n u → (a : ℕ) → a ≡ first_non_zero (take n u) → a < p
  first_non_zero_small_word prime h a e = rw e (first_non_zero_below (omega arith) h.words)

pub normalised_is : (p i a : ℕ) (u r : List ℕ) → a ≡ first_non_zero u → i ≡ inverse p a → r ≡ padded (scale p i u) → r ≡ padded (scale p (inverse p (first_non_zero u)) u)
normalised_is p i a u r ea ei er = er ∙ ap (λ k. padded (scale p k u)) (ei ∙ ap (inverse p) ea)

pub normalised_holds : (p n i : ℕ) (u r : List ℕ) → Holds p n u → r ≡ padded (scale p i (take n u)) → Holds p n r
normalised_holds p n i u r h e = holds_is e (scale_words i h.words)

-- a constant: only zeros after the first word

zeros_are : (f : List ℕ) → All (λ x. x ≡ 0) f → f ≡ replicate (length f) 0
zeros_are [] h = refl
zeros_are (x ∷ f) h = ap₂ (λ y g. y ∷ g) (h 0 0 (omega arith)) (zeros_are f (λ k d l. h (suc k) d (omega arith)))

constant_decides : (n : ℕ) (u : List ℕ) (r : Bool) → 1 ≤ n → n ≤ length u
    → IsTrue r ↔ All (λ x. x ≡ 0) (slice_range u 1 n) → Decides r (take n u ≡ constant n (get_or u 0 0))
unfolding constant
constant_decides zero u r low l h = absurd (omega arith)
constant_decides (suc n) [] r low l h = absurd (omega arith)
constant_decides (suc n) (a ∷ f) r low l h =
    record {
      if_true = λ e. ap (λ g. a ∷ g)
          (zeros_are (take n f) (subst (λ k. All (λ x. x ≡ 0) (take k f)) count (h.0 e)) ∙ ap (λ k. replicate k 0) (length-take-le n f (omega arith)));
      if_false = λ e g. false≢true (sym e ∙ h.1 (subst (λ k. All (λ x. x ≡ 0) (take k f)) (sym count)
          (subst (All (λ x. x ≡ 0)) (sym (tail-eq_of_cons-eq g)) (All-replicate (λ x. x ≡ 0) n 0 refl))));
    }
  where
    count : suc n - 1 ≡ n
    count = omega arith

pub is_constant_holds : (p n : ℕ) (u : List ℕ) (r : Bool) → 1 ≤ n → n ≤ 16 → Holds p n u → IsTrue r ↔ All (λ x. x ≡ 0) (slice_range u 1 n)
    → Decides r (take n u ≡ constant n (get_or u 0 0))
is_constant_holds p n u r low short h = constant_decides n u r low (omega (arith, array_length n u short h.zeros))
