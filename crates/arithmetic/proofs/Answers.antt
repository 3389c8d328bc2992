-- The calls on residues: what each step may assume where no refusal applies, and what the output list holds at the end.
use mathlib.Core.Path.{◌≡◌, refl, sym, ap, ap₂, subst, ◌∙◌}
use mathlib.Core.List.{List, [], ◌∷◌}
use mathlib.Core.Logic.{inl, inr}
use Prim.Native.Nat.{ℕ, ◌^◌, ◌≤◌}
use native.Mathlib.Omega.{arith}
use lib.ListN.{length, take}
use Rattle.array.specs.Words.{Words, word_bound}
use Rattle.quotient.specs.Residue.{product, power, substitute}
use Rattle.quotient.proofs.Operations.{product_words, power_words, substitute_words}
use Rattle.array.proofs.Words.{words_length, words_up}
use Rattle.array.specs.Array.{padded, Holds}
use Rattle.refusal.specs.Refusal.{written}
use Rattle.refusal.proofs.Written.{output_new}
use Rattle.arithmetic.specs.Calls.{residue_number, product_output, power_output, substitute_output}
use Rattle.array.proofs.Padded.{holds_is, front_is}
use Rattle.arithmetic.proofs.Accepted.{Accepted, accepted}

-- the lists that a call reads, and the one that it writes

module _ (p n : ℕ) (t : List ℕ) (others : List (List ℕ)) (out : List ℕ) (e : 0 ≡ residue_number p n (t ∷ others) out) where
  given : Accepted p n (t ∷ others) out
  given = accepted p n (t ∷ others) out e

  pub first_words : Words p n t
  first_words = given.words t (inl refl)

  pub first_short : length t ≤ 16
  first_short = omega (arith, words_length first_words, given.high)

  pub first_holds : (a : List ℕ) → a ≡ padded t → Holds p n a
  first_holds a f = holds_is f first_words

  pub output_short : length out ≤ 16
  output_short = omega (arith, given.size, given.high)

  pub prime_range : (2 ≤ p) × (p ≤ 2 ^ 20)
  prime_range = (given.big, omega (arith, given.small))

  pub degree_range : (1 ≤ n) × (n ≤ 16)
  degree_range = (given.low, given.high)

  -- a result s of n words below p, on its way from the array r into out
  module _ (s r : List ℕ) (f : r ≡ padded s) (w : Words p n s) where
    stores : Holds word_bound (length out) r
    stores = subst (λ k. Holds word_bound k r) (sym given.size) (holds_is f (words_up (omega (arith, given.small)) w))

    stored : (out' : List ℕ) → out' ≡ take (length out) r → out' ≡ written (residue_number p n (t ∷ others) out) s out
    stored out' g = output_new 0 (residue_number p n (t ∷ others) out) s out out' e refl (g ∙ ap (λ k. take k r) given.size ∙ front_is f w)

module _ (p n : ℕ) (t u : List ℕ) (others : List (List ℕ)) (out : List ℕ) (e : 0 ≡ residue_number p n (t ∷ u ∷ others) out) where
  second_words : Words p n u
  second_words = (accepted p n (t ∷ u ∷ others) out e).words u (inr (inl refl))

  pub second_short : length u ≤ 16
  second_short = omega (arith, words_length second_words, (accepted p n (t ∷ u ∷ others) out e).high)

  pub second_holds : (b : List ℕ) → b ≡ padded u → Holds p n b
  second_holds b f = holds_is f second_words

module _ (p n : ℕ) (t u : List ℕ) (out : List ℕ) (e : 0 ≡ residue_number p n (t ∷ u ∷ []) out) where
  module _ (x : ℕ) (a b r : List ℕ) (f : a ≡ padded t) (g : b ≡ padded u) (k : r ≡ padded (power p (take n a) (take n b) x)) where
    abbrev wt : Words p n t
    wt = first_words p n t (u ∷ []) out e

    abbrev wu : Words p n u
    wu = second_words p n t u [] out e

    power_result : r ≡ padded (power p t u x)
    power_result = k ∙ ap padded (ap₂ (λ l m. power p l m x) (front_is f wt) (front_is g wu))

    power_is_words : Words p n (power p t u x)
    power_is_words = power_words (given p n t (u ∷ []) out e).big wt wu x

    pub power_stores : Holds word_bound (length out) r
    power_stores = stores p n t (u ∷ []) out e (power p t u x) r power_result power_is_words

    pub power_stored : (out' : List ℕ) → out' ≡ take (length out) r → out' ≡ power_output p n t u x out
    power_stored = stored p n t (u ∷ []) out e (power p t u x) r power_result power_is_words

module _ (p n : ℕ) (t u v : List ℕ) (out : List ℕ) (e : 0 ≡ residue_number p n (t ∷ u ∷ v ∷ []) out) where
  third_words : Words p n v
  third_words = (accepted p n (t ∷ u ∷ v ∷ []) out e).words v (inr (inr (inl refl)))

  pub third_short : length v ≤ 16
  third_short = omega (arith, words_length third_words, (accepted p n (t ∷ u ∷ v ∷ []) out e).high)

  pub third_holds : (c : List ℕ) → c ≡ padded v → Holds p n c
  third_holds c f = holds_is f third_words

  module _ (a b c r : List ℕ) (f : a ≡ padded t) (g : b ≡ padded u) (h : c ≡ padded v) where
    abbrev first : Words p n t
    first = first_words p n t (u ∷ v ∷ []) out e

    abbrev second : Words p n u
    second = second_words p n t u (v ∷ []) out e

    abbrev big : 2 ≤ p
    big = (accepted p n (t ∷ u ∷ v ∷ []) out e).big

    -- a result F t u v, worked out on arrays
    module _ (F : List ℕ → List ℕ → List ℕ → List ℕ) (w : Words p n (F t u v)) (k : r ≡ padded (F (take n a) (take n b) (take n c))) where
      result : r ≡ padded (F t u v)
      result = k ∙ ap padded (ap (λ l. F l (take n b) (take n c)) (front_is f first) ∙ ap₂ (F t) (front_is g second) (front_is h third_words))

      result_stores : Holds word_bound (length out) r
      result_stores = stores p n t (u ∷ v ∷ []) out e (F t u v) r result w

      result_stored : (out' : List ℕ) → out' ≡ take (length out) r → out' ≡ written (residue_number p n (t ∷ u ∷ v ∷ []) out) (F t u v) out
      result_stored = stored p n t (u ∷ v ∷ []) out e (F t u v) r result w

    module _ (k : r ≡ padded (product p (take n a) (take n b) (take n c))) where
      pub product_stores : Holds word_bound (length out) r
      product_stores = result_stores (product p) (product_words big first u third_words) k

      pub product_stored : (out' : List ℕ) → out' ≡ take (length out) r → out' ≡ product_output p n t u v out
      product_stored = result_stored (product p) (product_words big first u third_words) k

    module _ (k : r ≡ padded (substitute p (take n a) (take n b) (take n c))) where
      pub substitute_stores : Holds word_bound (length out) r
      substitute_stores = result_stores (substitute p) (substitute_words big first second third_words) k

      pub substitute_stored : (out' : List ℕ) → out' ≡ take (length out) r → out' ≡ substitute_output p n t u v out
      substitute_stored = result_stored (substitute p) (substitute_words big first second third_words) k
