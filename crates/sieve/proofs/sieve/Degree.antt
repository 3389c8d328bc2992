-- The sieve of degree m: the multiples of the polynomials of degree 1, 2, …, m/2 are struck out. Every polynomial of degree m with a divisor of degree 1 to m − 1 is among them, since
-- it has one of degree up to m/2.
--   Sieving p m n xs codes old marks   before degree n: the multiples of the polynomials of lower degree are struck out, and of the marks that there were nothing else is changed; the lent
--                                      arrays keep their lengths
use mathlib.Core.Path.{◌≡◌, sym, ap, ◌∙◌}
use mathlib.Core.List.{List}
use mathlib.Core.Logic.{◌⊎◌, inl, inr, ⊎_elim}
use Prim.Native.Nat.{ℕ, ◌+◌, ◌/◌, ◌^◌, ◌≤◌, ◌<◌}
use native.Mathlib.Nat.{le_refl}
use native.Mathlib.Omega.{arith}
use lib.ListN.{length, get_or}
use Rattle.array.specs.Digits.{digits}
use Rattle.array.specs.Words.{Words}
use Rattle.array.proofs.Digits.{digits_words}
use Rattle.quotient.specs.Divisor.{HasDivisor}
use Rattle.quotient.specs.DivisorTest.{has_divisor}
use Rattle.quotient.proofs.Cofactor.{half_degree}
use Rattle.quotient.proofs.Decision.{has_divisor_test, irreducible_test}
use Rattle.sieve.specs.Clauses.{bit, Sieved, SievedBelow, Progress, Outside, Room, Clear}
use Rattle.sieve.proofs.sieve.Kept.{outside_none, outside_more, sieved_kept}

pub record Sieving (p m n : ℕ) (xs codes old marks : List ℕ) : Type 0 where
  pub low : 1 ≤ n
  pub within : n ≤ m / 2 + 1
  pub room_xs : length xs ≡ 32768
  pub room_codes : length codes ≡ 32768
  pub progress : Progress p m n 0 marks
  pub outside : Outside p m old marks

-- no polynomial of degree m is marked, and there are none of a degree from 1 to 0
progress_none : (p m : ℕ) (marks : List ℕ) → Room marks → Clear (p ^ m) marks → Progress p m 1 0 marks
progress_none p m marks room clear =
    record {
      room = room;
      sound = λ i l. inl (clear.words (p ^ m + i) (omega arith));
      complete = λ i e u l positive before wu d. absurd (⊎_elim (λ x. omega arith) (λ x. omega arith) before);
    }

pub sieving_none : (p m : ℕ) (xs codes marks : List ℕ) → length xs ≡ 32768 → length codes ≡ 32768 → Room marks → Clear (p ^ m) marks
    → Sieving p m 1 xs codes marks marks
sieving_none p m xs codes marks room_xs room_codes room clear =
    record {
      low = le_refl 1;
      within = omega arith;
      room_xs = room_xs;
      room_codes = room_codes;
      progress = progress_none p m marks room clear;
      outside = outside_none p m marks;
    }

module _ (p m n : ℕ) (xs codes old marks : List ℕ) (h : Sieving p m n xs codes old marks) where
  pub lower_sieved : 2 ≤ p → SievedBelow p (m / 2 + 1) old → n < m / 2 + 1 → Sieved p n marks
  lower_sieved big below l =
      sieved_kept p n m old marks big (omega (arith, h.low)) h.outside (below.each n h.low (omega arith))

  pub sieving_turn : n < m / 2 + 1 → (xs' codes' new : List ℕ) → length xs' ≡ 32768 → length codes' ≡ 32768 → Progress p m (n + 1) 0 new → Outside p m marks new
      → Sieving p m (n + 1) xs' codes' old new
  sieving_turn l xs' codes' new room_xs room_codes progress outside =
      record {
        low = omega arith;
        within = omega arith;
        room_xs = room_xs;
        room_codes = room_codes;
        progress = progress;
        outside = outside_more p m old marks new h.outside outside;
      }

  module _ (big : 2 ≤ p) (end : m / 2 + 1 ≤ n) where
    words : (i : ℕ) → Words p m (digits p m i)
    words i = digits_words p m i (omega arith)

    -- a polynomial with a divisor is marked
    none : (i : ℕ) → i < p ^ m → get_or marks (p ^ m + i) 0 ≡ 0 → HasDivisor p (digits p m i) → ⊥
    none i l zero d =
        let (e, positive, low, u, wu, divides) = half_degree big (words i) d in
        let one : get_or marks (p ^ m + i) 0 ≡ 1 = h.progress.complete i e u l positive (inl (omega arith)) wu divides in
        omega arith

    by_mark : (i : ℕ) → i < p ^ m → (get_or marks (p ^ m + i) 0 ≡ 0) ⊎ ((get_or marks (p ^ m + i) 0 ≡ 1) × HasDivisor p (digits p m i))
        → get_or marks (p ^ m + i) 0 ≡ bit (has_divisor p (digits p m i))
    unfolding bit
    by_mark i l (inl zero) = zero ∙ sym (ap bit (irreducible_test big (words i) (none i l zero)))
    by_mark i l (inr (one, d)) = one ∙ sym (ap bit (has_divisor_test big (words i) d))

    pub sieving_end : Sieved p m marks
    sieving_end = record { words = λ i l. by_mark i l (h.progress.sound i l) }
