-- The sieve of degree 1, 2, …, n/2 and then of degree n. Each degree has its own part of the marks, so that those of the degrees before stay and those of the degrees after are still 0.
--   Degrees p n m xs codes marks   before degree m: the lower degrees are sieved, and from p^m on nothing is marked
use mathlib.Core.Path.{◌≡◌, ap, ◌∙◌}
use mathlib.Core.List.{List}
use mathlib.Core.Logic.{inr}
use Prim.Native.Nat.{ℕ, ◌+◌, ◌/◌, ◌^◌, ◌≤◌, ◌<◌}
use native.Mathlib.Decide.{dec_lt}
use native.Mathlib.Nat.{le_refl}
use native.Mathlib.Omega.{arith}
use lib.ListN.{length, get_or, replicate, length-replicate}
use Rattle.array.proofs.Ranges.{zeros_word}
use Rattle.sieve.specs.Clauses.{Sieved, SievedBelow, Outside, Room, Clear}
use Rattle.sieve.proofs.Powers.{power_monotone, power_doubles}
use Rattle.sieve.proofs.sieve.Kept.{room_kept, sieved_kept}

pub record Degrees (p n m : ℕ) (xs codes marks : List ℕ) : Type 0 where
  pub low : 1 ≤ m
  pub within : m ≤ n / 2 + 1
  pub room_xs : length xs ≡ 32768
  pub room_codes : length codes ≡ 32768
  pub room : Room marks
  pub below : SievedBelow p m marks
  pub clear : Clear (p ^ m) marks

zeros_clear : (k i : ℕ) (marks : List ℕ) → marks ≡ replicate k 0 → Clear i marks
zeros_clear k i marks e = record { words = λ j l. ap (λ ms. get_or ms j 0) e ∙ zeros_word k j }

pub degrees_none : (p n : ℕ) (marks : List ℕ) → marks ≡ replicate 131072 0 → Degrees p n 1 (replicate 32768 0) (replicate 32768 0) marks
degrees_none p n marks e =
    record {
      low = le_refl 1;
      within = omega arith;
      room_xs = length-replicate {A = ℕ} 32768 0;
      room_codes = length-replicate {A = ℕ} 32768 0;
      room = ap length e ∙ length-replicate {A = ℕ} 131072 0;
      below = record { each = λ d positive l. absurd (omega arith) };
      clear = zeros_clear 131072 (p ^ 1) marks e;
    }

below_fewer : (p d e : ℕ) (marks : List ℕ) → d ≤ e → SievedBelow p e marks → SievedBelow p d marks
below_fewer p d e marks l h = record { each = λ i positive b. h.each i positive (omega arith) }

module _ (p n m : ℕ) (xs codes marks : List ℕ) (big : 2 ≤ p) (h : Degrees p n m xs codes marks) where
  -- degree m
  pub degree_fits : m < n / 2 + 1 → p ^ n ≤ 65536 → p ^ m ≤ 65536
  degree_fits l small = let r : p ^ m ≤ p ^ n = power_monotone p big m n (omega arith) in omega arith

  pub degree_below : SievedBelow p (m / 2 + 1) marks
  degree_below = below_fewer p (m / 2 + 1) m marks (omega (arith, h.low)) h.below

  module _ (new : List ℕ) (sieved : Sieved p m new) (outside : Outside p m marks new) where
    each : (i : ℕ) → 1 ≤ i → i < m + 1 → Dec (i < m) → Sieved p i new
    each i positive l (yes lower) = sieved_kept p i m marks new big lower outside (h.below.each i positive lower)
    each i positive l (no last) = let same : i ≡ m = omega arith in rw same sieved

    clear_after : (i : ℕ) → p ^ (m + 1) ≤ i → get_or new i 0 ≡ 0
    clear_after i l =
        let twice : p ^ m + p ^ m ≤ p ^ (m + 1) = power_doubles p big m (m + 1) (omega arith) in
        outside.words i (inr (omega arith)) ∙ h.clear.words i (omega arith)

    pub degrees_turn : m < n / 2 + 1 → (xs' codes' : List ℕ) → length xs' ≡ 32768 → length codes' ≡ 32768 → Degrees p n (m + 1) xs' codes' new
    degrees_turn l xs' codes' room_xs room_codes =
        record {
          low = omega arith;
          within = omega arith;
          room_xs = room_xs;
          room_codes = room_codes;
          room = room_kept p m marks new outside h.room;
          below = record { each = λ i positive b. each i positive b (dec_lt i m) };
          clear = record { words = clear_after };
        }

  -- degree n
  module _ (end : n / 2 + 1 ≤ m) where
    pub last_below : SievedBelow p (n / 2 + 1) marks
    last_below = below_fewer p (n / 2 + 1) m marks (omega arith) h.below

    pub last_clear : 1 ≤ n → Clear (p ^ n) marks
    last_clear positive =
        let r : p ^ m ≤ p ^ n = power_monotone p big m n (omega (arith, h.within)) in
        record { words = λ i l. h.clear.words i (omega arith) }
