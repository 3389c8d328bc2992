-- What `strike_multiples` hands over: its bounds, since 2·n ≤ m and p^m ≤ 65536, and the array of D's lower words.
use mathlib.Core.Path.{◌≡◌, ap, ◌∙◌}
use mathlib.Core.List.{List}
use Prim.Native.Nat.{ℕ, ◌+◌, ◌-◌, ◌*◌, ◌^◌, ◌≤◌}
use native.Mathlib.Nat.{le_refl}
use native.Mathlib.Omega.{arith}
use lib.ListN.{take}
use Rattle.array.specs.Array.{padded, Holds}
use Rattle.array.specs.Digits.{digits}
use Rattle.array.specs.Words.{Words}
use Rattle.array.proofs.Digits.{digits_words}
use Rattle.array.proofs.Padded.{front_is, holds_is}
use Rattle.sieve.specs.Clauses.{WordsBelow, Lows, Struck, StruckBy}
use Rattle.sieve.proofs.Powers.{power_parts, power_monotone, lower_most, prime_most}
use Rattle.sieve.proofs.strike.Multiples.{lows_below, lows_struck}

module _ (p n m : ℕ) (big : 2 ≤ p) (low : 1 ≤ n) (half : n + n ≤ m) (small : p ^ m ≤ 65536) where
  power_fits : (i : ℕ) → i ≤ m → p ^ i ≤ 65536
  power_fits i l = let h : p ^ i ≤ p ^ m = power_monotone p big i m l in omega arith

  pub modulus_small : p ≤ 1048576
  modulus_small = omega (arith, prime_most p m big small (omega arith))

  pub size_fits : p ^ n ≤ 65536
  size_fits = power_fits n (omega arith)

  pub count_fits : p ^ (m - n) ≤ 65536
  count_fits = power_fits (m - n) (omega arith)

  whole : n + (m - n) ≡ m
  whole = omega arith

  -- so many blocks of so many words are the polynomials of degree m
  blocks : p ^ (m - n) * p ^ n ≡ p ^ m
  blocks = power_parts p n (m - n) ∙ ap (λ i. p ^ i) whole

  few_blocks : p ^ (m - n) ≤ 32768
  few_blocks = lower_most p m big small (m - n) (omega arith)

  module _ (r : ℕ) (same : r ≡ p) where
    pub divisor_fits : r ^ (n + (m - n)) ≤ 65536
    divisor_fits = rw (same, whole) small

    pub divisor_count : (count : ℕ) → count ≡ p ^ (m - n) → count ≡ r ^ (m - n)
    divisor_count count e = rw same e

    module _ (c : ℕ) (t : List ℕ) (e : t ≡ padded (digits p n c)) where
      words : Words p n (digits p n c)
      words = digits_words p n c (omega arith)

      pub divisor_holds : Holds r n t
      divisor_holds = rw same (holds_is e words)

      lows_of : (codes : List ℕ) → Lows r (take n t) (m - n) 0 codes → Lows p (digits p n c) (m - n) 0 codes
      lows_of codes l = rw (same, front_is e words) at l

  module _ (base q count : ℕ) (base_is : base ≡ p ^ m) (q_is : q ≡ p ^ n) (count_is : count ≡ p ^ (m - n)) where
    pub base_bound : base ≤ 65536
    base_bound = rw base_is small

    pub count_bound : count ≤ 32768
    count_bound = rw count_is few_blocks

    pub blocks_inside : count * q ≤ base
    blocks_inside = rw (base_is, q_is, count_is, blocks) (le_refl (p ^ m))

    module _ (c r : ℕ) (t codes : List ℕ) (same : r ≡ p) (e : t ≡ padded (digits p n c)) (lows : Lows r (take n t) (m - n) 0 codes) where
      pub codes_below : WordsBelow q count codes
      codes_below = rw (q_is, count_is) (lows_below p n (m - n) (digits p n c) codes big low (words r same c t e) (lows_of r same c t e codes lows))

      pub multiples_struck : (old new : List ℕ) → Struck base q count codes old new → StruckBy p (digits p n c) m old new
      multiples_struck old new s =
          let s' : Struck (p ^ (n + (m - n))) (p ^ n) (p ^ (m - n)) codes old new = rw whole (rw (base_is, q_is, count_is) at s) in
          rw whole at (lows_struck p n (m - n) (digits p n c) codes old new big low (words r same c t e) (lows_of r same c t e codes lows) s')
