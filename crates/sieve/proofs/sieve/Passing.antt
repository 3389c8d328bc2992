-- The loop over the polynomials D of degree n.
--   Passing p n m size c xs codes old marks   before turn c, where D = digits p n c: the multiples of degree m of the polynomials before D are struck out, and of the marks that
--                                            there were nothing else is changed; the lent arrays keep their lengths
use mathlib.Core.Path.{◌≡◌}
use mathlib.Core.List.{List}
use Prim.Native.Nat.{ℕ, ◌+◌, ◌^◌, ◌≤◌, ◌<◌}
use native.Mathlib.Omega.{arith}
use lib.ListN.{length, get_or}
use Rattle.array.specs.Digits.{digits}
use Rattle.sieve.specs.Clauses.{StruckBy, Sieved, Progress, Outside}
use Rattle.sieve.proofs.Powers.{power_monotone}
use Rattle.sieve.proofs.sieve.Kept.{outside_none, outside_more, outside_struck, sieved_kept}
use Rattle.sieve.proofs.sieve.Progress.{progress_struck, progress_skipped, progress_end}

pub record Passing (p n m size c : ℕ) (xs codes old marks : List ℕ) : Type 0 where
  pub within : c ≤ size
  pub size_is : size ≡ p ^ n
  pub size_small : size ≤ 65536
  pub room_xs : length xs ≡ 32768
  pub room_codes : length codes ≡ 32768
  pub progress : Progress p m n c marks
  pub outside : Outside p m old marks

module _ (p n m : ℕ) (big : 2 ≤ p) (low : 1 ≤ n) (half : n + n ≤ m) where
  pub size_fits : p ^ m ≤ 65536 → p ^ n ≤ 65536
  size_fits small = let h : p ^ n ≤ p ^ m = power_monotone p big n m (omega arith) in omega arith

  pub passing_none : (size : ℕ) (xs codes marks : List ℕ) → p ^ m ≤ 65536 → size ≡ p ^ n → length xs ≡ 32768 → length codes ≡ 32768
      → Progress p m n 0 marks → Passing p n m size 0 xs codes marks marks
  passing_none size xs codes marks small e room_xs room_codes h =
      record {
        within = omega arith;
        size_is = e;
        size_small = rw e (size_fits small);
        room_xs = room_xs;
        room_codes = room_codes;
        progress = h;
        outside = outside_none p m marks;
      }

  module _ (size c : ℕ) (xs codes old marks : List ℕ) (h : Passing p n m size c xs codes old marks) where
    pub here_below : c < size → c < p ^ n
    here_below l = omega (arith, h.size_is)

    -- the lists after the turn are what the branch leaves
    module _ (l : c < size) (xs'' codes'' marks'' : List ℕ) where
      pub passing_struck : (xs' codes' new : List ℕ) → xs'' ≡ xs' → codes'' ≡ codes' → marks'' ≡ new → length xs' ≡ 32768 → length codes' ≡ 32768
          → StruckBy p (digits p n c) m marks new → Passing p n m size (c + 1) xs'' codes'' old marks''
      passing_struck xs' codes' new e f g room_xs room_codes s =
          rw (e, f, g)
          record {
            within = omega arith;
            size_is = h.size_is;
            size_small = h.size_small;
            room_xs = room_xs;
            room_codes = room_codes;
            progress = progress_struck p n m c marks big low half h.progress new s;
            outside = outside_more p m old marks new h.outside (outside_struck p m (digits p n c) marks new s);
          }

      pub passing_skipped : Sieved p n old → (get_or marks (size + c) 0 ≡ 0 → ⊥) → xs'' ≡ xs → codes'' ≡ codes → marks'' ≡ marks
          → Passing p n m size (c + 1) xs'' codes'' old marks''
      passing_skipped sieved marked e f g =
          rw (e, f, g)
          record {
            within = omega arith;
            size_is = h.size_is;
            size_small = h.size_small;
            room_xs = h.room_xs;
            room_codes = h.room_codes;
            progress =
                progress_skipped p n m c marks big low half h.progress (here_below l)
                (sieved_kept p n m old marks big (omega arith) h.outside sieved) (rw h.size_is at marked);
            outside = h.outside;
          }

    pub passing_end : size ≤ c → Progress p m (n + 1) 0 marks
    passing_end end = progress_end p n m c marks big low half h.progress (omega (arith, h.size_is))
