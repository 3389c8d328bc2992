-- What follows for a call to which no refusal applies.
--   Accepted p n xss out   p and n are in range, each list of xss is n words below p, and out has n words
use mathlib.Core.Path.{◌≡◌, sym}
use mathlib.Core.Bool.{true}
use mathlib.Core.List.{List, ◌∷◌}
use Prim.Native.Nat.{ℕ, ◌≤◌}
use lib.ListN.{length}
use Rattle.algebra.specs.Lists.{Member}
use Rattle.algebra.proofs.Lists.{all_member}
use Rattle.refusal.proofs.Order.{sent_given}
use Rattle.array.specs.Words.{Words, all_below}
use Rattle.refusal.proofs.Lists.{words_of}
use Rattle.arithmetic.specs.Calls.{residue_number}
use Rattle.modular.specs.Prime.{largest_prime}

pub record Accepted (p n : ℕ) (xss : List (List ℕ)) (out : List ℕ) : Type 0 where
  pub big : 2 ≤ p
  pub small : p ≤ largest_prime
  pub low : 1 ≤ n
  pub high : n ≤ 16
  pub words : (xs : List ℕ) → Member xs xss → Words p n xs
  pub size : length out ≡ n

pub accepted : (p n : ℕ) (xss : List (List ℕ)) (out : List ℕ) → 0 ≡ residue_number p n xss out → Accepted p n xss out
accepted p n xss out e =
    let sent = (sent_given p n (out ∷ xss) xss 0 (sym e)).0 in
    record {
      big = sent.prime.0;
      small = sent.small;
      low = sent.low;
      high = sent.high;
      words = λ xs m. words_of p n xs (all_member (λ ys. length ys ≡ n) xss sent.lengths.1 xs m) (all_member (λ ys. all_below p ys ≡ true) xss sent.below xs m);
      size = sent.lengths.0;
    }
