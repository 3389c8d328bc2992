-- Sums and differences of words, wrapped at 32 bits: a − b is the only word to which b is added to make a.
use Rattle.std.proofs.Common.{◌≡◌, ℕ, ◌+◌, ◌-◌, ◌%◌, ◌<◌, sym, ap, ◌∙◌, arith}
use native.Mathlib.Nat as Nat
use Rattle.array.specs.Words.{word_bound}
use Rattle.differences.specs.Differences.{minus}

-- what is added together with what makes it m is gone modulo m
cancel : {m : ℕ} (x y z : ℕ) → x < m → y + z ≡ m → ((x + y) % m + z) % m ≡ x
cancel {m} x y z small whole =
    let sum : x + y + z ≡ x + m = omega arith in
    Nat.mod-add-mod (x + y) m z ∙ ap (λ k. k % m) sum ∙ Nat.add-mod_right x m ∙ Nat.mod-eq_of_lt small

pub minus_plus : (a b : ℕ) → a < word_bound → b < word_bound → (minus a b + b) % word_bound ≡ a
unfolding minus
minus_plus a b small_a small_b = cancel a (word_bound - b) b small_a (omega arith)

pub plus_minus : (a b : ℕ) → a < word_bound → b < word_bound → minus ((a + b) % word_bound) b ≡ a
unfolding minus
plus_minus a b small_a small_b = cancel a b (word_bound - b) small_a (omega arith)

pub minus_unique : (r a b : ℕ) → r < word_bound → b < word_bound → (r + b) % word_bound ≡ a → r ≡ minus a b
minus_unique r a b small_r small_b e = sym (plus_minus r b small_r small_b) ∙ ap (λ k. minus k b) e

pub wrapped_below : (a : ℕ) → a % word_bound < word_bound
wrapped_below a = Nat.mod-lt a (omega arith)

pub minus_below : (a b : ℕ) → minus a b < word_bound
unfolding minus
minus_below a b = wrapped_below (a + (word_bound - b))
