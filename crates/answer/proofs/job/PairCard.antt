-- The pair card of words to which no refusal of the writer applies: its size, and what the writer makes of a list that begins with room for it.
use mathlib.Core.Path.{◌≡◌, refl, sym, ap, ◌∙◌}
use mathlib.Core.List.{List, ◌++◌}
use Prim.Native.Nat.{ℕ, ◌+◌, ◌*◌, ◌/◌, ◌≤◌}
use native.Mathlib.Omega.{arith}
use lib.ListN.{length, take, drop, replicate, length-append}
use lib.Seq.{take_at, length-take-le}
use Rattle.std.specs.Prelude.{Result, Ok, Err, IsOk}
use Rattle.modular.specs.Prime.{largest_prime}
use Rattle.refusal.specs.Number.{number_of}
use Rattle.refusal.specs.declared.number.Refusal.{Refusal}
use Rattle.refusal.proofs.Refused.{refused}
use Rattle.refusal.specs.Refusal.{written}
use Rattle.card.specs.Card.{layout, header_bits, is_over, width, card, card_length, write_number, write_output}
use Rattle.array.proofs.Words.{words_length}
use Rattle.card.proofs.Refusals.{Writable, writable, write_accepts}
use Rattle.card.proofs.Theorem.{longest_card}
use Rattle.text.specs.Text.{Begins}

succeeds : (r : Result (Unit {0}) Refusal) → number_of r ≡ 0 → IsOk r
succeeds (Ok x) h = refl
succeeds (Err e) h = absurd (refused e h)

module _ (p n : ℕ) (words : List ℕ) (h : write_number p n 2 words (replicate (card_length p n 2) 0) ≡ 0) where
  fit : Writable p n 2 words (replicate (card_length p n 2) 0)
  fit = writable p n 2 words (replicate (card_length p n 2) 0) h

  pub prime_fits : p ≤ largest_prime
  prime_fits = fit.small

  words_counted : length words ≡ 4 * n
  words_counted = words_length fit.below

  pub words_few : length words ≤ 64
  words_few = omega (arith, words_counted, fit.high)

  -- the writer takes every list of the card's length
  accepted : (out : List ℕ) → length out ≡ card_length p n 2 → write_number p n 2 words out ≡ 0
  accepted out e =
      write_accepts p n 2 words out
      (record {
        prime = fit.prime;
        small = fit.small;
        low = fit.low;
        high = fit.high;
        kind_good = fit.kind_good;
        below = fit.below;
        size = e;
      })

  module _ (size : ℕ) (out : List ℕ) (es : size ≡ (header_bits (layout (is_over p)) + length words * width p + 7) / 8) (room : length out ≡ 166) where
    size_is : size ≡ card_length p n 2
    unfolding card_length
    size_is = es ∙ rw words_counted

    size_most : size ≤ 166
    size_most = rw size_is (longest_card.0 p n 2 words (replicate (card_length p n 2) 0) h).1

    front : length (take size out) ≡ size
    front = length-take-le size out (omega (arith, size_most))

    card-size : length (card p n 2 words) ≡ size
    card-size = (longest_card.0 p n 2 words (replicate (card_length p n 2) 0) h).0 ∙ sym size_is

    card_taken : write_number p n 2 words (take size out) ≡ 0
    card_taken = accepted (take size out) (front ∙ size_is)

    -- the writer's answer, by the kind's number
    pub written_well : (kind : ℕ) (r : Result (Unit {0}) Refusal) → kind ≡ 2 → number_of r ≡ write_number p n kind words (take size out) → IsOk r
    written_well kind r k e = succeeds r (e ∙ ap (λ m. write_number p n m words (take size out)) k ∙ card_taken)

    pub card_written : (kind : ℕ) (new : List ℕ) → kind ≡ 2 → new ≡ write_output p n kind words (take size out) → Begins (card p n 2 words) (new ++ drop size out) size
    unfolding write_output
    card_written kind new kind_is e =
        let new_is : new ≡ card p n 2 words = e ∙ ap (λ m. write_output p n m words (take size out)) kind_is ∙ ap (λ k. written k (card p n 2 words) (take size out)) card_taken in
        let new_size : length new ≡ size = ap length new_is ∙ card-size in
        record { text_is = take_at new (drop size out) size new_size ∙ new_is; within = omega (arith, length-append new (drop size out)) }
