-- The writer's answers: where the call is refused the list is as it was, else it is the card.
use mathlib.Core.Path.{◌≡◌, refl, sym, ◌∙◌}
use mathlib.Core.List.{List}
use Prim.Native.Nat.{ℕ, ◌≤◌}
use lib.ListN.{length}
use Rattle.modular.specs.Prime.{largest_prime}
use Rattle.refusal.specs.Number.{number}
use Rattle.refusal.specs.declared.number.Refusal.{Refusal}
use Rattle.refusal.proofs.Refused.{refused}
use Rattle.refusal.proofs.Written.{output_new, output_old}
use Rattle.card.specs.Card.{width, card, write_number, write_output}
use Rattle.card.proofs.Refusals.{Writable, writable}
use Rattle.card.proofs.Theorem.{longest_card}
use Rattle.card.proofs.Width.{width_positive}

module _ (p n kind : ℕ) (words out : List ℕ) where
  pub write_refused : (e : Refusal) → number e ≡ write_number p n kind words out → out ≡ write_output p n kind words out
  unfolding write_output
  write_refused e h = output_old (number e) (write_number p n kind words out) (card p n kind words) out h (refused e)

  module _ (taken : 0 ≡ write_number p n kind words out) where
    fit : Writable p n kind words out
    fit = writable p n kind words out (sym taken)

    pub prime_fits : p ≤ largest_prime
    prime_fits = fit.small

    pub degree_there : 1 ≤ n
    degree_there = fit.low

    pub width_there : (w : ℕ) → w ≡ width p → 1 ≤ w
    width_there w ew = rw ew (width_positive p fit.prime.0 prime_fits)

    pub room_exact : length out ≡ length (card p n kind words)
    room_exact = fit.size ∙ sym (longest_card.0 p n kind words out (sym taken)).0

    pub room_most : length out ≤ 166
    room_most = rw fit.size (longest_card.0 p n kind words out (sym taken)).1

    pub write_accepted : (new : List ℕ) → new ≡ card p n kind words → new ≡ write_output p n kind words out
    unfolding write_output
    write_accepted new en = output_new 0 (write_number p n kind words out) (card p n kind words) out new taken refl en
