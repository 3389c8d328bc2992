-- The reader's answer where the card is refused: every field but the number is 0.
use mathlib.Core.Path.{◌≡◌, refl}
use mathlib.Core.List.{List}
use Prim.Native.Nat.{ℕ, zero, suc}
use Rattle.refusal.specs.Number.{number}
use Rattle.refusal.specs.declared.number.Refusal.{Refusal}
use Rattle.refusal.proofs.Refused.{refused}
use Rattle.card.specs.Card.{card_prime, card_degree, card_kind, read_number, read_prime, read_degree, read_kind, unless_refused}

refused_field : (k v : ℕ) → (k ≡ 0 → ⊥) → 0 ≡ unless_refused k v
refused_field zero v h = absurd (h refl)
refused_field (suc k) v h = refl

module _ (ys out : List ℕ) (e : Refusal) (h : number e ≡ read_number ys out) where
  pub refused_prime : 0 ≡ read_prime ys out
  unfolding read_prime
  refused_prime = rw (← h) (refused_field (number e) (card_prime ys) (refused e))

  pub refused_degree : 0 ≡ read_degree ys out
  unfolding read_degree
  refused_degree = rw (← h) (refused_field (number e) (card_degree ys) (refused e))

  pub refused_kind : 0 ≡ read_kind ys out
  unfolding read_kind
  refused_kind = rw (← h) (refused_field (number e) (card_kind ys) (refused e))
