-- One row of the system: for X below p, X + (p − 1)·Y + A·U = 0 modulo p says X = Y + (p − U)·A.
use mathlib.Core.Path.{◌≡◌, sym, ap, ◌∙◌}
use Prim.Native.Nat.{ℕ, ◌+◌, ◌-◌, ◌*◌, ◌%◌, ◌≤◌, ◌<◌}
use native.Mathlib.Nat.{add-mod-mod, add-mul-mod_self_left, mod-add-mod, mod-eq_of_lt, mul-mod_right, zero-add}
use native.Mathlib.Omega.{arith}
use Rattle.scalar.proofs.ShiftedMatrix.{complement}

module _ (p X Y A U : ℕ) (big : 2 ≤ p) (small : U ≤ p) where
  -- the two sides together are a multiple of p
  together : (p - 1) * Y + A * U + (Y + (p - U) * A) ≡ p * (Y + A)
  together =
      let first : (p - 1) * Y + 1 * Y ≡ p * Y = complement p 1 Y (omega arith) in
      let second : (p - U) * A + U * A ≡ p * A = complement p U A small in
      omega arith

  pub row_equation : X < p → (X + (p - 1) * Y + A * U) % p ≡ 0 → X ≡ (Y + (p - U) * A % p) % p
  row_equation below h =
      let regroup : X + p * (Y + A) ≡ X + (p - 1) * Y + A * U + (Y + (p - U) * A) = let e = together in omega arith in
      sym (mod-eq_of_lt below) ∙ sym (add-mul-mod_self_left X p (Y + A)) ∙ ap (λ x. x % p) regroup
      ∙ sym (mod-add-mod (X + (p - 1) * Y + A * U) p (Y + (p - U) * A)) ∙ ap (λ x. (x + (Y + (p - U) * A)) % p) h ∙ ap (λ x. x % p) (zero-add (Y + (p - U) * A))
      ∙ sym (add-mod-mod Y ((p - U) * A) p)

  pub equation_row : X ≡ (Y + (p - U) * A % p) % p → (X + (p - 1) * Y + A * U) % p ≡ 0
  equation_row e =
      let regroup : X + (p - 1) * Y + A * U ≡ X + ((p - 1) * Y + A * U) = omega arith in
      let whole : Y + (p - U) * A + ((p - 1) * Y + A * U) ≡ p * (Y + A) = let f = together in omega arith in
      ap (λ x. x % p) regroup ∙ ap (λ x. (x + ((p - 1) * Y + A * U)) % p) (e ∙ add-mod-mod Y ((p - U) * A) p)
      ∙ mod-add-mod (Y + (p - U) * A) p ((p - 1) * Y + A * U) ∙ ap (λ x. x % p) whole ∙ mul-mod_right p (Y + A)
