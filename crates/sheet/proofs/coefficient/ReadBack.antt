-- The two results of `centred`: words below 2^31 are read back from their bits as they are.
use mathlib.Core.Path.{◌≡◌, sym, ap₂, subst, ◌∙◌}
use Prim.Native.Nat.{ℕ, suc, ◌-◌, ◌/◌, ◌^◌, ◌≤◌, ◌<◌}
use native.Mathlib.Omega.{arith}
use lib.IntN.{pos, negsuc, ◌-ℤ◌}
use mir.Syntax.{w32}
use mir.Val.{SFits, to_z, of_z}
use mir.ValLaws.{to_z-of_z}
use Rattle.sheet.specs.Sheet.{centred}
use Rattle.sheet.proofs.SignedWord.{difference, centred_low, centred_high}

read : (v : ℕ) → v < 2 ^ 31 → to_z w32 v ≡ pos v
read v h = to_z-of_z w32 (pos v) (record { sfits = h })

module _ (p v : ℕ) (l : v < p) (small : p ≤ 2 ^ 20) where
  pub low_is : v ≤ p / 2 → to_z w32 v ≡ centred p v
  low_is h = read v (omega arith) ∙ sym (centred_low p v h)

  both_read : to_z w32 v -ℤ to_z w32 p ≡ negsuc (p - suc v)
  both_read = ap₂ ◌-ℤ◌ (read v (omega arith)) (read p (omega arith)) ∙ difference p v l

  pub high_fits : SFits w32 (to_z w32 v -ℤ to_z w32 p)
  high_fits = let fits : SFits w32 (negsuc (p - suc v)) = record { sfits = omega arith } in subst (SFits w32) (sym both_read) fits

  pub high_is : p / 2 < v → to_z w32 (of_z w32 (to_z w32 v -ℤ to_z w32 p)) ≡ centred p v
  high_is h = to_z-of_z w32 (to_z w32 v -ℤ to_z w32 p) high_fits ∙ both_read ∙ sym (centred_high p v h l)
