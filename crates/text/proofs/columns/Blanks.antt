-- Blanks in a part of a list.
use mathlib.Core.Path.{◌≡◌, ap, ◌∙◌}
use mathlib.Core.List.{List, ◌++◌}
use Prim.Native.Nat.{ℕ, ◌+◌, ◌-◌, ◌≤◌}
use native.Mathlib.Omega.{arith}
use lib.ListN.{length, take, drop, replicate, length-drop, length-replicate}
use lib.Seq.{length-take-le}
use borrow.Rule.Slice.PartMut.{put_mid}
use Rattle.std.proofs.lemmas.Slice.{take-put_mid}
use Rattle.text.specs.Columns.{blanks}
use Rattle.text.specs.Text.{Appended}

module _ (at k : ℕ) (before part : List ℕ) (room : at + k ≤ length before)
    (filled : part ≡ replicate (length (take (at + k - at) (drop at before))) 32) where
  part_is : part ≡ replicate k 32
  part_is =
      let long : length (take (at + k - at) (drop at before)) ≡ at + k - at = length-take-le (at + k - at) (drop at before) (omega (arith, length-drop at before)) in
      let same : at + k - at ≡ k = omega arith in
      filled ∙ ap (λ m. replicate m 32) (long ∙ same)

  pub blanks_put : Appended at (blanks k) before (put_mid at (at + k - at) before part) (at + k)
  unfolding blanks
  blanks_put =
      record {
        end_is = omega (arith, length-replicate {A = ℕ} k 32);
        list_is =
            take-put_mid at (at + k - at) before part (at + k) (omega (arith, ap length part_is, length-replicate {A = ℕ} k 32)) (omega arith)
            ∙ ap (λ xs. take at before ++ xs) part_is;
      }
