-- The sign of a 32-bit integer and its magnitude. A signed local holds bits, and what is read back from the bits of x is x, since x fits.
use mathlib.Core.Path.{◌≡◌, refl, sym, ap, subst, ◌∙◌}
use mathlib.Core.Bool.{true, false}
use mathlib.Core.List.{List, [], ◌∷◌}
use Prim.Native.Nat.{ℕ, ◌+◌, ◌≤◌, ◌<◌}
use native.Mathlib.Omega.{arith}
use borrow.Author.Tests.{ltb-true}
use lib.Dec.{T}
use lib.IntN.{ℤ, pos, negsuc, nat_abs}
use lib.Signed.{lt_z}
use lib.ListN.{length}
use mir.Syntax.{w32}
use mir.Val.{SFits, to_z, of_z}
use mir.ValLaws.{to_z-of_z}
use Rattle.text.specs.Digits.{decimal}
use Rattle.text.specs.Columns.{signed_decimal}
use Rattle.text.specs.Text.{Appended}
use Rattle.text.proofs.Append.{append_both}

never : {X : Type 0} → false ≡ true → X
never e = absurd (subst T (sym e) tt)

-- a test of what is read back is a test of x
module _ (x : ℤ) (f : SFits w32 x) where
  below_zero : lt_z (to_z w32 (of_z w32 x)) (pos 0) ≡ true → lt_z x (pos 0) ≡ true
  below_zero = subst (λ z. lt_z z (pos 0) ≡ true) (to_z-of_z w32 x f)

  from_zero : lt_z (to_z w32 (of_z w32 x)) (pos 0) ≡ false → lt_z x (pos 0) ≡ false
  from_zero = subst (λ z. lt_z z (pos 0) ≡ false) (to_z-of_z w32 x f)

-- the text of x by its sign
signed_negative : (x : ℤ) → lt_z x (pos 0) ≡ true → signed_decimal x ≡ 45 ∷ decimal (nat_abs x)
unfolding signed_decimal
signed_negative (pos n) h = absurd (omega (arith, ltb-true n 0 h))
signed_negative (negsuc n) h = refl

signed_plain : (x : ℤ) → lt_z x (pos 0) ≡ false → signed_decimal x ≡ decimal (nat_abs x)
unfolding signed_decimal
signed_plain (pos n) h = refl
signed_plain (negsuc n) h = never (sym h)

-- how many columns that is, and what the two parts need

module _ (x : ℤ) (f : SFits w32 x) (k : ℕ) (e : k ≡ nat_abs (to_z w32 (of_z w32 x))) where
  size : nat_abs x ≡ k
  size = sym (e ∙ ap nat_abs (to_z-of_z w32 x f))

  module _ (h : lt_z (to_z w32 (of_z w32 x)) (pos 0) ≡ true) where
    minus_text : signed_decimal x ≡ 45 ∷ decimal k
    minus_text = signed_negative x (below_zero x f h) ∙ ap (λ j. 45 ∷ decimal j) size

    pub minus_length : (m : ℕ) → m ≡ length (decimal k) → m + 1 ≡ length (signed_decimal x)
    minus_length m g = omega (arith, ap length minus_text)

    pub minus_append : (at m r : ℕ) (before between after : List ℕ) → Appended at (45 ∷ []) before between m → Appended m (decimal k) between after r
        → Appended at (signed_decimal x) before after r
    minus_append at m r before between after a b = rw minus_text (append_both at m r (45 ∷ []) (decimal k) before between after a b)

    pub minus_digits_room : (at m : ℕ) (before between : List ℕ) → Appended at (45 ∷ []) before between m → length between ≡ length before
        → at + length (signed_decimal x) ≤ length before → m + length (decimal k) ≤ length between
    minus_digits_room at m before between a same room = omega (arith, a.end_is, ap length minus_text)

  module _ (h : lt_z (to_z w32 (of_z w32 x)) (pos 0) ≡ false) where
    plain_text : signed_decimal x ≡ decimal k
    plain_text = signed_plain x (from_zero x f h) ∙ ap decimal size

    pub plain_length : (m : ℕ) → m ≡ length (decimal k) → m ≡ length (signed_decimal x)
    plain_length m g = omega (arith, ap length plain_text)

    pub plain_append : (at r : ℕ) (before after : List ℕ) → Appended at (decimal k) before after r → Appended at (signed_decimal x) before after r
    plain_append at r before after a = rw plain_text a

    pub plain_room : (at : ℕ) (before : List ℕ) → at + length (signed_decimal x) ≤ length before → at + length (decimal k) ≤ length before
    plain_room at before room = omega (arith, ap length plain_text)

pub minus_room : (x : ℤ) → SFits w32 x → lt_z (to_z w32 (of_z w32 x)) (pos 0) ≡ true → (at : ℕ) (before : List ℕ) → at + length (signed_decimal x) ≤ length before
    → at < length before
minus_room x f h at before room = omega (arith, ap length (minus_text x f (nat_abs (to_z w32 (of_z w32 x))) refl h))
