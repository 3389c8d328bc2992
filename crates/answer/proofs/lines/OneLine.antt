-- The lines: each puts its lists one behind another, and 338 bytes hold the longest.
use mathlib.Core.Path.{◌≡◌}
use mathlib.Core.List.{List, [], ◌∷◌, ◌++◌}
use Prim.Native.Nat.{ℕ, ◌+◌, ◌^◌, ◌≤◌, ◌<◌}
use native.Mathlib.Omega.{arith}
use lib.ListN.{length, length-append}
use Rattle.text.specs.Digits.{decimal, hexadecimal}
use Rattle.answer.specs.Answer.{pair_text, refused_text, ring_text, valid_text}
use Rattle.text.specs.Text.{Appended, Begins}
use Rattle.text.proofs.Append.{append_both, begins}
use Rattle.text.proofs.DecimalDigits.{decimal-length}
use Rattle.text.proofs.HexadecimalDigits.{hexadecimal-length}

-- three lists, one behind another
three : {m k r : ℕ} {xs ys zs t t1 t2 t3 : List ℕ} → Appended 0 xs t t1 m → Appended m ys t1 t2 k → Appended k zs t2 t3 r
    → length xs + (length ys + length zs) ≤ length t3 → Begins (xs ++ (ys ++ zs)) t3 r
three {m} {k} {r} {xs} {ys} {zs} {t} {t1} {t2} {t3} a b c room =
    begins r (xs ++ (ys ++ zs)) t t3
    (append_both 0 m r xs (ys ++ zs) t t1 t3 a (append_both m k r ys zs t1 t2 t3 b c))
    (omega (arith, length-append xs (ys ++ zs), length-append ys zs))

-- `PAIR `, the digits of a card and a newline
module _ (ys : List ℕ) {m k : ℕ} {t t1 t2 : List ℕ} (a : Appended 0 (80 ∷ 65 ∷ 73 ∷ 82 ∷ 32 ∷ []) t t1 m) (b : Appended m (hexadecimal ys) t1 t2 k) (most : length ys ≤ 166) where
  pub pair_room : 338 ≤ length t2 → k < length t2
  pair_room room = omega (arith, a.end_is, b.end_is, hexadecimal-length ys)

  pub line_of_pair : {r : ℕ} {t3 : List ℕ} → Appended k (10 ∷ []) t2 t3 r → 338 ≤ length t3 → Begins (pair_text ys) t3 r
  unfolding pair_text
  line_of_pair c room = three a b c (omega (arith, hexadecimal-length ys))

-- `REFUSED `, the digits of a number of 32 bits and a newline
module _ (d : ℕ) (fits : d < 2 ^ 32) {m : ℕ} {t t1 : List ℕ} (a : Appended 0 (82 ∷ 69 ∷ 70 ∷ 85 ∷ 83 ∷ 69 ∷ 68 ∷ 32 ∷ []) t t1 m) where
  short : length (decimal d) ≤ 10
  short = decimal-length 9 d (omega arith)

  pub digits_room : 338 ≤ length t1 → m + length (decimal d) ≤ length t1
  digits_room room = omega (arith, a.end_is, short)

  module _ {k : ℕ} {t2 : List ℕ} (b : Appended m (decimal d) t1 t2 k) where
    pub refusal_room : 338 ≤ length t2 → k < length t2
    refusal_room room = omega (arith, a.end_is, b.end_is, short)

    pub refusal_line : {r : ℕ} {t3 : List ℕ} → Appended k (10 ∷ []) t2 t3 r → 338 ≤ length t3 → Begins (refused_text d) t3 r
    unfolding refused_text
    refusal_line c room = three a b c (omega (arith, short))

pub valid_line : (r : ℕ) (t t1 : List ℕ) → length t1 ≡ length t → 338 ≤ length t → Appended 0 (86 ∷ 65 ∷ 76 ∷ 73 ∷ 68 ∷ 10 ∷ []) t t1 r → Begins valid_text t1 r
unfolding valid_text
valid_line r t t1 same room a = begins r (86 ∷ 65 ∷ 76 ∷ 73 ∷ 68 ∷ 10 ∷ []) t t1 a (omega arith)

pub ring_line : (r : ℕ) (t t1 : List ℕ) → length t1 ≡ length t → 338 ≤ length t → Appended 0 (82 ∷ 73 ∷ 78 ∷ 71 ∷ 10 ∷ []) t t1 r → Begins ring_text t1 r
unfolding ring_text
ring_line r t t1 same room a = begins r (82 ∷ 73 ∷ 78 ∷ 71 ∷ 10 ∷ []) t t1 a (omega arith)
