-- The decimal digits of a number are digits, have its value and no zero in front: by induction over its tenths.
use mathlib.Core.Path.{◌≡◌, refl, ap, ◌∙◌}
use mathlib.Core.List.{List, [], ◌∷◌, ◌++◌}
use Prim.Native.Nat.{ℕ, zero, suc, ◌+◌, ◌-◌, ◌*◌, ◌/◌, ◌%◌, ◌≤◌, ◌<◌}
use native.Mathlib.Decide.{dec_lt}
use native.Mathlib.Omega.{arith}
use lib.ListN.{get_or}
use Rattle.text.specs.Digits.{decimal}
use Rattle.text.specs.Theorem.{Digits, value, IsDecimal, DecimalIsDecimal}
use Rattle.text.proofs.DecimalDigits.{decimal_one, decimal_more}

digits_append : (ds es : List ℕ) → Digits ds → Digits es → Digits (ds ++ es)
digits_append [] es h l = l
digits_append (d ∷ ds) es h l = (h.0, h.1, digits_append ds es h.2 l)

value-append : (h : ℕ) (ds es : List ℕ) → value h (ds ++ es) ≡ value (value h ds) es
unfolding value
value-append h [] es = refl
value-append h (d ∷ ds) es = value-append (h * 10 + (d - 48)) ds es

first_append : (ds es : List ℕ) → 48 < get_or ds 0 0 → 48 < get_or (ds ++ es) 0 0
first_append [] es h = absurd (omega arith)
first_append (d ∷ ds) es h = h

one_digit : (k : ℕ) → k < 10 → IsDecimal k ((48 + k) ∷ [])
unfolding value
one_digit k h = record { digits = (omega arith, omega arith, tt); value_is = omega arith; first = λ l. omega arith; zero_is = λ z. ap (λ i. (48 + i) ∷ []) z }

one_more : (k : ℕ) (ds : List ℕ) → 10 ≤ k → IsDecimal (k / 10) ds → IsDecimal k (ds ++ ((48 + k % 10) ∷ []))
unfolding value
one_more k ds h tenth =
    record {
      digits = digits_append ds ((48 + k % 10) ∷ []) tenth.digits (omega arith, omega arith, tt);
      value_is = value-append 0 ds ((48 + k % 10) ∷ []) ∙ ap (λ v. v * 10 + (48 + k % 10 - 48)) tenth.value_is ∙ omega arith;
      first = λ l. first_append ds ((48 + k % 10) ∷ []) (tenth.first (omega arith));
      zero_is = λ z. absurd (omega arith);
    }

pub decimal_is_decimal : DecimalIsDecimal
decimal_is_decimal k = go (suc k) k (omega arith)
  where
    by_size : (k : ℕ) → Dec (k < 10) → (10 ≤ k → IsDecimal (k / 10) (decimal (k / 10))) → IsDecimal k (decimal k)
    by_size k (yes low) tenth = rw (decimal_one k low) (one_digit k low)
    by_size k (no high) tenth = let l : 10 ≤ k = omega arith in rw (decimal_more k l) (one_more k (decimal (k / 10)) l (tenth l))

    go : (f k : ℕ) → k < f → IsDecimal k (decimal k)
    go zero k h = absurd (omega arith)
    go (suc f) k h = by_size k (dec_lt k 10) (λ l. go f (k / 10) (omega arith))
