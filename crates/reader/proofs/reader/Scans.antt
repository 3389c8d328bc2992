-- The reader's tests: of the bits that count as fill, by the fields that they are, and of every word, from the front.
use mathlib.Core.Path.{◌≡◌, refl, sym, ap, ap₂, ◌∙◌}
use mathlib.Core.Bool.{Bool, true, false, ◌&&◌, false≢true}
use mathlib.Core.List.{List, ◌++◌}
use Prim.Native.Nat.{ℕ, ◌+◌, ◌-◌, ◌*◌, ◌/◌, ◌≤◌, ◌<◌}
use native.Mathlib.Omega.{arith}
use lib.Dec.{eqb}
use lib.ListN.{length, take, drop, replicate, length-drop}
use lib.Seq.{length-take-le, take_all}
use borrow.Author.Tests.{eq-eqb, ne_eqb}
use Rattle.algebra.specs.Lists.{all}
use Rattle.array.specs.Words.{all_below}
use Rattle.array.proofs.Below.{below_next, below_fails, below_holds}
use Rattle.card.specs.Bits.{unpacked}
use Rattle.card.specs.Card.{layout, header_bits, field_at, fields_at, fill_of}
use Rattle.card.specs.declared.layout.Layout.{Layout}
use Rattle.card.proofs.Zeros.{is_zero, zeros_pass, all_zeros, all_append}
use Rattle.card.proofs.Packed.{unpacked-length, unpacked_words}
use Rattle.card.proofs.Fields.{fields_length, zero_field, field_zero}
use Rattle.card.proofs.Places.{word_at}

-- a field is 0 where its bits are
module _ (ys : List ℕ) (i w : ℕ) (fits : i + w ≤ 8 * length ys) where
  bits_of : List ℕ
  bits_of = take w (drop i (unpacked ys))

  bits_size : length bits_of ≡ w
  unfolding bits_of
  bits_size = length-take-le w (drop i (unpacked ys)) (omega (arith, unpacked-length ys, length-drop i (unpacked ys)))

  field_test : (r : ℕ) → r ≡ field_at (unpacked ys) i w → eqb r 0 ≡ all is_zero bits_of
  unfolding bits_of
  field_test r f = by_test (all is_zero bits_of) refl
    where
      by_test : (b : Bool) → all is_zero bits_of ≡ b → eqb r 0 ≡ b
      by_test true t = eq-eqb r 0 (f ∙ field_zero (unpacked_words ys) i w fits (all_zeros bits_of t ∙ ap (λ k. replicate k 0) bits_size))
      by_test false t = ne_eqb r 0 (λ h. false≢true (sym t ∙ ap (all is_zero) (zero_field (unpacked_words ys) i w fits (sym f ∙ h)) ∙ zeros_pass w))

-- the zero bits after kind, and those of the last byte behind the words
module _ (ys : List ℕ) (wide : Bool) (l : Layout) (end : ℕ) (e : l ≡ layout wide) (there : header_bits (layout wide) ≤ end) (long : length ys ≡ (end + 7) / 8) where
  pub after_place : l.before + l.digits + 8 + l.after ≤ 8 * length ys
  after_place = rw e (omega arith)

  pub last_place : end + (8 * length ys - end) ≤ 8 * length ys
  last_place = omega arith

  pub last_few : 8 * length ys - end ≤ 20
  last_few = omega arith

  last_bits : take (8 * length ys - end) (drop end (unpacked ys)) ≡ drop end (unpacked ys)
  last_bits = take_all (8 * length ys - end) (drop end (unpacked ys)) (omega (arith, length-drop end (unpacked ys), unpacked-length ys))

  pub fill_tested : (r s : ℕ) → r ≡ field_at (unpacked ys) (l.before + l.digits + 8) l.after → s ≡ field_at (unpacked ys) end (8 * length ys - end)
      → (eqb r 0 && eqb s 0) ≡ all is_zero (fill_of (layout wide) end (unpacked ys))
  unfolding fill_of bits_of
  fill_tested r s f g =
      ap₂ ◌&&◌
      (field_test ys (l.before + l.digits + 8) l.after after_place r f)
      (field_test ys end (8 * length ys - end) last_place s g ∙ ap (all is_zero) last_bits)
      ∙ sym (all_append is_zero (take l.after (drop (l.before + l.digits + 8) (unpacked ys))) (drop end (unpacked ys)))
      ∙ ap (λ (x : Layout). all is_zero (take x.after (drop (x.before + x.digits + 8) (unpacked ys)) ++ drop end (unpacked ys))) e

module _ (ys : List ℕ) (p start w count k : ℕ) (so_far : all_below p (fields_at (unpacked ys) start w count) ≡ all_below p (drop k (fields_at (unpacked ys) start w count))) where
  pub words_next : (v : ℕ) → k < count → v ≡ field_at (unpacked ys) (start + k * w) w → v < p
      → all_below p (fields_at (unpacked ys) start w count) ≡ all_below p (drop (k + 1) (fields_at (unpacked ys) start w count))
  words_next v h e l =
      below_next p (fields_at (unpacked ys) start w count) k so_far (omega (arith, fields_length (unpacked ys) start w count)) (rw (word_at (unpacked ys) start w count k h, ← e) l)

  pub words_fail : (v : ℕ) → k < count → v ≡ field_at (unpacked ys) (start + k * w) w → p ≤ v → false ≡ all_below p (fields_at (unpacked ys) start w count)
  words_fail v h e l =
      below_fails p (fields_at (unpacked ys) start w count) k so_far (omega (arith, fields_length (unpacked ys) start w count)) (rw (word_at (unpacked ys) start w count k h, ← e) l)

  pub words_hold : count ≤ k → true ≡ all_below p (fields_at (unpacked ys) start w count)
  words_hold h = below_holds p (fields_at (unpacked ys) start w count) k so_far (omega (arith, fields_length (unpacked ys) start w count))
