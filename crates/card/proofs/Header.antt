-- The header of a card: its two layouts, and what it says: n is 1 to 16, since n − 1 has four bits, and how many words follow.
use mathlib.Core.Path.{◌≡◌, refl, sym, ap, subst, ◌∙◌}
use mathlib.Core.Bool.{Bool, true, false, ◌||◌, ◌&&◌, false≢true}
use mathlib.Core.List.{List}
use Prim.Native.Nat.{ℕ, ◌+◌, ◌*◌, ◌^◌, ◌≤◌, ◌<◌}
use native.Mathlib.Omega.{arith}
use lib.Dec.{ltb}
use lib.ListN.{length}
use borrow.Author.Tests.{ltb-true, ltb-false, le-ltb, lt-ltb}
use Rattle.modular.specs.Prime.{largest_prime}
use Rattle.card.specs.Bits.{unpacked}
use Rattle.card.specs.Card.{layout, header_bits, is_over, layout_at, width, word_count, field_at, is_wide, card_prime, card_degree, card_kind, card_words, bad_header, bad_layout}
use Rattle.card.specs.declared.layout.Layout.{Layout}
use Rattle.card.proofs.Fields.{field_below, fields_length}
use Rattle.card.proofs.Packed.{unpacked_words}

pub or-false_both : (a b : Bool) → (a || b) ≡ false → (a ≡ false) × (b ≡ false)
or-false_both true b h = absurd (false≢true (sym h))
or-false_both false b h = (refl, h)

-- the layouts

bounds : (wide : Bool) → ((layout wide).before ≤ 16) × ((layout wide).digits ≤ 20) × ((layout wide).after ≤ 4) × (24 ≤ header_bits (layout wide)) × (header_bits (layout wide) ≤ 48)
bounds true = (omega arith, omega arith, omega arith, omega arith, omega arith)
bounds false = (omega arith, omega arith, omega arith, omega arith, omega arith)

pub layout_bounds : (wide : Bool) (l : Layout) → l ≡ layout wide → (l.before ≤ 16) × (l.digits ≤ 20) × (l.after ≤ 4) × (24 ≤ header_bits l) × (header_bits l ≤ 48)
layout_bounds wide l e = rw e (bounds wide)

pub prime_fits : (p : ℕ) → p ≤ largest_prime → p < 2 ^ (layout (is_over p)).digits
prime_fits p h = by_layout (is_over p) refl
  where
    by_layout : (b : Bool) → is_over p ≡ b → p < 2 ^ (layout b).digits
    by_layout true e = omega arith
    by_layout false e = omega (arith, ltb-false 65535 p e)

module _ (ys : List ℕ) where
  -- 11: the header is there exactly where it is not refused
  module _ (wide : Bool) (e : is_wide ys ≡ wide) where
    pub header_fits : bad_header ys ≡ false → header_bits (layout wide) ≤ 8 * length ys
    unfolding bad_header
    header_fits h = by_layout wide (subst (λ b. (ltb (length ys) 3 || (b && ltb (length ys) 6)) ≡ false) e h)
      where
        by_layout : (b : Bool) → (ltb (length ys) 3 || (b && ltb (length ys) 6)) ≡ false → header_bits (layout b) ≤ 8 * length ys
        by_layout true k = omega (arith, ltb-false (length ys) 6 (or-false_both (ltb (length ys) 3) (ltb (length ys) 6) k).1)
        by_layout false k = omega (arith, ltb-false (length ys) 3 (or-false_both (ltb (length ys) 3) false k).0)

    pub header_taken : header_bits (layout wide) ≤ 8 * length ys → bad_header ys ≡ false
    unfolding bad_header
    header_taken h = rw e (by_layout wide h)
      where
        by_layout : (b : Bool) → header_bits (layout b) ≤ 8 * length ys → (ltb (length ys) 3 || (b && ltb (length ys) 6)) ≡ false
        by_layout true k = rw (le-ltb (length ys) 3 (omega arith), le-ltb (length ys) 6 (omega arith))
        by_layout false k = rw (le-ltb (length ys) 3 (omega arith))

  pub header_bytes : bad_header ys ≡ false → 3 ≤ length ys
  unfolding bad_header
  header_bytes h = ltb-false (length ys) 3 (or-false_both (ltb (length ys) 3) (is_wide ys && ltb (length ys) 6) h).0

  -- the fields of the header, by the layout that the card is in
  module _ (wide : Bool) (l : Layout) (e : wide ≡ is_wide ys) (f : l ≡ layout wide) where
    module _ (h : bad_header ys ≡ false) where
      there : header_bits l ≤ 8 * length ys
      there = rw f (header_fits wide (sym e) h)

      pub prime_place : l.before + l.digits ≤ 8 * length ys
      prime_place = omega (arith, there)

      pub degree_place : l.before + l.digits + 4 ≤ 8 * length ys
      degree_place = omega (arith, there)

      pub kind_place : l.before + l.digits + 4 + 4 ≤ 8 * length ys
      kind_place = omega (arith, there)

    layout_is : l ≡ layout_at ys
    layout_is = f ∙ ap layout e

    module _ (r : ℕ) where
      pub prime_read : r ≡ field_at (unpacked ys) l.before l.digits → r ≡ card_prime ys
      unfolding card_prime
      prime_read g = g ∙ ap (λ (x : Layout). field_at (unpacked ys) x.before x.digits) layout_is

      pub degree_read : r ≡ field_at (unpacked ys) (l.before + l.digits) 4 → r + 1 ≡ card_degree ys
      unfolding card_degree
      degree_read g = ap (λ k. k + 1) (g ∙ ap (λ (x : Layout). field_at (unpacked ys) (x.before + x.digits) 4) layout_is)

      pub kind_read : r ≡ field_at (unpacked ys) (l.before + l.digits + 4) 4 → r ≡ card_kind ys
      unfolding card_kind
      kind_read g = g ∙ ap (λ (x : Layout). field_at (unpacked ys) (x.before + x.digits + 4) 4) layout_is

  pub short_bytes_there : (short : Bool) → short ≡ bad_header ys → short ≡ false → 2 ≤ length ys
  short_bytes_there short e h = omega (arith, header_bytes (sym e ∙ h))

  pub degree_least : 1 ≤ card_degree ys
  unfolding card_degree
  degree_least = omega arith

  pub words_counted : length (card_words ys) ≡ word_count (card_degree ys) (card_kind ys)
  unfolding card_words
  words_counted = fields_length (unpacked ys) (header_bits (layout_at ys)) (width (card_prime ys)) (word_count (card_degree ys) (card_kind ys))

  module _ (h : bad_header ys ≡ false) where
    whole : header_bits (layout_at ys) ≤ 8 * length ys
    whole = header_fits (is_wide ys) refl h

    pub degree_most : card_degree ys ≤ 16
    unfolding card_degree
    degree_most = omega (arith, field_below (unpacked_words ys) ((layout_at ys).before + (layout_at ys).digits) 4 (omega (arith, whole)))

    prime_below : card_prime ys < 2 ^ (layout_at ys).digits
    unfolding card_prime
    prime_below = field_below (unpacked_words ys) (layout_at ys).before (layout_at ys).digits (omega (arith, whole))

    -- 28: where it does not apply, the card is in the layout that the writer uses
    pub layout_right : bad_layout ys ≡ false → is_over (card_prime ys) ≡ is_wide ys
    unfolding bad_layout
    layout_right good = by_layout (is_wide ys) good prime_below
      where
        by_layout : (b : Bool) → (b && ltb (card_prime ys) 65536) ≡ false → card_prime ys < 2 ^ (layout b).digits → is_over (card_prime ys) ≡ b
        by_layout true k l = lt-ltb 65535 (card_prime ys) (omega (arith, ltb-false (card_prime ys) 65536 k))
        by_layout false k l = le-ltb 65535 (card_prime ys) (omega arith)

  pub layout_taken : is_wide ys ≡ is_over (card_prime ys) → bad_layout ys ≡ false
  unfolding bad_layout
  layout_taken e = rw e (by_layout (is_over (card_prime ys)) refl)
    where
      by_layout : (b : Bool) → is_over (card_prime ys) ≡ b → (b && ltb (card_prime ys) 65536) ≡ false
      by_layout true k = le-ltb (card_prime ys) 65536 (omega (arith, ltb-true 65535 (card_prime ys) k))
      by_layout false k = refl
