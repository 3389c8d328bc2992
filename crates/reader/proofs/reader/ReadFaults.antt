-- The reader's refusals in their order: at each return of the code the conditions before it do not apply and its own does.
--   body_number ys l p count   the refusals after those of the header
use mathlib.Core.Path.{◌≡◌, sym, ap, ap₂, ◌∙◌}
use mathlib.Core.Bool.{Bool, true, false, ◌&&◌, not}
use mathlib.Core.List.{List, [], ◌∷◌}
use Prim.Native.Nat.{ℕ, ◌+◌, ◌*◌, ◌/◌, ◌≤◌, ◌<◌}
use native.Mathlib.Omega.{arith}
use lib.Dec.{ltb, eqb}
use lib.ListN.{length}
use borrow.Author.Tests.{eq-eqb, ne_eqb, lt-ltb, le-ltb, not-true, not-false}
use Rattle.algebra.specs.Lists.{all}
use Rattle.modular.specs.Prime.{is_prime}
use Rattle.array.specs.Words.{all_below}
use Rattle.refusal.specs.Refusal.{refuse, bad_prime, bad_word}
use Rattle.card.specs.Bits.{unpacked}
use Rattle.card.specs.Card.{layout, header_bits, is_over, width, bad_kind, word_count, card_length, field_at, fields_at, is_wide, card_prime, card_degree, card_kind, card_words, bad_header, bad_layout, fill_of, fill_bits, read_number}
use Rattle.refusal.proofs.Lists.{given_lengths}
use Rattle.card.proofs.Zeros.{is_zero}
use Rattle.card.proofs.OneList.{bad_length_one, bad_word_one}
use Rattle.card.proofs.CardKinds.{kind_taken, kind_refused}
use Rattle.card.proofs.Header.{layout_right}
use Rattle.card.specs.Kind.{kind_number}
use Rattle.card.specs.declared.kind.Kind.{Kind}
use Rattle.card.specs.declared.layout.Layout.{Layout}
use Rattle.refusal.specs.Number.{number as refusal_number}
use Rattle.refusal.specs.declared.number.Refusal.{Refusal}
use Rattle.refusal.specs.declared.number.Refusal.TheVariants as R

abbrev body_number : List ℕ → Layout → ℕ → ℕ → ℕ
body_number ys l p count =
    refuse 11 (not (eqb (length ys) ((header_bits l + count * width p + 7) / 8)))
    (refuse 13 (not (all is_zero (fill_of l (header_bits l + count * width p) (unpacked ys))))
    (refuse 4 (bad_word p (fields_at (unpacked ys) (header_bits l) (width p) count ∷ [])) 0))

module _ (ys : List ℕ) (wide : Bool) (p count w start end : ℕ) (ew : w ≡ width p) (es : start ≡ header_bits (layout wide)) (ee : end ≡ start + count * w) where
  pub body_length : (length ys ≡ (end + 7) / 8 → ⊥) → 11 ≡ body_number ys (layout wide) p count
  body_length h = rw (← ew, ← es, ← ee, ne_eqb (length ys) ((end + 7) / 8) h)

  -- the header and the words end before the last byte does
  module _ (long : length ys ≡ (end + 7) / 8) where
    pub header_first : header_bits (layout wide) ≤ end
    header_first = omega arith

    module _ (z : Bool) (ez : z ≡ all is_zero (fill_of (layout wide) end (unpacked ys))) where
      pub body_fill : not z ≡ true → 13 ≡ body_number ys (layout wide) p count
      body_fill h = rw (← ew, ← es, ← ee, eq-eqb (length ys) ((end + 7) / 8) long, ← ez, not-true z h)

      module _ (zeros : not z ≡ false) (b : Bool) (eb : b ≡ all_below p (fields_at (unpacked ys) start w count)) where
        -- with everything else in order, the words decide
        body_last : body_number ys (layout wide) p count ≡ refuse 4 (not b) 0
        body_last = rw (← ew, ← es, ← ee, eq-eqb (length ys) ((end + 7) / 8) long, ← ez, not-false z zeros, bad_word_one, ← eb)

        pub body_word : not b ≡ true → 4 ≡ body_number ys (layout wide) p count
        body_word h = rw (body_last, h)

        pub body_none : not b ≡ false → 0 ≡ body_number ys (layout wide) p count
        body_none h = rw (body_last, h)

-- the tests of the header

module _ (ys : List ℕ) where
  pub short_bytes : length ys < 3 → ltb (length ys) 3 ≡ bad_header ys
  unfolding bad_header
  short_bytes h = rw (lt-ltb (length ys) 3 h)

  module _ (long : 3 ≤ length ys) (wide : Bool) (e : wide ≡ is_wide ys) where
    pub wide_decides : wide ≡ true → ltb (length ys) 6 ≡ bad_header ys
    unfolding bad_header
    wide_decides h = rw (le-ltb (length ys) 3 long, ← e, h)

    pub narrow_there : wide ≡ false → wide ≡ bad_header ys
    unfolding bad_header
    narrow_there h = rw (le-ltb (length ys) 3 long, ← e, h)

pub wide_test : (ys : List ℕ) (r : ℕ) → r ≡ field_at (unpacked ys) 0 16 → eqb r 0 ≡ is_wide ys
unfolding is_wide
wide_test ys r e = ap (λ k. eqb k 0) e

module _ (ys out : List ℕ) where
  pub read_room : (length out ≡ 64 → ⊥) → 3 ≡ read_number ys out
  unfolding read_number
  read_room h = rw (bad_length_one, ne_eqb (length out) 64 h)

  module _ (room : length out ≡ 64) (short : Bool) (e : short ≡ bad_header ys) where
    pub read_short : short ≡ true → 11 ≡ read_number ys out
    unfolding read_number
    read_short h = rw (given_lengths 64 (out ∷ []) (room, tt), ← e, h)

    module _ (there : short ≡ false) (p : ℕ) (b : Bool) (ep : p ≡ card_prime ys) (eb : b ≡ is_prime p) where
      pub read_nonprime : not b ≡ true → 1 ≡ read_number ys out
      unfolding read_number bad_prime
      read_nonprime h = rw (given_lengths 64 (out ∷ []) (room, tt), ← e, there, ← ep, ← eb, h)

      module _ (prime : b ≡ true) (wide misplaced : Bool) (f : wide ≡ is_wide ys) (em : misplaced ≡ (wide && ltb p 65536)) where
        is_misplaced : misplaced ≡ bad_layout ys
        unfolding bad_layout
        is_misplaced = em ∙ ap₂ (λ a k. a && ltb k 65536) f ep

        pub read_layout : misplaced ≡ true → 28 ≡ read_number ys out
        unfolding read_number bad_prime
        read_layout h = rw (given_lengths 64 (out ∷ []) (room, tt), ← e, there, ← ep, ← eb, prime, ← is_misplaced, h)

        module _ (placed : misplaced ≡ false) (n number : ℕ) (en : n ≡ card_degree ys) (ek : number ≡ card_kind ys) where
          layout_is : is_over p ≡ wide
          layout_is =
              ap is_over ep
              ∙ layout_right ys (sym e ∙ there) (sym is_misplaced ∙ placed)
              ∙ sym f

          -- with the header in order, the kind decides and then the body
          after_layout : read_number ys out ≡ refuse 12 (bad_kind number) (body_number ys (layout wide) p (word_count n number))
          unfolding read_number bad_prime card_words card_length fill_bits
          after_layout = rw (given_lengths 64 (out ∷ []) (room, tt), ← e, there, ← ep, ← eb, prime, ← is_misplaced, placed, ← en, ← ek, ← f, layout_is)

          pub read_unknown : (r : Refusal) → r ≡ R.Kind → (number ≡ 1 → ⊥) → (number ≡ 2 → ⊥) → refusal_number r ≡ read_number ys out
          read_unknown r er g h = rw (after_layout, kind_refused number g h, er)

          pub read_body : (kind : Kind) (count r : ℕ) → kind_number kind ≡ number → count ≡ word_count n (kind_number kind) → r ≡ body_number ys (layout wide) p count
              → r ≡ read_number ys out
          read_body kind count r ken counted g =
              rw (after_layout, kind_taken kind number ken) (g ∙ ap (body_number ys (layout wide) p) (counted ∙ ap (word_count n) ken))
