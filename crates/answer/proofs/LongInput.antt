-- An input of more than 167 bytes is refused, and so are its first 167 bytes, with the same number: the header stands in the first six bytes, and
-- no card is as long.
--   long_number p misplaced kind   the number: 1, 28 or 12, else 11
use mathlib.Core.Path.{◌≡◌, refl, sym, ap, ap₂, ◌∙◌}
use mathlib.Core.Bool.{Bool, true, false, ◌&&◌, not}
use mathlib.Core.List.{List, [], ◌∷◌, ◌++◌, append_assoc}
use Prim.Native.Nat.{ℕ, ◌+◌, ◌*◌, ◌≤◌}
use native.Mathlib.Decide.{dec_le}
use native.Mathlib.Omega.{arith}
use borrow.Author.Tests.{ne_eqb}
use lib.Dec.{ltb, eqb}
use lib.ListN.{length, take, drop, replicate, length-drop, take-append-drop}
use lib.Seq.{take_all, take-append-le, drop-append-le, length-take-le}
use Rattle.algebra.specs.Lists.{all}
use Rattle.refusal.specs.Refusal.{refuse, bad_prime, bad_length}
use Rattle.card.specs.Bits.{bits, number, unpacked}
use Rattle.card.specs.Card.{header_bits, layout_at, bad_kind, card_length, is_wide, card_prime, card_degree, card_kind, bad_header, bad_layout, field_at, read_number}
use Rattle.refusal.proofs.Order.{prime_bounds}
use Rattle.card.proofs.Packed.{unpacked-length}
use Rattle.card.proofs.Theorem.{length_most}
use Rattle.answer.specs.Answer.{refused_text, answer_text}
use Rattle.answer.specs.Theorem.{LongInput}
use Rattle.card.proofs.Header.{layout_bounds, header_taken, degree_most}
use Rattle.answer.proofs.CardAnswers.{refusal_is}

long_number : ℕ → Bool → ℕ → ℕ
long_number p misplaced kind = refuse 1 (bad_prime p) (refuse 28 misplaced (refuse 12 (bad_kind kind) 11))

not_zero : (p : ℕ) (misplaced : Bool) (kind : ℕ) → long_number p misplaced kind ≡ 0 → ⊥
unfolding long_number
not_zero p misplaced kind = go (bad_prime p) misplaced (bad_kind kind)
  where
    go : (a m b : Bool) → refuse 1 a (refuse 28 m (refuse 12 b 11)) ≡ 0 → ⊥
    go true m b h = omega arith
    go false true b h = omega arith
    go false false true h = omega arith
    go false false false h = omega arith

-- the header is there
header_whole : (ys : List ℕ) → 167 ≤ length ys → header_bits (layout_at ys) ≤ 8 * length ys
header_whole ys h = omega (arith, layout_bounds (is_wide ys) (layout_at ys) refl)

header_good : (ys : List ℕ) → 167 ≤ length ys → bad_header ys ≡ false
header_good ys h = header_taken ys (is_wide ys) refl (header_whole ys h)

-- the reader's number of a string of 167 bytes or more
long_refused : (ys : List ℕ) → 167 ≤ length ys → read_number ys (replicate 64 0) ≡ long_number (card_prime ys) (bad_layout ys) (card_kind ys)
unfolding read_number long_number bad_length all
long_refused ys h =
    rw (header_good ys h) (go (bad_prime (card_prime ys)) (bad_layout ys) (bad_kind (card_kind ys)) refl _)
  where
    go : (a m b : Bool) → bad_prime (card_prime ys) ≡ a → (rest : ℕ)
        → refuse 1 a (refuse 28 m (refuse 12 b (refuse 11 (not (eqb (length ys) (card_length (card_prime ys) (card_degree ys) (card_kind ys)))) rest)))
        ≡ refuse 1 a (refuse 28 m (refuse 12 b 11))
    go true m b e rest = refl
    go false true b e rest = refl
    go false false true e rest = refl
    go false false false e rest =
        let most : card_length (card_prime ys) (card_degree ys) (card_kind ys) ≤ 166 =
        length_most (card_prime ys) (card_degree ys) (card_kind ys) (prime_bounds (card_prime ys) e).1 (degree_most ys (header_good ys h)) in
        rw (ne_eqb (length ys) (card_length (card_prime ys) (card_degree ys) (card_kind ys)) (λ s. omega arith))

-- bytes that follow change no field of the bytes before them

unpacked-append : (xs zs : List ℕ) → unpacked (xs ++ zs) ≡ unpacked xs ++ unpacked zs
unfolding unpacked
unpacked-append [] zs = refl
unpacked-append (x ∷ xs) zs = ap (λ l. bits 8 x ++ l) (unpacked-append xs zs) ∙ sym (append_assoc (bits 8 x) (unpacked xs) (unpacked zs))

field_front : (ys zs : List ℕ) (i w : ℕ) → i + w ≤ length (unpacked ys) → field_at (unpacked (ys ++ zs)) i w ≡ field_at (unpacked ys) i w
unfolding field_at
field_front ys zs i w h =
    ap (λ l. number (take w (drop i l))) (unpacked-append ys zs)
    ∙ ap (λ l. number (take w l)) (drop-append-le i (unpacked ys) (unpacked zs) (omega arith))
    ∙ ap number (take-append-le w (drop i (unpacked ys)) (unpacked zs) (omega (arith, length-drop i (unpacked ys))))

-- two strings of 167 bytes or more of which one begins with the other
module _ (ys zs : List ℕ) (h : 167 ≤ length ys) where
  wide_front : is_wide (ys ++ zs) ≡ is_wide ys
  unfolding is_wide
  wide_front = ap (λ k. eqb k 0) (field_front ys zs 0 16 (omega (arith, unpacked-length ys)))

  within : header_bits (layout_at ys) ≤ length (unpacked ys)
  within = omega (arith, header_whole ys h, unpacked-length ys)

  prime_front : card_prime (ys ++ zs) ≡ card_prime ys
  unfolding card_prime
  prime_front = rw wide_front (field_front ys zs (layout_at ys).before (layout_at ys).digits (omega (arith, within)))

  kind_front : card_kind (ys ++ zs) ≡ card_kind ys
  unfolding card_kind
  kind_front = rw wide_front (field_front ys zs ((layout_at ys).before + (layout_at ys).digits + 4) 4 (omega (arith, within)))

  layout_front : bad_layout (ys ++ zs) ≡ bad_layout ys
  unfolding bad_layout
  layout_front = ap₂ (λ b p. b && ltb p 65536) wide_front prime_front

  same_text : 167 ≤ length (ys ++ zs) → answer_text ys ≡ answer_text (ys ++ zs)
  same_text k =
      sym (refusal_is ys _ (sym (long_refused ys h)) (not_zero (card_prime ys) (bad_layout ys) (card_kind ys)))
      ∙ ap₂ (λ p q. refused_text (long_number p (bad_layout ys) q)) (sym prime_front) (sym kind_front)
      ∙ ap (λ m. refused_text (long_number (card_prime (ys ++ zs)) m (card_kind (ys ++ zs)))) (sym layout_front)
      ∙ refusal_is (ys ++ zs) _ (sym (long_refused (ys ++ zs) k)) (not_zero (card_prime (ys ++ zs)) (bad_layout (ys ++ zs)) (card_kind (ys ++ zs)))

pub long_input : LongInput
long_input ys = go (dec_le (length ys) 167)
  where
    go : Dec (length ys ≤ 167) → answer_text (take 167 ys) ≡ answer_text ys
    go (yes h) = ap answer_text (take_all 167 ys h)
    go (no h) =
        let whole : take 167 ys ++ drop 167 ys ≡ ys = take-append-drop 167 ys in
        let long : 167 ≤ length ys = omega arith in
        same_text (take 167 ys) (drop 167 ys) (omega (arith, length-take-le 167 ys long)) (rw whole long) ∙ ap answer_text whole
