-- The bits of a card that is written, by their places: zeros, those of p, of n − 1 and of kind, zeros, those of the words, and zeros.
use mathlib.Core.Path.{◌≡◌, sym, ap, ap₂, ◌∙◌}
use mathlib.Core.List.{List, [], ◌++◌}
use Prim.Native.Nat.{ℕ, suc, ◌+◌, ◌-◌, ◌*◌, ◌/◌, ◌%◌, ◌^◌, ◌≤◌, ◌<◌}
use native.Mathlib.Nat.{mod-lt, div-mul-le_self, mul-le-mul_right, le_trans}
use native.Mathlib.Omega.{arith}
use lib.ListN.{length, get_or, replicate, length-replicate, get_or-replicate, get_or-append, get_or-eq_default}
use lib.Seq.{get_or-append-add}
use Rattle.card.specs.Bits.{bits, unpacked}
use Rattle.card.specs.Card.{layout, header_bits, is_over, width, all_bits, header, card, field_at}
use Rattle.card.specs.declared.layout.Layout.{Layout}
use Rattle.card.proofs.Bits.{bits-length, bit_of_bits}
use Rattle.card.proofs.Zeros.{get_or_zeros}
use Rattle.card.proofs.Fields.{all_bits-length}
use Rattle.card.proofs.Packed.{byte_below}
use Rattle.card.proofs.Places.{words_bit, field_end, byte_is_field, byte_fits}
use Rattle.card.proofs.Written.{header_split, header_place, fill_count, unpacked-card, card_bytes}

pub behind_fits : (w i : ℕ) → 1 ≤ w → i % w ≤ w - 1
behind_fits w i h = omega (arith, mod-lt i h)

pub word_digit : (w : ℕ) (words : List ℕ) (i r : ℕ) → 1 ≤ w → i / w < length words → r ≡ get_or words (i / w) 0 / 2 ^ (w - 1 - i % w) % 2 → r ≡ get_or (all_bits w words) i 0
word_digit w words i r h k e = e ∙ sym (words_bit w words i (w - 1 - i % w) (omega (arith, behind_fits w i h)) k)

pub word_past : (w : ℕ) (words : List ℕ) (i : ℕ) → length words ≤ i / w → 0 ≡ get_or (all_bits w words) i 0
word_past w words i h =
    let past : length words * w ≤ i = le_trans (mul-le-mul_right w h) (div-mul-le_self i w) in
    sym (get_or-eq_default (all_bits w words) 0 (omega (arith, all_bits-length w words)))

get_or_skip : (xs ys : List ℕ) (i j : ℕ) → j ≡ length xs + i → get_or (xs ++ ys) j 0 ≡ get_or ys i 0
get_or_skip xs ys i j e = ap (λ k. get_or (xs ++ ys) k 0) e ∙ get_or-append-add xs ys i 0

-- bit j of a field of w bits that stands first, with e bits of it after
get_or_here : (w v : ℕ) (rest : List ℕ) (j e : ℕ) → j + suc e ≡ w → get_or (bits w v ++ rest) j 0 ≡ v / 2 ^ e % 2
get_or_here w v rest j e h = get_or-append (bits w v) rest 0 j (omega (arith, bits-length w v)) ∙ bit_of_bits w v j e h

-- bit j of zeros that stand first
get_or-zero : (m : ℕ) (rest : List ℕ) (j : ℕ) → j < m → get_or (replicate m 0 ++ rest) j 0 ≡ 0
get_or-zero m rest j h = get_or-append (replicate m 0) rest 0 j (omega (arith, length-replicate {A = ℕ} m 0)) ∙ get_or-replicate m j 0 0 h

module _ (l : Layout) (p n kind : ℕ) (rest : List ℕ) (i : ℕ) where
  header_bit_before : i < l.before → get_or (header l p n kind rest) i 0 ≡ 0
  unfolding header
  header_bit_before h = get_or-zero l.before _ i h

  module _ (h : l.before ≤ i) where
    -- behind the zeros
    behind_zeros : get_or (header l p n kind rest) i 0
        ≡ get_or (bits l.digits p ++ (bits 4 (n - 1) ++ (bits 4 kind ++ (replicate l.after 0 ++ rest)))) (i - l.before) 0
    unfolding header
    behind_zeros = get_or_skip (replicate l.before 0) _ (i - l.before) i (omega (arith, length-replicate {A = ℕ} l.before 0))

    header_bit_prime : i < l.before + l.digits → get_or (header l p n kind rest) i 0 ≡ p / 2 ^ (l.before + l.digits - 1 - i) % 2
    header_bit_prime k = behind_zeros ∙ get_or_here l.digits p _ (i - l.before) (l.before + l.digits - 1 - i) (omega arith)

  module _ (h : l.before + l.digits ≤ i) where
    behind_prime : get_or (header l p n kind rest) i 0 ≡ get_or (bits 4 (n - 1) ++ (bits 4 kind ++ (replicate l.after 0 ++ rest))) (i - (l.before + l.digits)) 0
    behind_prime =
        behind_zeros (omega arith) ∙ get_or_skip (bits l.digits p) _ (i - (l.before + l.digits)) (i - l.before) (omega (arith, bits-length l.digits p))

    header_bit_degree : i < l.before + l.digits + 4 → get_or (header l p n kind rest) i 0 ≡ (n - 1) / 2 ^ (l.before + l.digits + 3 - i) % 2
    header_bit_degree k = behind_prime ∙ get_or_here 4 (n - 1) _ (i - (l.before + l.digits)) (l.before + l.digits + 3 - i) (omega arith)

  module _ (h : l.before + l.digits + 4 ≤ i) where
    behind_degree : get_or (header l p n kind rest) i 0 ≡ get_or (bits 4 kind ++ (replicate l.after 0 ++ rest)) (i - (l.before + l.digits + 4)) 0
    behind_degree =
        behind_prime (omega arith)
        ∙ get_or_skip (bits 4 (n - 1)) _ (i - (l.before + l.digits + 4)) (i - (l.before + l.digits)) (omega (arith, bits-length 4 (n - 1)))

    header_bit_kind : i < l.before + l.digits + 8 → get_or (header l p n kind rest) i 0 ≡ kind / 2 ^ (l.before + l.digits + 7 - i) % 2
    header_bit_kind k = behind_degree ∙ get_or_here 4 kind _ (i - (l.before + l.digits + 4)) (l.before + l.digits + 7 - i) (omega arith)

  header_bit_after : l.before + l.digits + 8 ≤ i → i < header_bits l → get_or (header l p n kind rest) i 0 ≡ 0
  header_bit_after h k =
      behind_degree (omega arith)
      ∙ get_or_skip (bits 4 kind) _ (i - (l.before + l.digits + 8)) (i - (l.before + l.digits + 4)) (omega (arith, bits-length 4 kind))
      ∙ get_or-zero l.after rest (i - (l.before + l.digits + 8)) (omega arith)

  header_bit_rest : header_bits l ≤ i → get_or (header l p n kind rest) i 0 ≡ get_or rest (i - header_bits l) 0
  header_bit_rest h =
      rw header_split (get_or_skip (header l p n kind []) rest (i - header_bits l) i (omega (arith, header_place l p n kind (i - header_bits l))))

-- by the tests of the code
module _ (p n kind : ℕ) (i r : ℕ) (l : Layout) (e : l ≡ layout (is_over p)) where
  abbrev header_only : List ℕ
  header_only = header (layout (is_over p)) p n kind []

  header_is : header_only ≡ header l p n kind []
  header_is = ap (λ (x : Layout). header x p n kind []) (sym e)

  pub bit_before : i < l.before → 0 ≡ get_or header_only i 0
  bit_before h = rw header_is (sym (header_bit_before l p n kind [] i h))

  pub bit_prime : l.before ≤ i → i < l.before + l.digits → r ≡ p / 2 ^ (l.before + l.digits - 1 - i) % 2 → r ≡ get_or header_only i 0
  bit_prime h k f = rw header_is (f ∙ sym (header_bit_prime l p n kind [] i h k))

  pub bit_degree : l.before + l.digits ≤ i → i < l.before + l.digits + 4 → r ≡ (n - 1) / 2 ^ (l.before + l.digits + 3 - i) % 2 → r ≡ get_or header_only i 0
  bit_degree h k f = rw header_is (f ∙ sym (header_bit_degree l p n kind [] i h k))

  pub bit_kind : l.before + l.digits + 4 ≤ i → i < l.before + l.digits + 8 → r ≡ kind / 2 ^ (l.before + l.digits + 7 - i) % 2 → r ≡ get_or header_only i 0
  bit_kind h k f = rw header_is (f ∙ sym (header_bit_kind l p n kind [] i h k))

  pub bit_after : l.before + l.digits + 8 ≤ i → i < header_bits (layout (is_over p)) → 0 ≡ get_or header_only i 0
  bit_after h k = rw header_is (sym (header_bit_after l p n kind [] i h (rw e k)))

module _ (p n kind : ℕ) (words : List ℕ) (i r : ℕ) where
  -- the bits behind the header
  rest : List ℕ
  rest = all_bits (width p) words ++ replicate (fill_count p n kind words) 0

  card_is : unpacked (card p n kind words) ≡ header (layout (is_over p)) p n kind rest
  unfolding rest
  card_is = unpacked-card p n kind words

  pub bit_header : (start : ℕ) → start ≡ header_bits (layout (is_over p)) → i < start → r ≡ get_or (header (layout (is_over p)) p n kind []) i 0
      → r ≡ get_or (unpacked (card p n kind words)) i 0
  bit_header start es h f =
      rw (card_is, header_split)
      (f ∙ sym (get_or-append (header (layout (is_over p)) p n kind []) rest 0 i (omega (arith, header_place (layout (is_over p)) p n kind 0))))

  pub bit_words : (start w : ℕ) → start ≡ header_bits (layout (is_over p)) → start ≤ i → w ≡ width p → r ≡ get_or (all_bits w words) (i - start) 0
      → r ≡ get_or (unpacked (card p n kind words)) i 0
  unfolding rest
  bit_words start w es h ew f =
      rw card_is
      (f
      ∙ ap₂ (λ a v. get_or (all_bits v words) (i - a) 0) es ew
      ∙ sym (header_bit_rest (layout (is_over p)) p n kind rest i (rw (← es) h) ∙ get_or_zeros (all_bits (width p) words) (fill_count p n kind words) (i - header_bits (layout (is_over p)))))

-- eight bits from place 8·k on are byte k
pub byte_end : (p n kind : ℕ) (words : List ℕ) (k j value : ℕ) → value ≡ field_at (unpacked (card p n kind words)) (8 * k) j → j ≤ 8 → 8 ≤ j → k < length (card p n kind words)
    → value ≡ get_or (card p n kind words) k 0
byte_end p n kind words k j value e l m h =
    field_end (card p n kind words) (8 * k) 8 (byte_fits (card p n kind words) k h) j value e l m ∙ byte_is_field (card p n kind words) k h (byte_below (card p n kind words) k (card_bytes p n kind words) h)
