-- Field cards (document 01, "Field cards"): "Bits are packed most significant first: p in 16 bits, n − 1 in 4, kind in 4, then coefficients
-- of w bits each. w is the number of binary digits of p − 1." Request S-9: "A wide card starts with 16 zero bits, then p in 20 bits, n − 1 in 4, kind in 4
-- and 4 zero bits, which count as fill; coefficients follow as before".
--   layout wide                  the wide layout, and the narrow one: how many zero bits come first, the bits of p, the zero bits after kind
--   header_bits l                how many bits come before the coefficients: 48, and 24
--   is_over p                    "The writer uses it exactly when p is over 65,535"
--   width p                      w
--   bad_kind kind                12: kind is neither 1 (a job: T1, T2) nor 2 (a pair card: T1, T2, S, R)
--   word_count n kind            how many coefficients a card carries: "2n words for a job and 4n for a pair card"; no card is of another kind: 0
--   card p n kind words          the card
--   card_length p n kind         its bytes
--   write_number, write_output   the writer's answer: 1, 2, 12, 3, 4
--   is_wide ys                   a byte string starts with 16 zero bits, as wide cards do
--   card_prime, card_degree, card_kind, card_words   what a byte string says, read as a card
--   bad_header ys                11: "card under 3 bytes", or "A card under 6 bytes that begins with two zero bytes"
--   bad_layout ys                28: "a wide card with a p below 65,536"
--   fill_bits ys                 the zero bits after kind, and the bits behind the coefficients
--   read_number, read_prime, read_degree, read_kind, read_output   the reader's answer: 3, 11, 1, 28, 12, 11, 13, 4; refused, every other field is 0
use Rattle.std.specs.Prelude.{Bool, true, false, ◌||◌, ◌&&◌, not, List, [], ◌∷◌, ◌++◌, ℕ, zero, suc, ◌+◌, ◌-◌, ◌*◌, ◌/◌, ◌^◌, ltb, eqb, length, take, drop, replicate}
use Rattle.algebra.specs.Lists.{all, range, first}
use Rattle.refusal.specs.Refusal.{refuse, bad_prime, bad_degree, bad_length, bad_word, written}
use Rattle.card.specs.Bits.{bits, number, packed, unpacked}
use Rattle.card.specs.declared.layout.Layout.{Layout}

abbrev pub layout : Bool → Layout
layout true = record { before = 16; digits = 20; after = 4 }
layout false = record { before = 0; digits = 16; after = 0 }

abbrev pub header_bits : Layout → ℕ
header_bits l = l.before + l.digits + 8 + l.after

abbrev pub is_over : ℕ → Bool
is_over p = ltb 65535 p

unfoldable pub width : ℕ → ℕ
width p = first (λ w. ltb (p - 1) (2 ^ w)) 0 (range 0 21)

unfoldable pub bad_kind : ℕ → Bool
bad_kind kind = not (eqb kind 1 || eqb kind 2)

abbrev pub word_count : ℕ → ℕ → ℕ
word_count n kind = elim (eqb kind 1) [ true ↦ 2 * n | false ↦ elim (eqb kind 2) [ true ↦ 4 * n | false ↦ 0 ] ]

unfoldable pub all_bits : ℕ → List ℕ → List ℕ
all_bits w [] = []
all_bits w (a ∷ words) = bits w a ++ all_bits w words

-- the bits of the header, and those that follow
unfoldable pub header : Layout → ℕ → ℕ → ℕ → List ℕ → List ℕ
header l p n kind rest = replicate l.before 0 ++ (bits l.digits p ++ (bits 4 (n - 1) ++ (bits 4 kind ++ (replicate l.after 0 ++ rest))))

unfoldable pub card : ℕ → ℕ → ℕ → List ℕ → List ℕ
card p n kind words = packed (header (layout (is_over p)) p n kind (all_bits (width p) words))

unfoldable pub card_length : ℕ → ℕ → ℕ → ℕ
card_length p n kind = (header_bits (layout (is_over p)) + word_count n kind * width p + 7) / 8

unfoldable pub write_number : ℕ → ℕ → ℕ → List ℕ → List ℕ → ℕ
write_number p n kind words out =
    refuse 1 (bad_prime p)
    (refuse 2 (bad_degree n)
    (refuse 12 (bad_kind kind)
    (refuse 3 (bad_length (word_count n kind) (words ∷ []) || bad_length (card_length p n kind) (out ∷ []))
    (refuse 4 (bad_word p (words ∷ [])) 0))))

unfoldable pub write_output : ℕ → ℕ → ℕ → List ℕ → List ℕ → List ℕ
write_output p n kind words out = written (write_number p n kind words out) (card p n kind words) out

-- the number in the w bits from place i on
unfoldable pub field_at : List ℕ → ℕ → ℕ → ℕ
field_at bs i w = number (take w (drop i bs))

unfoldable pub is_wide : List ℕ → Bool
is_wide ys = eqb (field_at (unpacked ys) 0 16) 0

abbrev pub layout_at : List ℕ → Layout
layout_at ys = layout (is_wide ys)

unfoldable pub card_prime : List ℕ → ℕ
card_prime ys = field_at (unpacked ys) (layout_at ys).before (layout_at ys).digits

unfoldable pub card_degree : List ℕ → ℕ
card_degree ys = field_at (unpacked ys) ((layout_at ys).before + (layout_at ys).digits) 4 + 1

unfoldable pub card_kind : List ℕ → ℕ
card_kind ys = field_at (unpacked ys) ((layout_at ys).before + (layout_at ys).digits + 4) 4

-- k numbers of w bits each, from place i on
unfoldable pub fields_at : List ℕ → ℕ → ℕ → ℕ → List ℕ
fields_at bs i w zero = []
fields_at bs i w (suc k) = field_at bs i w ∷ fields_at bs (i + w) w k

unfoldable pub card_words : List ℕ → List ℕ
card_words ys = fields_at (unpacked ys) (header_bits (layout_at ys)) (width (card_prime ys)) (word_count (card_degree ys) (card_kind ys))

unfoldable pub bad_header : List ℕ → Bool
bad_header ys = ltb (length ys) 3 || (is_wide ys && ltb (length ys) 6)

unfoldable pub bad_layout : List ℕ → Bool
bad_layout ys = is_wide ys && ltb (card_prime ys) 65536

-- the zero bits after kind, and the bits from place `end` on
unfoldable pub fill_of : Layout → ℕ → List ℕ → List ℕ
fill_of l end bs = take l.after (drop (l.before + l.digits + 8) bs) ++ drop end bs

unfoldable pub fill_bits : List ℕ → List ℕ
fill_bits ys = fill_of (layout_at ys) (header_bits (layout_at ys) + word_count (card_degree ys) (card_kind ys) * width (card_prime ys)) (unpacked ys)

unfoldable pub read_number : List ℕ → List ℕ → ℕ
read_number ys out =
    refuse 3 (bad_length 64 (out ∷ []))
    (refuse 11 (bad_header ys)
    (refuse 1 (bad_prime (card_prime ys))
    (refuse 28 (bad_layout ys)
    (refuse 12 (bad_kind (card_kind ys))
    (refuse 11 (not (eqb (length ys) (card_length (card_prime ys) (card_degree ys) (card_kind ys))))
    (refuse 13 (not (all (λ b. eqb b 0) (fill_bits ys))) (refuse 4 (bad_word (card_prime ys) (card_words ys ∷ [])) 0)))))))

-- a field of the answer: 0 where the call is refused
abbrev pub unless_refused : ℕ → ℕ → ℕ
unless_refused zero value = value
unless_refused (suc k) value = 0

unfoldable pub read_prime : List ℕ → List ℕ → ℕ
read_prime ys out = unless_refused (read_number ys out) (card_prime ys)

unfoldable pub read_degree : List ℕ → List ℕ → ℕ
read_degree ys out = unless_refused (read_number ys out) (card_degree ys)

unfoldable pub read_kind : List ℕ → List ℕ → ℕ
read_kind ys out = unless_refused (read_number ys out) (card_kind ys)

unfoldable pub read_output : List ℕ → List ℕ → List ℕ
read_output ys out = written (read_number ys out) (card_words ys ++ replicate (64 - length (card_words ys)) 0) out
