-- What the program `fieldcard` prints for a byte string (document 01, "Field cards"), as ASCII codes. The digits are those of the crate text.
--   part n words k               the k-th list of n words: T1, T2, S, R
--   card_part ys k               that list on a card
--   pair_text ys                 `PAIR `, the bytes of a pair card in hexadecimal, and a newline
--   valid_text                   `VALID` and a newline
--   ring_text                    `RING` and a newline
--   refused_text k               `REFUSED `, the decimal number, newline
--   printed number text          the refusal with this number, or the text where the number is 0
--   pair_words p n t1 t2         what the pair card of a job carries: T1, T2 and the finder's S and R
--   job_text p n t1 t2           a job: "the program then goes on with 5, 6, 7"; where none applies, the pair card
--   pair_line number hold        a pair: `VALID` where the number is 0; else "`RING` and a newline for one whose four congruences hold" (request S-3), and for every other
--                                the refusal
--   pair_card_text p t1 t2 s r   a pair card: it goes on with 6, 7, 8
--   card_text ys                 by the card's kind: 1 is a job
--   answer_text ys               what is printed: the reader's refusal, or what the card that it takes prints
use Rattle.std.specs.Prelude.{Bool, true, false, List, [], ◌∷◌, ◌++◌, ℕ, zero, suc, ◌*◌, eqb, take, drop, replicate}
use Rattle.text.specs.Digits.{decimal, hexadecimal}
use Rattle.card.specs.Card.{card, card_prime, card_degree, card_kind, card_words, read_number}
use Rattle.finder.specs.Finder.{find_s, find_r, refuse_find}
use Rattle.pair.specs.Pair.{congruences_hold, refuse_pair}

unfoldable pub part : ℕ → List ℕ → ℕ → List ℕ
part n words k = take n (drop (k * n) words)

unfoldable pub card_part : List ℕ → ℕ → List ℕ
card_part ys k = part (card_degree ys) (card_words ys) k

unfoldable pub pair_text : List ℕ → List ℕ
pair_text ys = 80 ∷ 65 ∷ 73 ∷ 82 ∷ 32 ∷ (hexadecimal ys ++ (10 ∷ []))

unfoldable pub valid_text : List ℕ
valid_text = 86 ∷ 65 ∷ 76 ∷ 73 ∷ 68 ∷ 10 ∷ []

unfoldable pub ring_text : List ℕ
ring_text = 82 ∷ 73 ∷ 78 ∷ 71 ∷ 10 ∷ []

unfoldable pub refused_text : ℕ → List ℕ
refused_text k = 82 ∷ 69 ∷ 70 ∷ 85 ∷ 83 ∷ 69 ∷ 68 ∷ 32 ∷ (decimal k ++ (10 ∷ []))

unfoldable pub printed : ℕ → List ℕ → List ℕ
printed number text = elim number [ zero ↦ text | suc k ↦ refused_text (suc k) ]

unfoldable pub pair_words : ℕ → ℕ → List ℕ → List ℕ → List ℕ
pair_words p n t1 t2 = t1 ++ (t2 ++ (find_s p n t1 t2 ++ find_r p n t1 t2))

unfoldable pub job_text : ℕ → ℕ → List ℕ → List ℕ → List ℕ
job_text p n t1 t2 = printed (refuse_find p n t1 t2) (pair_text (card p n 2 (pair_words p n t1 t2)))

unfoldable pub pair_line : ℕ → Bool → List ℕ
pair_line zero hold = valid_text
pair_line (suc k) true = ring_text
pair_line (suc k) false = refused_text (suc k)

unfoldable pub pair_card_text : ℕ → List ℕ → List ℕ → List ℕ → List ℕ → List ℕ
pair_card_text p t1 t2 s r = pair_line (refuse_pair p t1 t2 s r) (congruences_hold p t1 t2 s r)

unfoldable pub card_text : List ℕ → List ℕ
card_text ys =
    elim (eqb (card_kind ys) 1) [
      | true ↦ job_text (card_prime ys) (card_degree ys) (card_part ys 0) (card_part ys 1)
      | false ↦ pair_card_text (card_prime ys) (card_part ys 0) (card_part ys 1) (card_part ys 2) (card_part ys 3)
    ]

unfoldable pub answer_text : List ℕ → List ℕ
answer_text ys = printed (read_number ys (replicate 64 0)) (card_text ys)
