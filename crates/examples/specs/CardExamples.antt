-- Wide cards (document 02, S-9), computed.
use Rattle.std.specs.Prelude.{◌≡◌, [], ◌∷◌, replicate}
use Rattle.card.specs.Card.{card, card_prime, card_degree, card_kind, card_words, read_number}

pub record CardExamples : Type 0 where
  -- the job p 65,537, n 1, T1 [1], T2 [2]: two zero bytes; 1 0001 in five hexadecimal digits, 0, 1 and 0 in one each; two words of 17 bits; 6 bits that fill
  pub job_card : card 65537 1 1 (1 ∷ 2 ∷ []) ≡ 0x00 ∷ 0x00 ∷ 0x10 ∷ 0x00 ∷ 0x10 ∷ 0x10 ∷ 0x00 ∷ 0x00 ∷ 0x80 ∷ 0x00 ∷ 0x80 ∷ []
  -- what it says
  pub job_prime : card_prime (0x00 ∷ 0x00 ∷ 0x10 ∷ 0x00 ∷ 0x10 ∷ 0x10 ∷ 0x00 ∷ 0x00 ∷ 0x80 ∷ 0x00 ∷ 0x80 ∷ []) ≡ 65537
  pub job_degree : card_degree (0x00 ∷ 0x00 ∷ 0x10 ∷ 0x00 ∷ 0x10 ∷ 0x10 ∷ 0x00 ∷ 0x00 ∷ 0x80 ∷ 0x00 ∷ 0x80 ∷ []) ≡ 1
  pub job_kind : card_kind (0x00 ∷ 0x00 ∷ 0x10 ∷ 0x00 ∷ 0x10 ∷ 0x10 ∷ 0x00 ∷ 0x00 ∷ 0x80 ∷ 0x00 ∷ 0x80 ∷ []) ≡ 1
  pub job_words : card_words (0x00 ∷ 0x00 ∷ 0x10 ∷ 0x00 ∷ 0x10 ∷ 0x10 ∷ 0x00 ∷ 0x00 ∷ 0x80 ∷ 0x00 ∷ 0x80 ∷ []) ≡ 1 ∷ 2 ∷ []
  -- wide headers with a p below 65,536: the prime 3 gives 28, and 4, which is not prime, 1
  pub small_prime : read_number (0x00 ∷ 0x00 ∷ 0x00 ∷ 0x00 ∷ 0x31 ∷ 0x10 ∷ []) (replicate 64 0) ≡ 28
  pub small_composite : read_number (0x00 ∷ 0x00 ∷ 0x00 ∷ 0x00 ∷ 0x41 ∷ 0x10 ∷ []) (replicate 64 0) ≡ 1
  -- under 6 bytes: 11
  pub three_bytes : read_number (0x00 ∷ 0x00 ∷ 0x03 ∷ []) (replicate 64 0) ≡ 11
  pub five_bytes : read_number (0x00 ∷ 0x00 ∷ 0x00 ∷ 0x00 ∷ 0x31 ∷ []) (replicate 64 0) ≡ 11
