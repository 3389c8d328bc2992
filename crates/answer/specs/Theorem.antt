-- What is proved of the program's text. The program reads at most 167 bytes, one more than the longest card has.
--   LongInput   what is printed for an input, however long, is what is printed for its first 167 bytes
use Rattle.std.specs.Prelude.{◌≡◌, List, ℕ, take}
use Rattle.answer.specs.Answer.{answer_text}

abbrev pub LongInput : Type 0
LongInput = (ys : List ℕ) → answer_text (take 167 ys) ≡ answer_text ys
