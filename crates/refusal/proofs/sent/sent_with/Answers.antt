use Rattle.std.proofs.Common.{sym, ◌∙◌}
use Rattle.refusal.proofs.Tests.{lengths_tested, words_tested, by_prime, by_degree, by_lengths, by_words, by_none}
use Rattle.refusal.proofs.sent.sent_with.Goals as goal

pub returns-then-not-is_prime : goal.returns-then-not-is_prime
returns-then-not-is_prime c = by_prime _ _ _ _ _ (sym c.is_prime.ensures ∙ c.if-not-is_prime.true)

pub returns-then-not-is_degree : goal.returns-then-not-is_degree
returns-then-not-is_degree c =
    by_degree _ _ _ _ _ (sym c.is_prime.ensures ∙ c.if-not-is_prime.false) (sym c.is_degree.ensures ∙ c.if-not-is_degree.true)

pub returns-then-not-have_length : goal.returns-then-not-have_length
returns-then-not-have_length c =
    by_lengths _ _ _ _ _ (sym c.is_prime.ensures ∙ c.if-not-is_prime.false) (sym c.is_degree.ensures ∙ c.if-not-is_degree.false)
    (rw (lengths_tested _ _ _ _ c.have_length.ensures, c.if-not-have_length.true))

pub returns-then-not-have_words : goal.returns-then-not-have_words
returns-then-not-have_words c =
    by_words _ _ _ _ _ (sym c.is_prime.ensures ∙ c.if-not-is_prime.false) (sym c.is_degree.ensures ∙ c.if-not-is_degree.false)
    (rw (lengths_tested _ _ _ _ c.have_length.ensures, c.if-not-have_length.false)) (rw (words_tested _ _ _ c.have_words.ensures, c.if-not-have_words.true))

pub returns : goal.returns
returns c =
    by_none _ _ _ _ _ (sym c.is_prime.ensures ∙ c.if-not-is_prime.false) (sym c.is_degree.ensures ∙ c.if-not-is_degree.false)
    (rw (lengths_tested _ _ _ _ c.have_length.ensures, c.if-not-have_length.false)) (rw (words_tested _ _ _ c.have_words.ensures, c.if-not-have_words.false))
