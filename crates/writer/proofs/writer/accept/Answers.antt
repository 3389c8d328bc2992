-- `writer::accept`: one law for each return.
use mathlib.Core.Bool.{not}
use Rattle.std.proofs.Common.{rules, ap}
use Rattle.std.proofs.lemmas.Result.{err_from_is_err_and}
use Rattle.writer.proofs.writer.WriteFaults.{prime_most, degree_most, write_prime, write_degree, write_kind, write_count, write_size, write_word, write_none}
use Rattle.writer.proofs.writer.accept.Goals as goal

pub returns-then-not-is_prime : goal.returns-then-not-is_prime
returns-then-not-is_prime c = search write_prime

pub returns-then-not-is_degree : goal.returns-then-not-is_degree
returns-then-not-is_degree c = search write_degree

pub returns-in_err-try_from : goal.returns-in_err-try_from
returns-in_err-try_from c =
    let p = err_from_is_err_and c.from_residual.result c.from_residual.ensures.1 in
    rw (p.1, p.2)
    (write_kind _ _ _ _ _ _ c.is_prime.ensures c.if-not-is_prime.false _ c.is_degree.ensures c.if-not-is_degree.false _
    c.in_err-try_from.ensures.0 c.in_err-try_from.ensures.1 c.in_err-try_from.ensures.2)

pub word_count-count-requires : goal.word_count-count-requires
word_count-count-requires c = degree_most _ _ c.is_degree.ensures c.if-not-is_degree.false

pub returns-then-words-count : goal.returns-then-words-count
returns-then-words-count c =
    write_count _ _ _ _ _ _ c.is_prime.ensures c.if-not-is_prime.false _ c.is_degree.ensures c.if-not-is_degree.false _ c.in_ok-try_from.ensures _ c.word_count-count.ensures.0
    c.if-words-count.true

pub byte_count-requires : goal.byte_count-requires
byte_count-requires c = (search prime_most, search rules)

pub returns-then-out-byte_count : goal.returns-then-out-byte_count
returns-then-out-byte_count c =
    write_size _ _ _ _ _ _ c.is_prime.ensures c.if-not-is_prime.false _ c.is_degree.ensures c.if-not-is_degree.false _ c.in_ok-try_from.ensures _ c.word_count-count.ensures.0
    c.if-words-count.false _ c.byte_count.ensures.0 c.if-out-byte_count.true

pub returns-then-not-below : goal.returns-then-not-below
returns-then-not-below c =
    write_word _ _ _ _ _ _ c.is_prime.ensures c.if-not-is_prime.false _ c.is_degree.ensures c.if-not-is_degree.false _ c.in_ok-try_from.ensures _ c.word_count-count.ensures.0
    c.if-words-count.false _ c.byte_count.ensures.0 c.if-out-byte_count.false _ c.below.ensures (ap not c.if-not-below.true)

pub returns : goal.returns
returns c =
    write_none _ _ _ _ _ _ c.is_prime.ensures c.if-not-is_prime.false _ c.is_degree.ensures c.if-not-is_degree.false _ c.in_ok-try_from.ensures _ c.word_count-count.ensures.0
    c.if-words-count.false _ c.byte_count.ensures.0 c.if-out-byte_count.false _ c.below.ensures c.if-not-below.false
