-- What one read adds stands behind the bytes that were read before it.
use Rattle.std.proofs.Common.{◌≡◌, ℕ, ◌+◌, ◌≤◌, List, ◌++◌, arith, length, take, sym, ap, ◌∙◌, subst, length-take-le}
use Rattle.std.proofs.lemmas.List.{take-append-le}
use Rattle.std.proofs.Math.Seq.{take-append-add}
use Rattle.std.specs.Io.KnownBytes.{Consumes}
use Rattle.std.proofs.KnownBytes.{Consumes-trans}
use borrow.Rule.Slice.PartMut.{put_mid, post_of, same_len_mid}
use Rattle.program.proofs.program.read_card.Goals as goal

read_behind : (at k n : ℕ) (old new : List ℕ) → at ≤ length old → n ≤ length new → take at old ++ take n new ≡ take (at + n) (put_mid at k old new)
read_behind at k n old new h few =
    ap (λ l. take at old ++ l) (sym (take-append-le n new (post_of at k old) few))
    ∙ sym (take-append-add (take at old) (new ++ post_of at k old) n)
    ∙ ap (λ m. take (m + n) (put_mid at k old new)) (length-take-le at old h)

pub loop-at-preserved : goal.loop-at-preserved
loop-at-preserved g c =
    let within = c.in_ok-n.ensures.bound.0 in
    let whole = c.loop-at.invariant.0 in (
      same_len_mid _ _ _ _ c.read.auto.buf ∙ whole,
      omega (arith, within, c.read.auto.buf),
      subst (Consumes _ _) (read_behind c.loop-at.at _ c.in_ok-n.n c.loop-at.card c.read.new.buf (omega (arith, whole)) within)
          (Consumes-trans _ _ _ _ _ c.loop-at.invariant.2 c.in_ok-n.ensures.bytes.0),
    )
