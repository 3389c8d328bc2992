-- What one write adds stands behind what was written before it.
use Rattle.std.proofs.Common.{rules, ◌≡◌, ℕ, ◌+◌, ◌-◌, List, ◌++◌, arith, length, take, drop, sym, ap, ◌∙◌, subst, take-add, take_all, length-drop}
use Rattle.std.specs.Io.KnownBytes.{Appends}
use Rattle.std.proofs.KnownBytes.{Appends-trans}
use Rattle.program.proofs.program.write_text.Goals as goal

write_behind : (at n : ℕ) (text : List ℕ) → take at text ++ take n (take (length text - at) (drop at text)) ≡ take (at + n) text
write_behind at n text =
    ap (λ l. take at text ++ take n l) (take_all (length text - at) (drop at text) (omega (arith, length-drop at text)))
    ∙ sym (take-add at n text)

pub loop-at-preserved : goal.loop-at-preserved
loop-at-preserved g c =
    (search rules, subst (Appends _ _) (write_behind c.loop-at.at c.in_ok-n.n c.args.text.now) (Appends-trans _ _ _ _ _ c.loop-at.invariant.1 c.in_ok-n.ensures.bytes))
