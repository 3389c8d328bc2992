-- `is_constant`: only zeros after the first word.
use Rattle.std.specs.Prelude.{IsTrue, ◌↔◌, ◌≡◌, slice_range}
use Rattle.std.specs.List.{All}
use Rattle.std.proofs.Common.{rules}
use Rattle.scalar.proofs.vector.VectorScan.{is_constant_holds}
use Rattle.scalar.proofs.vector.is_constant.Goals as goal

pub returns : goal.returns
returns c =
    let zeros : IsTrue c.all.result ↔ All (λ x. x ≡ 0) (slice_range c.args.u.now 1 c.args.n) = search rules in
    is_constant_holds _ _ _ _ c.requires.size.0 c.requires.size.1 c.requires.holds zeros
