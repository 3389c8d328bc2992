-- What feed goes by; no call of a session is stated by it.
--   OverPair x   where a table of x is open, x holds a pair
use Rattle.std.specs.Prelude.{◌≡◌, true}
use Rattle.held.specs.Held.{view}
use Rattle.work.specs.Work.{is_paired, is_open}
use Rattle.work.specs.declared.Work.{Work}

pub record OverPair (x : Work) : Type 0 where
  pub has_pair : is_open x.table ≡ true → is_paired (view x.held) ≡ true
