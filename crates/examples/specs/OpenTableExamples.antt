-- A table in two parts (document 02, S-8), computed, with the pair of example A; meanwhile the pair of example B, for the same models, is prepared.
use Rattle.std.specs.Prelude.{◌≡◌, [], ◌∷◌}
use Rattle.text.specs.Ascii.{ascii}
use Rattle.ledger.specs.declared.Direction.TheVariants.{Forward, Back}
use Rattle.session.specs.Session.{convert, convert_output, begin, feed, feed_output, end, report_text, clear}
use Rattle.runs.specs.Theorem.{call_load, call_propose, call_begin, call_feed, call_end, run}
use Rattle.session.specs.declared.Session.{Session}
use Rattle.examples.specs.Examples.{pair_of_a}

-- a table forward, to which 1 + X was fed
abbrev pub begun : Session
begun = run pair_of_a (call_begin Forward ∷ call_feed (1 ∷ 1 ∷ []) (0 ∷ 0 ∷ []) ∷ [])

-- the models are loaded, and B's pair is proposed
abbrev pub prepared : Session
prepared = run begun (call_load 3 2 (1 ∷ 0 ∷ []) (2 ∷ 1 ∷ []) ∷ call_propose (2 ∷ 1 ∷ []) (1 ∷ 1 ∷ []) ∷ [])

-- 2X is fed, and the table is ended
abbrev pub ended : Session
ended = run prepared (call_feed (0 ∷ 2 ∷ []) (0 ∷ 0 ∷ []) ∷ call_end ∷ [])

pub record OpenTableExamples : Type 0 where
  pub first_part : feed_output (begin Forward pair_of_a).session (1 ∷ 1 ∷ []) (0 ∷ 0 ∷ []) ≡ 2 ∷ 2 ∷ []
  -- the second part is converted by the pair with which the table began: 2X becomes 2(1 + 2X) = 2 + X, and not 2(2 + X) = 1 + 2X
  pub second_part : feed_output prepared (0 ∷ 2 ∷ []) (0 ∷ 0 ∷ []) ≡ 2 ∷ 1 ∷ []
  pub report_meanwhile : report_text prepared ≡ ascii "0\n0\n"
  pub report_after : report_text ended ≡ ascii "F 2\n2\n0\n"
  -- then B's pair is the current one
  pub next_pair : convert_output Forward ended (0 ∷ 2 ∷ []) (0 ∷ 0 ∷ []) ≡ 1 ∷ 2 ∷ []
  pub dropped : report_text (clear prepared).session ≡ ascii "0\n0\n"
  pub no_second_table : (begin Back prepared).number ≡ 27
  pub no_conversion : (convert Back prepared [] []).number ≡ 27
  pub no_feed : (feed pair_of_a [] []).number ≡ 26
  pub no_end : (end ended).number ≡ 26
