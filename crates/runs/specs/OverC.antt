-- Sessions over C follow those of the library: what is proved of every list of calls from a new session holds over C.
--   next_value v c     the value after one call, as the call's contract says
--   run_values v cs    the value after a list of calls
--   ValuesFollow       for every list of calls, the value that they make of a new one is taken for the session that they make of a new session
use Rattle.std.specs.Prelude.{◌≡◌, List, [], ◌∷◌}
use Rattle.session.specs.Session.{new_session, load, propose, find, convert, begin, feed, end, report, clear}
use Rattle.runs.specs.Theorem.{Call, call_load, call_propose, call_find, call_convert, call_begin, call_feed, call_end, call_report, call_clear, run}
use Rattle.cvalue.specs.Values.{new_value, session_of, step_of, given_back}
use Rattle.cvalue.specs.declared.SessionValue.{SessionValue}

unfoldable pub next_value : SessionValue → Call → SessionValue
next_value v (call_load p n t1 t2) = (step_of v (load (session_of v) p n t1 t2)).session
next_value v (call_propose s r) = (step_of v (propose (session_of v) s r)).session
next_value v call_find = (step_of v (find (session_of v))).session
next_value v (call_convert d table out) = (step_of v (convert d (session_of v) table out)).session
next_value v (call_begin d) = (step_of v (begin d (session_of v))).session
next_value v (call_feed table out) = (step_of v (feed (session_of v) table out)).session
next_value v call_end = (step_of v (end (session_of v))).session
next_value v (call_report out) = (given_back v (report (session_of v) out)).session
next_value v call_clear = (step_of v (clear (session_of v))).session

unfoldable pub run_values : SessionValue → List Call → SessionValue
run_values v [] = v
run_values v (c ∷ cs) = run_values (next_value v c) cs

abbrev pub ValuesFollow : Type 0
ValuesFollow = (cs : List Call) → session_of (run_values new_value cs) ≡ run new_session cs
