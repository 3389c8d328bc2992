-- Tables as differences, and back, computed.
use mathlib.Core.Path.{refl}
use borrow.Author.Tests.{eq-eqb}
use lib.ListN.{length}
use Rattle.algebra.specs.Lists.{range}
use Rattle.refusal.specs.Refusal.{is_degree, bad_degree}
use Rattle.differences.specs.Differences.{minus, differences, sum_of, restored, differences_number, differences_output, restore_output}
use Rattle.examples.specs.DifferencesExamples.{DifferencesExamples}

pub differences_examples : DifferencesExamples
unfolding range is_degree bad_degree minus differences sum_of restored differences_number differences_output restore_output
differences_examples =
    record {
      stored = λ out e. rw (eq-eqb (length out) 6 e);
      restored = λ out e. rw (eq-eqb (length out) 6 e);
      original_subtracted = λ out e. rw (eq-eqb (length out) 3 e);
      empty_taken = refl;
      degree_first = refl;
      length_next = refl;
      output_last = refl;
    }
