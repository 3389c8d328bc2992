-- The matrices of the pairs A and B, computed.
use mathlib.Core.Path.{refl}
use borrow.Author.Tests.{eq-eqb}
use lib.ListN.{length}
use Rattle.algebra.specs.Lists.{all, equal, range}
use Rattle.modular.specs.Prime.{is_prime}
use Rattle.array.specs.Words.{all_below}
use Rattle.refusal.specs.Refusal.{bad_prime, is_degree, bad_degree, bad_length, bad_word}
use Rattle.pair.specs.Pair.{congruences_hold, check_number_or}
use Rattle.quotient.specs.DivisorTest.{divides_test, has_divisor}
use Rattle.quotient.specs.Residue.{residues, prefixed, sum, scale, constant, shift, top, times_x, product, power, residue_of_x, substitute, modulus_at}
use Rattle.matrix.specs.Matrix.{multiple, dot}
use Rattle.table.specs.Table.{each_group}
use Rattle.bymatrix.specs.ByMatrix.{word, square, matrix_of, matrices_number, forward_output, back_output, matrix_times, by_matrix, by_matrix_number, by_matrix_output}
use Rattle.examples.specs.MatrixExamples.{MatrixExamples}

pub matrix_examples : MatrixExamples
unfolding has_divisor divides_test residues prefixed all equal range is_prime all_below bad_prime is_degree bad_degree bad_length bad_word congruences_hold check_number_or sum scale constant shift top times_x product power residue_of_x substitute modulus_at
    multiple dot each_group word square matrix_of matrices_number forward_output back_output matrix_times by_matrix by_matrix_number by_matrix_output
matrix_examples =
    record {
      a_forward = refl;
      a_back = refl;
      a_multiplication = refl;
      b_forward = λ forward back e f. rw (eq-eqb (length forward) 4 e, eq-eqb (length back) 4 f);
      b_back = λ forward back e f. rw (eq-eqb (length forward) 4 e, eq-eqb (length back) 4 f);
      c_by_matrix = λ out e. rw (eq-eqb (length out) 2 e);
      word_refused = refl;
      length_first = refl;
    }
