-- The models of some sizes, computed.
use mathlib.Core.Path.{refl}
use mathlib.Core.List.{flatten}
use borrow.Author.Tests.{eq-eqb}
use lib.ListN.{length}
use Rattle.algebra.specs.Lists.{all, first, range, filter}
use Rattle.modular.specs.Prime.{is_prime}
use Rattle.refusal.specs.Refusal.{bad_prime, is_degree, bad_degree}
use Rattle.quotient.specs.DivisorTest.{divides_test, has_divisor}
use Rattle.quotient.specs.Residue.{residues, prefixed, sum, scale, constant, shift, top, times_x, product, power, residue_of_x, substitute, modulus_at}
use Rattle.catalogue.specs.Catalogue.{models, count_number, model_count, list_number, list_output}
use Rattle.examples.specs.CatalogueExamples.{CatalogueExamples}

pub catalogue_examples : CatalogueExamples
unfolding has_divisor divides_test residues prefixed all first range filter flatten is_prime bad_prime is_degree bad_degree sum scale constant shift top times_x product power residue_of_x substitute modulus_at
    models count_number model_count list_number list_output
catalogue_examples =
    record {
      two_three = λ out e. rw (eq-eqb (length out) 6 e);
      three_two = λ out e. rw (eq-eqb (length out) 6 e);
      three_one = λ out e. rw (eq-eqb (length out) 3 e);
      counted = refl;
      most_taken = refl;
      next_prime = refl;
      prime_first = refl;
      degree_next = refl;
      size_next = refl;
      length_last = refl;
    }
