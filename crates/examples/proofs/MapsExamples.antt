-- The maps of example A, computed.
use mathlib.Core.Path.{refl}
use mathlib.Core.List.{flatten}
use borrow.Author.Tests.{eq-eqb, ne_eqb}
use lib.ListN.{length}
use Rattle.algebra.specs.Lists.{all, equal, first, range, filter}
use Rattle.modular.specs.Prime.{is_prime}
use Rattle.array.specs.Words.{all_below}
use Rattle.refusal.specs.Refusal.{bad_prime, is_degree, bad_degree, bad_length, bad_word}
use Rattle.pair.specs.Pair.{congruences_hold, check_number_or}
use Rattle.quotient.specs.DivisorTest.{divides_test, has_divisor}
use Rattle.quotient.specs.Residue.{residues, prefixed, sum, scale, constant, shift, top, times_x, product, power, residue_of_x, substitute, modulus_at}
use Rattle.maps.specs.Maps.{maps, maps_number, maps_output}
use Rattle.examples.specs.MapsExamples.{MapsExamples}

pub maps_examples : MapsExamples
unfolding has_divisor divides_test residues prefixed all equal first range filter flatten is_prime all_below bad_prime is_degree bad_degree bad_length bad_word congruences_hold check_number_or sum scale constant shift top times_x product power residue_of_x substitute modulus_at
    maps maps_number maps_output
maps_examples =
    record { a_maps = refl; a_output = λ out e. rw (eq-eqb (length out) 4 e); a_refused = λ out e. rw (ne_eqb (length out) 4 e) }
