-- The examples for degrees 2 and 4 modulo 2, from the tests of their values.
use mathlib.Core.Path.{refl}
use mathlib.Core.List.{[], ◌∷◌}
use lib.Dec.{lit<, lit≤}
use Rattle.algebra.specs.Lists.{all, first, range}
use Rattle.array.specs.Words.{all_below}
use Rattle.modular.specs.Prime.{is_prime}
use Rattle.quotient.specs.Residue.{sum, scale, constant, shift, top, times_x, product, power, residue_of_x, substitute}
use Rattle.quotient.specs.Divisor.{monic, polynomial_product}
use Rattle.refusal.specs.Refusal.{bad_prime, is_degree, bad_degree, bad_length, bad_word}
use Rattle.galois.specs.Tower.{exponent, raised}
use Rattle.finder.specs.Finder.{divides, findable}
use Rattle.examples.specs.TowerExamples.{TowerExamples}
use Rattle.examples.proofs.ListedTower.{solution, tower_found}
use Rattle.examples.proofs.Refused.{models, words_counted, factor_divides, divisor_refused}

pub tower_examples : TowerExamples
unfolding is_prime bad_prime is_degree bad_degree bad_length bad_word all_below all first range exponent divides findable constant sum scale shift top times_x product power raised residue_of_x substitute
    monic polynomial_product
tower_examples =
    record {
      two = tower_found (models refl refl (words_counted 2 (1 ∷ 1 ∷ []) refl) (words_counted 2 (1 ∷ 1 ∷ []) refl)) refl
          (1 ∷ 0 ∷ [], 1 ∷ 0 ∷ [], (refl, refl), refl, solution (0 ∷ 1 ∷ []) refl refl refl refl) (1 ∷ 0 ∷ [], 1 ∷ 0 ∷ [], (refl, refl), refl, solution (0 ∷ 1 ∷ []) refl refl refl refl)
          record { p1 = 0 ∷ 1 ∷ []; p1_is = (words_counted 2 (0 ∷ 1 ∷ []) refl, refl); s_is = refl; r_is = (words_counted 2 (0 ∷ 1 ∷ []) refl, refl) };
      four = tower_found (models refl refl (words_counted 2 (1 ∷ 1 ∷ 0 ∷ 0 ∷ []) refl) (words_counted 2 (1 ∷ 0 ∷ 0 ∷ 1 ∷ []) refl)) refl (
        1 ∷ 0 ∷ 0 ∷ 0 ∷ [],
        0 ∷ 1 ∷ 1 ∷ 0 ∷ [],
        (1 ∷ 0 ∷ 0 ∷ 0 ∷ [], 1 ∷ 0 ∷ 0 ∷ 0 ∷ [], (refl, refl), refl, solution (0 ∷ 1 ∷ 1 ∷ 0 ∷ []) refl refl refl refl),
        refl,
        solution (0 ∷ 1 ∷ 0 ∷ 0 ∷ []) refl refl refl refl,
      ) (
        1 ∷ 0 ∷ 0 ∷ 0 ∷ [],
        0 ∷ 1 ∷ 0 ∷ 1 ∷ [],
        (1 ∷ 0 ∷ 0 ∷ 0 ∷ [], 1 ∷ 0 ∷ 0 ∷ 0 ∷ [], (refl, refl), refl, solution (0 ∷ 1 ∷ 0 ∷ 1 ∷ []) refl refl refl refl),
        refl,
        solution (0 ∷ 0 ∷ 1 ∷ 1 ∷ []) refl refl refl refl,
      )
          record { p1 = 0 ∷ 1 ∷ 0 ∷ 0 ∷ []; p1_is = (words_counted 2 (0 ∷ 1 ∷ 0 ∷ 0 ∷ []) refl, refl); s_is = refl; r_is = (words_counted 2 (1 ∷ 0 ∷ 0 ∷ 1 ∷ []) refl, refl) };
      square = λ t2 lent_s lent_r w2 length_s length_r.
          divisor_refused refl refl (words_counted 2 (0 ∷ 0 ∷ []) refl) w2 lent_s lent_r length_s length_r refl
          (factor_divides 2 (0 ∷ []) (0 ∷ 1 ∷ []) (0 ∷ 0 ∷ []) (lit≤ tt) refl refl (lit< tt) (lit< tt) refl);
    }
