-- Every promise with its proof.
use Rattle.answer.proofs.LongInput as Answer
use Rattle.bymatrix.proofs.Theorem as ByMatrix
use Rattle.card.proofs.Theorem as Card
use Rattle.catalogue.proofs.Theorem as Catalogue
use Rattle.differences.proofs.Theorem as Differences
use Rattle.runs.proofs.OverC as Values
use Rattle.finder.proofs.Theorem as Finder
use Rattle.finder.proofs.Rounds as Rounds
use Rattle.finder.proofs.Triangle as Triangle
use Rattle.gauss.proofs.Theorem as Gauss
use Rattle.irreducible.proofs.Theorem as Irreducible
use Rattle.isomorphisms.proofs.Theorem as Isomorphisms
use Rattle.ledger.proofs.Theorem as Ledger
use Rattle.maps.proofs.Theorem as Maps
use Rattle.modular.proofs.IsPrime as Modular
use Rattle.pair.proofs.Theorem as Pair
use Rattle.pairing.proofs.Theorem as Pairing
use Rattle.quotient.proofs.Theorem as Quotient
use Rattle.runs.proofs.OpenTable as OpenTable
use Rattle.runs.proofs.Theorem as Session
use Rattle.runs.proofs.Totals as Totals
use Rattle.sheet.proofs.Theorem as Sheet
use Rattle.text.proofs.Theorem as Text
use Rattle.text.proofs.ColumnDetermines as Columns
use Rattle.promises.specs.Promises.{Promises}
use Rattle.examples.proofs.CardExamples as CardExamples
use Rattle.examples.proofs.CatalogueExamples as CatalogueExamples
use Rattle.examples.proofs.DifferencesExamples as DifferencesExamples
use Rattle.examples.proofs.Examples as Examples
use Rattle.examples.proofs.LedgerExamples as LedgerExamples
use Rattle.promises.proofs.ListedModels as ListedModels
use Rattle.examples.proofs.MapsExamples as MapsExamples
use Rattle.examples.proofs.MatrixExamples as MatrixExamples
use Rattle.examples.proofs.OpenTableExamples as OpenTableExamples
use Rattle.examples.proofs.TowerExamples as TowerExamples
use Rattle.examples.proofs.SheetExamples as SheetExamples

pub promises : Promises
promises =
    record {
      every_run = Session.every_run;
      refusals_change_nothing = Session.refusals_change_nothing;
      counts_as_held = Pairing.counts_as_held;
      accepted = Pair.checker_theorem;
      degree_one = Pair.degree_one;
      group_by_group = Session.group_by_group;
      back_again = Session.back_again;
      prime_test_is_exact = Modular.prime_test_is_exact;
      residues_are_a_ring = Quotient.residues_are_a_ring;
      modulus_vanishes = Quotient.modulus_vanishes;
      product_is_remainder = Quotient.product_is_remainder;
      substitution_is_sum = Quotient.substitution_is_sum;
      substitution_preserves = Quotient.substitution_preserves;
      residues_are_listed = Quotient.residues_are_listed;
      divisor_test_is_exact = Quotient.divisor_test_is_exact;
      demand_3 = Finder.demand_3;
      scalings_are_counted = Triangle.scalings_counted;
      triangle = Triangle.triangle_theorem;
      every_scaling_accepted = Finder.every_scaling_accepted;
      rounds_decide = Rounds.rounds_decide;
      one_tower = Rounds.one_tower;
      tower_examples = TowerExamples.tower_examples;
      field_exactly = Quotient.field_exactly;
      power_of_unit = Quotient.power_of_unit;
      irreducible_divisor = Quotient.irreducible_divisor;
      frobenius_is_linear = Quotient.frobenius_is_linear;
      rabins_criterion = Irreducible.rabins_criterion;
      irreducible_modulus = Irreducible.irreducible_theorem;
      congruences_suffice = Pair.congruences_theorem;
      divisors_together = Pair.divisors_together;
      written_reads_back = Card.written_reads_back;
      read_is_written = Card.read_is_written;
      one_meaning = Card.one_meaning;
      longest_card = Card.longest_card;
      narrow_as_before = Card.narrow_as_before;
      card_examples = CardExamples.card_examples;
      decimal_is_decimal = Text.decimal_is_decimal;
      column_determines = Columns.column_determines;
      long_input = Answer.long_input;
      sheet_has_length = Sheet.sheet_has_length;
      sheet_determines = Sheet.sheet_determines;
      sheet_examples = SheetExamples.sheet_examples;
      totals_count = Totals.totals_count;
      conversion_adds_record = Session.conversion_adds_record;
      others_keep_ledger = Session.others_keep_ledger;
      added_behind = Ledger.added_behind;
      report_determines = Ledger.report_determines;
      ledger_examples = LedgerExamples.ledger_examples;
      every_map = Maps.maps_theorem;
      maps_are_conjugates = Maps.maps_are_conjugates;
      maps_examples = MapsExamples.maps_examples;
      part_by_part = OpenTable.part_by_part;
      table_keeps_pair = OpenTable.table_keeps_pair;
      end_closes = OpenTable.end_closes;
      clear_drops = OpenTable.clear_drops;
      open_table_examples = OpenTableExamples.open_table_examples;
      matrix_columns = ByMatrix.matrix_columns;
      matrix_is_substitution = ByMatrix.matrix_is_substitution;
      every_matrix = ByMatrix.every_matrix;
      matrices_are_inverse = ByMatrix.matrices_are_inverse;
      matrix_examples = MatrixExamples.matrix_examples;
      each_difference = Differences.each_difference;
      each_restored = Differences.each_restored;
      every_table_comes_back = Differences.every_table_comes_back;
      differences_examples = DifferencesExamples.differences_examples;
      every_model = Catalogue.every_model;
      count_is_listed = Catalogue.count_is_listed;
      listed_is_irreducible = ListedModels.listed_is_irreducible;
      finder_takes_listed = ListedModels.finder_takes_listed;
      catalogue_examples = CatalogueExamples.catalogue_examples;
      gauss_formula = Gauss.gauss_formula;
      every_isomorphism = Isomorphisms.every_isomorphism;
      every_isomorphism_listed = Isomorphisms.every_isomorphism_listed;
      pair_exists = Isomorphisms.pair_exists;
      preserving_is_enough = Isomorphisms.preserving_is_enough;
      values_follow = Values.values_follow;
      examples = Examples.examples;
    }
