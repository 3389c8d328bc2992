-- All that is promised: first the three demands (1: what every list of calls makes of a session; 2: what is accepted and converted; 3: the finder), then the requests.
-- Read this file first. Each promise is a statement of the crate that it belongs to,
-- for all p, n and lists; the file named beside it has the statement and explains its words. proofs/Promises.antt has one value of this
-- record, so that no promise is without a proof.
--
-- That no call goes wrong or runs without end is not a statement here: the prover asks it of every function of every crate. Likewise each
-- public call is proved equal to a definition: `check` to check_number, `find` to find_number, find_output_s and find_output_r, and so on. The
-- promises say what these definitions mean.
use Rattle.answer.specs.Theorem.{LongInput}
use Rattle.bymatrix.specs.Theorem.{MatrixColumns, MatrixIsSubstitution, EveryMatrix, MatricesAreInverse}
use Rattle.card.specs.Theorem.{WrittenReadsBack, ReadIsWritten, OneMeaning, LongestCard, NarrowAsBefore}
use Rattle.catalogue.specs.Theorem.{EveryModel, CountIsListed}
use Rattle.differences.specs.Theorem.{EachDifference, EachRestored, EveryTableComesBack}
use Rattle.runs.specs.OverC.{ValuesFollow}
use Rattle.finder.specs.Rounds.{RoundsDecide, OneTower}
use Rattle.finder.specs.Scalings.{ScalingsAreCounted}
use Rattle.finder.specs.Stored.{EveryScalingAccepted}
use Rattle.finder.specs.Theorem.{Demand3Theorem}
use Rattle.finder.specs.Triangle.{TriangleTheorem}
use Rattle.gauss.specs.Gauss.{GaussFormula}
use Rattle.isomorphisms.specs.Theorem.{EveryIsomorphism, EveryIsomorphismListed, PairExists, PreservingIsEnough}
use Rattle.modular.specs.Prime.{PrimeTestIsExact}
use Rattle.irreducible.specs.Irreducible.{IrreducibleTheorem}
use Rattle.irreducible.specs.Rabin.{RabinsCriterion}
use Rattle.maps.specs.Theorem.{MapsTheorem, MapsAreConjugates}
use Rattle.pair.specs.Theorem.{CheckerTheorem, CongruencesTheorem, DivisorsTogether, DegreeOne}
use Rattle.quotient.specs.DivisorTest.{DivisorTestIsExact}
use Rattle.quotient.specs.Theorem.{ResiduesAreARing, ModulusVanishes, ProductIsRemainder, SubstitutionIsSum, SubstitutionPreserves, ResiduesAreListed, FieldExactly, PowerOfUnit, IrreducibleDivisor, FrobeniusIsLinear}
use Rattle.pairing.specs.Theorem.{CountsAsHeld}
use Rattle.ledger.specs.Theorem.{AddedBehind, ReportDetermines}
use Rattle.runs.specs.OpenTable.{PartByPart, TableKeepsPair, EndCloses, ClearDrops, TotalsCount}
use Rattle.runs.specs.Theorem.{EveryRun, RefusalsChangeNothing, GroupByGroup, BackAgain, ConversionAddsRecord, OthersKeepLedger}
use Rattle.sheet.specs.Theorem.{SheetHasLength, SheetDetermines}
use Rattle.text.specs.Theorem.{DecimalIsDecimal, ColumnDetermines}
use Rattle.examples.specs.CardExamples.{CardExamples}
use Rattle.examples.specs.CatalogueExamples.{CatalogueExamples}
use Rattle.examples.specs.DifferencesExamples.{DifferencesExamples}
use Rattle.examples.specs.Examples.{Examples}
use Rattle.examples.specs.LedgerExamples.{LedgerExamples}
use Rattle.promises.specs.ListedModels.{ListedIsIrreducible, FinderTakesListed}
use Rattle.examples.specs.MapsExamples.{MapsExamples}
use Rattle.examples.specs.MatrixExamples.{MatrixExamples}
use Rattle.examples.specs.OpenTableExamples.{OpenTableExamples}
use Rattle.examples.specs.SheetExamples.{SheetExamples}
use Rattle.examples.specs.TowerExamples.{TowerExamples}

pub record Promises : Type 0 where
  -- Demand 1 (runs/specs/Theorem.antt, pairing/specs/Theorem.antt): every list of calls makes of a new session one that is new, loaded or paired with an accepted pair,
  -- with up to 512 records, and a table is open only over a pair and with room for its record; a refused call gives back the session and leaves the lent lists; what calls
  -- make counts as what it holds
  pub every_run : EveryRun
  pub refusals_change_nothing : RefusalsChangeNothing
  pub counts_as_held : CountsAsHeld
  -- Demand 2. Accepted (pair/specs/Theorem.antt): 0 exactly when 1 to 4 do not apply, neither modulus has a proper divisor and the four congruences hold. Found: demand 3 below.
  -- Converted (runs/specs/Theorem.antt): the k-th group of the output is the image of the k-th group of the input, for every k; and a table
  -- comes back
  pub accepted : CheckerTheorem
  pub degree_one : DegreeOne
  pub group_by_group : GroupByGroup
  pub back_again : BackAgain
  -- the words in which the congruences are said (modular/specs/Prime.antt, quotient/specs/Theorem.antt, DivisorTest.antt): primes, residues modulo T, the
  -- product, substitution, divisors
  pub prime_test_is_exact : PrimeTestIsExact
  pub residues_are_a_ring : ResiduesAreARing
  pub modulus_vanishes : ModulusVanishes
  pub product_is_remainder : ProductIsRemainder
  pub substitution_is_sum : SubstitutionIsSum
  pub substitution_preserves : SubstitutionPreserves
  pub residues_are_listed : ResiduesAreListed
  pub divisor_test_is_exact : DivisorTestIsExact
  -- Demand 3, whole (finder/specs/Theorem.antt)
  pub demand_3 : Demand3Theorem
  -- Round the triangle, request S-6 (finder/specs/Scalings.antt, Triangle.antt, Stored.antt): where n divides p − 1, a model without proper divisors has n scalings; where n divides p − 1 or is a
  -- power of p, for every three models without proper divisors the found map from the first to the second followed by
  -- that from the second to the third is the found map from the first to the third, forward and back; every other scaling's pair, so that of every stored card, is accepted too
  pub scalings_are_counted : ScalingsAreCounted
  pub triangle : TriangleTheorem
  pub every_scaling_accepted : EveryScalingAccepted
  -- Degrees that are powers of p, request S-7 (finder/specs/Rounds.antt): demand 3 and the triangle above hold for them too; besides, a modulus of degree n = p^k has no proper divisor exactly
  -- when k rounds of Algorithm 4.1 have their solutions, and these are determined; two towers and a refused square computed (examples/specs/TowerExamples.antt)
  pub rounds_decide : RoundsDecide
  pub one_tower : OneTower
  pub tower_examples : TowerExamples
  -- what makes it so (quotient/specs/Theorem.antt): fields of residues
  pub field_exactly : FieldExactly
  pub power_of_unit : PowerOfUnit
  pub irreducible_divisor : IrreducibleDivisor
  pub frobenius_is_linear : FrobeniusIsLinear
  -- Fields only, request S-3 (irreducible/specs/Rabin.antt, Irreducible.antt, pair/specs/Theorem.antt): Rabin's criterion; what the call for one modulus answers; the four
  -- congruences alone make inverse isomorphisms of rings, over any moduli; and then T1 and T2 have proper divisors together
  pub rabins_criterion : RabinsCriterion
  pub irreducible_modulus : IrreducibleTheorem
  pub congruences_suffice : CongruencesTheorem
  pub divisors_together : DivisorsTogether
  -- Cards, and wide cards, request S-9 (card/specs/Theorem.antt): what is written reads back, what is read is written so, no two cards mean the same, the longest has 166
  -- bytes, and up to 65,535 a card has the bytes that it had before the request; wide cards computed (examples/specs/CardExamples.antt)
  pub written_reads_back : WrittenReadsBack
  pub read_is_written : ReadIsWritten
  pub one_meaning : OneMeaning
  pub longest_card : LongestCard
  pub narrow_as_before : NarrowAsBefore
  pub card_examples : CardExamples
  -- Text (text/specs/Theorem.antt), and what the program prints (answer/specs/Theorem.antt)
  pub decimal_is_decimal : DecimalIsDecimal
  pub column_determines : ColumnDetermines
  pub long_input : LongInput
  -- The printed sheet, request S-1 (sheet/specs/Theorem.antt): its length, and that it determines the four lists; two sheets computed
  -- (examples/specs/SheetExamples.antt)
  pub sheet_has_length : SheetHasLength
  pub sheet_determines : SheetDetermines
  pub sheet_examples : SheetExamples
  -- The ledger of conversions, requests S-2 and S-8 (runs/specs/OpenTable.antt, Theorem.antt, ledger/specs/Theorem.antt): each total is the number of residues that the successful
  -- conversions and the feeds of ended tables of its direction had, for every list of calls; a conversion adds one record and changes nothing else; all calls but conversions and end
  -- keep the ledger; a record that is added stands behind the others; the report determines the records; reports computed (examples/specs/LedgerExamples.antt)
  pub totals_count : TotalsCount
  pub conversion_adds_record : ConversionAddsRecord
  pub others_keep_ledger : OthersKeepLedger
  pub added_behind : AddedBehind
  pub report_determines : ReportDetermines
  pub ledger_examples : LedgerExamples
  -- All the maps, request S-5 (maps/specs/Theorem.antt): from an accepted pair, the list of all S' with T1(S') = 0 modulo T2 has exactly n of them, in ascending order, each the S
  -- of an accepted pair, and no accepted pair has another S; they are the conjugates of its S; those of example A computed (examples/specs/MapsExamples.antt)
  pub every_map : MapsTheorem
  pub maps_are_conjugates : MapsAreConjugates
  pub maps_examples : MapsExamples
  -- The next pair while a table is running, request S-8 (runs/specs/OpenTable.antt): a feed writes the images of its part, group by group; for every list of calls from a new session, an open table keeps the pair it began with until end or clear;
  -- end closes it with one record of all its residues, and a paired waiting session becomes the current one; clear drops both; a table in two parts computed
  -- (examples/specs/OpenTableExamples.antt)
  pub part_by_part : PartByPart
  pub table_keeps_pair : TableKeepsPair
  pub end_closes : EndCloses
  pub clear_drops : ClearDrops
  pub open_table_examples : OpenTableExamples
  -- Conversion by matrix, request S-10 (bymatrix/specs/Theorem.antt): column j of the matrix is S^j; for every accepted pair and all lists, matrix and substitution give equal
  -- numbers and equal lists, forward and back; by any matrix the k-th group of the image is the matrix times the k-th group; the two matrices multiply to the identity
  -- both ways; those of A and B computed (examples/specs/MatrixExamples.antt)
  pub matrix_columns : MatrixColumns
  pub matrix_is_substitution : MatrixIsSubstitution
  pub every_matrix : EveryMatrix
  pub matrices_are_inverse : MatricesAreInverse
  pub matrix_examples : MatrixExamples
  -- Tables stored as differences, request S-11 (differences/specs/Theorem.antt): what each word of a stored table is, and of a restored one; every list of 32-bit words whose length
  -- is allowed comes back, restored from its differences and stored after it was restored; tables computed (examples/specs/DifferencesExamples.antt)
  pub each_difference : EachDifference
  pub each_restored : EachRestored
  pub every_table_comes_back : EveryTableComesBack
  pub differences_examples : DifferencesExamples
  -- Every model of a size, request S-12 (catalogue/specs/Theorem.antt, specs/ListedModels.antt): the list has every monic polynomial of degree n without a monic divisor of degree 1 to n − 1,
  -- in ascending order, none twice, and nothing else; the count is its length; what it has are the moduli that the call for one modulus takes, and the finder refuses none of them with 6
  -- or 7; models computed (examples/specs/CatalogueExamples.antt). For teaching (gauss/specs/Gauss.antt): Gauss's formula for their number
  pub every_model : EveryModel
  pub count_is_listed : CountIsListed
  pub listed_is_irreducible : ListedIsIrreducible
  pub finder_takes_listed : FinderTakesListed
  pub catalogue_examples : CatalogueExamples
  pub gauss_formula : GaussFormula
  -- Nothing outside the catalogue of pairs, request S-13 (isomorphisms/specs/Theorem.antt): between two models without proper divisors every one-to-one and onto map that preserves
  -- sums, products and one is the forward map of an accepted pair, and of one pair only; it is that of exactly one entry of the list of all maps, so there are exactly n; there always
  -- is an accepted pair; and, a remark, one-to-one and onto follow from the rest
  pub every_isomorphism : EveryIsomorphism
  pub every_isomorphism_listed : EveryIsomorphismListed
  pub pair_exists : PairExists
  pub preserving_is_enough : PreservingIsEnough
  -- Over C (runs/specs/OverC.antt): every list of calls makes of a new value one that is taken for the session that it makes of a new session
  pub values_follow : ValuesFollow
  -- Small fields by hand, A to I (examples/specs/Examples.antt)
  pub examples : Examples
