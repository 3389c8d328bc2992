-- The ledger of conversions (document 02, S-2): "up to 512 records, each a direction and a 32-bit number of residues".
--   most_records       512
--   none               what stands where there is no record
--   new_ledger         no records
--   records_of l       the records that count, the first l .count of the array
--   added l x          l with the record x behind those that count
--   residues_in d x    the residues of the record x where its direction is d, else 0
--   total d xs         "each total is the number of residues" of the records of its direction
--   letter d           "`F` or `B`"
--   number k           "a decimal number and a newline"
--   line x             a record, "as `F` or `B`, a blank, the decimal number and a newline"
--   lines xs           "the records in order"
--   report xs          the lines, "then the forward and the back total, each a decimal number and a newline"
use Rattle.std.specs.Prelude.{List, [], ◌∷◌, ◌++◌, ℕ, ◌+◌, take, set, replicate}
use Rattle.text.specs.Ascii.{ascii}
use Rattle.text.specs.Digits.{decimal}
use Rattle.ledger.specs.declared.Direction.{Direction}
use Rattle.ledger.specs.declared.Direction.TheVariants.{Forward, Back}
use Rattle.ledger.specs.declared.Record.{Record}
use Rattle.ledger.specs.declared.Ledger.{Ledger}

abbrev pub most_records : ℕ
most_records = 512

abbrev pub none : Record
none = record { direction = Forward; residues = 0 }

abbrev pub new_ledger : Ledger
new_ledger = record { count = 0; records = replicate most_records none }

abbrev pub records_of : Ledger → List Record
records_of l = take l.count l.records

abbrev pub added : Ledger → Record → Ledger
added l x = record { count = l.count + 1; records = set l.records l.count x }

abbrev pub residues_as : Direction → Direction → ℕ → ℕ
residues_as Forward Forward k = k
residues_as Forward Back k = 0
residues_as Back Forward k = 0
residues_as Back Back k = k

abbrev pub residues_in : Direction → Record → ℕ
residues_in d x = residues_as d x.direction x.residues

unfoldable pub total : Direction → List Record → ℕ
total d [] = 0
total d (x ∷ xs) = residues_in d x + total d xs

unfoldable pub letter : Direction → List ℕ
letter Forward = ascii "F"
letter Back = ascii "B"

unfoldable pub number : ℕ → List ℕ
number k = decimal k ++ ascii "\n"

unfoldable pub line : Record → List ℕ
line x = letter x.direction ++ (ascii " " ++ number x.residues)

unfoldable pub lines : List Record → List ℕ
lines [] = []
lines (x ∷ xs) = line x ++ lines xs

unfoldable pub report : List Record → List ℕ
report xs = lines xs ++ (number (total Forward xs) ++ number (total Back xs))
