-- `decimal::decimal_length` counts the digits of the tenth, and the last digit. The measure is k, of which a tenth is left.
use Rattle.text.proofs.decimal.+decimal_length.Given as goal

abbrev pub decreases-decimal_length : goal.decreases-decimal_length
decreases-decimal_length l = l.k
