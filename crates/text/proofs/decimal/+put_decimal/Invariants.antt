-- `decimal::put_decimal` writes the digits of the tenth, and the last digit behind them. The measure is k, of which a tenth is left.
use Rattle.text.proofs.decimal.+put_decimal.Given as goal

abbrev pub decreases-put_decimal : goal.decreases-put_decimal
decreases-put_decimal l = l.k
