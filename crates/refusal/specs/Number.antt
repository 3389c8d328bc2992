-- The number of each refusal (document 01, "Caused by what was sent" and "Caused by where the session is"; document 02 adds 25 to 29), and of a call's answer.
--   number e       the number of the refusal e
--   number_of r    0 where a call succeeds, else the number of its refusal: "A call that succeeds has number 0"
use Rattle.std.specs.Prelude.{ℕ, Result, Ok, Err}
use Rattle.refusal.specs.declared.number.Refusal.{Refusal}
use Rattle.refusal.specs.declared.number.Refusal.TheVariants as R

abbrev pub number : Refusal → ℕ
number R.Prime = 1
number R.Degree = 2
number R.Length = 3
number R.Word = 4
number R.Method = 5
number R.FirstModulus = 6
number R.SecondModulus = 7
number R.Congruence = 8
number R.TableLength = 9
number R.OutputLength = 10
number R.CardLength = 11
number R.Kind = 12
number R.Fill = 13
number R.Empty = 21
number R.NoPair = 22
number R.NotEmpty = 23
number R.Paired = 24
number R.LedgerFull = 25
number R.NoTable = 26
number R.TableOpen = 27
number R.WideCard = 28
number R.Polynomials = 29

abbrev pub number_of : {T : Type 0} → Result T Refusal → ℕ
number_of (Ok x) = 0
number_of (Err e) = number e
