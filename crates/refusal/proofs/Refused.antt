-- No refusal has the number 0.
use Rattle.std.proofs.Common.{◌≡◌, arith}
use Rattle.refusal.specs.Number.{number}
use Rattle.refusal.specs.declared.number.Refusal.{Refusal}
use Rattle.refusal.specs.declared.number.Refusal.TheVariants as R

pub refused : (e : Refusal) → number e ≡ 0 → ⊥
refused R.Prime h = omega arith
refused R.Degree h = omega arith
refused R.Length h = omega arith
refused R.Word h = omega arith
refused R.Method h = omega arith
refused R.FirstModulus h = omega arith
refused R.SecondModulus h = omega arith
refused R.Congruence h = omega arith
refused R.TableLength h = omega arith
refused R.OutputLength h = omega arith
refused R.CardLength h = omega arith
refused R.Kind h = omega arith
refused R.Fill h = omega arith
refused R.Empty h = omega arith
refused R.NoPair h = omega arith
refused R.NotEmpty h = omega arith
refused R.Paired h = omega arith
refused R.LedgerFull h = omega arith
refused R.NoTable h = omega arith
refused R.TableOpen h = omega arith
refused R.WideCard h = omega arith
refused R.Polynomials h = omega arith
