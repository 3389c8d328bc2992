-- The words of a job after the finder's pair is written behind T1 and T2: the two lists that are lent have n words, and the finder keeps their lengths.
use mathlib.Core.Path.{◌≡◌, sym, ap, ap₂, ◌∙◌}
use mathlib.Core.List.{List, ◌++◌, append_assoc}
use Prim.Native.Nat.{ℕ, ◌*◌}
use native.Mathlib.Omega.{arith}
use lib.ListN.{length, take, length-append}
use Rattle.refusal.specs.Refusal.{written}
use Rattle.finder.specs.Finder.{find_number, find_s, find_r, find_output_s, find_output_r}
use Rattle.refusal.specs.Models.{Models}
use Rattle.refusal.specs.Number.{number}
use Rattle.refusal.specs.declared.number.Refusal.{Refusal}
use Rattle.refusal.proofs.Refused.{refused}
use Rattle.answer.specs.Answer.{part, pair_words}
use Rattle.answer.specs.JobWords.{JobWords}
use Rattle.text.specs.Text.{Appended}
use Rattle.finder.proofs.Findable.{find_models}
use Rattle.answer.proofs.Parts.{two_parts}

module _ (p n number end : ℕ) (words after lent_s lent_r s r : List ℕ)
    (size_lent_s : length lent_s ≡ n) (size_lent_r : length lent_r ≡ n) (size_s : length s ≡ length lent_s) (size_r : length r ≡ length lent_r) where
  t1 : List ℕ
  t1 = part n words 0

  t2 : List ℕ
  t2 = part n words 1

  pub pair_behind : Models p n (part n words 0) (part n words 1) → number ≡ find_number p n (part n words 0) (part n words 1) lent_s lent_r
      → s ≡ find_output_s p n (part n words 0) (part n words 1) lent_s lent_r → r ≡ find_output_r p n (part n words 0) (part n words 1) lent_s lent_r
      → Appended (2 * n) (s ++ r) words after end → JobWords p n words after number
  unfolding t1 t2 pair_words find_output_s find_output_r
  pair_behind m e es er a =
      record {
        number_is = e ∙ find_models p n t1 t2 m lent_s lent_r size_lent_s size_lent_r;
        words_are = λ z.
            let number_0 : find_number p n t1 t2 lent_s lent_r ≡ 0 = sym e ∙ z in
            let s_is : s ≡ find_s p n t1 t2 = es ∙ ap (λ k. written k (find_s p n t1 t2) lent_s) number_0 in
            let r_is : r ≡ find_r p n t1 t2 = er ∙ ap (λ k. written k (find_r p n t1 t2) lent_r) number_0 in
            let end_is : 4 * n ≡ end = omega (arith, a.end_is, length-append s r) in
            ap (λ k. take k after) end_is ∙ a.list_is ∙ ap₂ ◌++◌ (two_parts n words) (ap₂ ◌++◌ s_is r_is) ∙ append_assoc t1 t2 (find_s p n t1 t2 ++ find_r p n t1 t2);
      }

-- where the finder refuses, its number is what comes after 4
pub pair_refused : (p n : ℕ) (words after lent_s lent_r : List ℕ) (e : Refusal) → length lent_s ≡ n → length lent_r ≡ n → Models p n (part n words 0) (part n words 1)
    → number e ≡ find_number p n (part n words 0) (part n words 1) lent_s lent_r → JobWords p n words after (number e)
pair_refused p n words after lent_s lent_r e size_s size_r m f =
    record { number_is = f ∙ find_models p n (part n words 0) (part n words 1) m lent_s lent_r size_s size_r; words_are = λ z. absurd (refused e z) }
