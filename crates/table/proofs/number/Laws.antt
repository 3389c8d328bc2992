-- What the lengths of a table and its words say of the number, in the order of the conditions.
--   lengths_follow      what comes after 9 and 10 decides where neither applies
--   lengths_refused     a refusal by the lengths stays
--   words_right, words_wrong   after right lengths the words decide
use mathlib.Core.Path.{◌≡◌, sym, ap, ◌∙◌}
use mathlib.Core.Bool.{true, false, not, ◌||◌, and-true}
use mathlib.Core.List.{List}
use Prim.Native.Nat.{ℕ, ◌%◌}
use lib.Dec.{ltb, eqb}
use lib.ListN.{length}
use Rattle.algebra.specs.Lists.{all}
use Rattle.array.specs.Words.{all_below}
use Rattle.refusal.specs.Number.{number}
use Rattle.refusal.specs.Refusal.{refuse, bad_word}
use Rattle.refusal.specs.declared.number.Refusal.{Refusal}
use Rattle.refusal.proofs.Order.{Follows, passed, follows_next, follows_stays, follows_passes}
use Rattle.refusal.proofs.Refused.{refused}
use Rattle.table.specs.Table.{most_words, refuse_table, table_number}

pub lengths_follow : (n rest : ℕ) (table out : List ℕ) → Follows rest (refuse_table n table out 0) (refuse_table n table out rest)
lengths_follow n rest table out =
    follows_next 8 (ltb most_words (length table) || not (eqb (length table % n) 0)) (follows_next 9 (not (eqb (length out) (length table))) passed)

module _ (p n : ℕ) (table out : List ℕ) where
  pub lengths_refused : (e : Refusal) → number e ≡ refuse_table n table out 0 → number e ≡ table_number p n table out
  unfolding table_number
  lengths_refused e h = follows_stays (lengths_follow n _ table out) (number e) h (refused e)

  module _ (lengths : 0 ≡ refuse_table n table out 0) where
    words_decide : table_number p n table out ≡ refuse 4 (not (all_below p table)) 0
    unfolding table_number bad_word all
    words_decide = follows_passes (lengths_follow n _ table out) (sym lengths) ∙ ap (λ b. refuse 4 (not b) 0) (and-true (all_below p table))

    pub words_right : true ≡ all_below p table → 0 ≡ table_number p n table out
    words_right h = rw (words_decide, ← h)

    pub words_wrong : false ≡ all_below p table → 4 ≡ table_number p n table out
    words_wrong h = rw (words_decide, ← h)
