-- No refusal of the writer applies to the words of a pair that is found: by demand 3 the checker accepts the pair, so all four lists have n words below p.
use mathlib.Core.Path.{◌≡◌, refl, ap, subst, subst₂, ◌∙◌}
use mathlib.Core.List.{List}
use Prim.Native.Nat.{ℕ, ◌+◌, ◌*◌}
use native.Mathlib.Omega.{arith}
use lib.ListN.{replicate, length-replicate}
use Rattle.refusal.specs.Refusal.{written}
use Rattle.array.specs.Words.{Words}
use Rattle.array.proofs.Words.{append_words}
use Rattle.card.specs.Card.{bad_kind, card_length, write_number}
use Rattle.card.proofs.Refusals.{write_accepts}
use Rattle.refusal.specs.Models.{Models, Given}
use Rattle.pair.proofs.Theorem.{checker_theorem}
use Rattle.finder.specs.Finder.{refuse_find, find_number, find_s, find_r, find_output_s, find_output_r}
use Rattle.finder.proofs.Theorem.{demand_3}
use Rattle.answer.specs.Answer.{pair_words}
use Rattle.finder.proofs.Findable.{find_models}

module _ (p n : ℕ) (t1 t2 : List ℕ) (m : Models p n t1 t2) (none : refuse_find p n t1 t2 ≡ 0) where
  -- two lists to lend to the finder
  lent : List ℕ
  lent = replicate n 0

  finds : find_number p n t1 t2 lent lent ≡ 0
  unfolding lent
  finds = find_models p n t1 t2 m lent lent (length-replicate n 0) (length-replicate n 0) ∙ none

  -- the checker accepts what is found, so S and R have n words below p
  pair_given : Given p n t1 t2 (find_s p n t1 t2) (find_r p n t1 t2)
  unfolding find_output_s find_output_r
  pair_given =
      subst₂ (Given p n t1 t2) (ap (λ k. written k (find_s p n t1 t2) lent) finds) (ap (λ k. written k (find_r p n t1 t2) lent) finds)
      ((checker_theorem p n t1 t2 (find_output_s p n t1 t2 lent lent) (find_output_r p n t1 t2 lent lent)).0 ((demand_3 p n t1 t2 m).found lent lent finds).1).0

  four_lists : Words p (n + (n + (n + n))) (pair_words p n t1 t2)
  unfolding pair_words
  four_lists = append_words m.modulus1 (append_words m.modulus2 (append_words pair_given.words_s pair_given.words_r))

  pub pair_writable : write_number p n 2 (pair_words p n t1 t2) (replicate (card_length p n 2) 0) ≡ 0
  unfolding bad_kind
  pair_writable =
      write_accepts p n 2 (pair_words p n t1 t2) (replicate (card_length p n 2) 0)
      (record {
        prime = m.prime;
        small = m.small;
        low = m.degree.0;
        high = m.degree.1;
        kind_good = refl;
        below = let e : n + (n + (n + n)) ≡ 4 * n = omega arith in subst (λ k. Words p k (pair_words p n t1 t2)) e four_lists;
        size = length-replicate (card_length p n 2) 0;
      })
