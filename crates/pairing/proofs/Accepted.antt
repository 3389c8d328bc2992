-- What the numbers of load and propose say of the lists that were sent: two models, and a pair for them.
--   loaded_models     where 1 to 4 do not apply to two lists, they are models
--   check_models      the checker's number for two models: 1 and 2 do not apply, nor 3 and 4 to the models
--   accepted_given    where the checker accepts, the models and the pair are lists of n words below p
use mathlib.Core.Path.{◌≡◌, sym, ◌∙◌}
use mathlib.Core.List.{List, [], ◌∷◌}
use Prim.Native.Nat.{ℕ}
use borrow.Author.Tests.{eq-eqb}
use lib.ListN.{length}
use Rattle.algebra.specs.Lists.{all}
use Rattle.array.proofs.Words.{words_length}
use Rattle.refusal.specs.Models.{Models, Given}
use Rattle.refusal.specs.Refusal.{refuse, refuse_sent, bad_length, bad_word}
use Rattle.refusal.proofs.Order.{given_prime, given_degree, sent_given}
use Rattle.refusal.proofs.Lists.{words_below}
use Rattle.refusal.proofs.Models.{sent_models}
use Rattle.pair.specs.Pair.{refuse_pair, check_number, check_number_or}
use Rattle.pair.proofs.Theorem.{checker_theorem}

pub loaded_models : (p n k : ℕ) (t1 t2 : List ℕ) → k ≡ refuse_sent p n (t1 ∷ t2 ∷ []) (t1 ∷ t2 ∷ []) 0 → k ≡ 0 → Models p n t1 t2
loaded_models p n k t1 t2 e h = sent_models p n t1 t2 [] [] (sent_given p n (t1 ∷ t2 ∷ []) (t1 ∷ t2 ∷ []) 0 (sym e ∙ h)).0

pub check_models : (p n : ℕ) (t1 t2 s r : List ℕ) → Models p n t1 t2
    → check_number p n t1 t2 s r ≡ refuse 3 (bad_length n (s ∷ r ∷ [])) (refuse 4 (bad_word p (s ∷ r ∷ [])) (refuse_pair p t1 t2 s r))
unfolding check_number_or bad_length bad_word all
check_models p n t1 t2 s r m =
    rw (
      given_prime p m.prime m.small,
      given_degree n m.degree.0 m.degree.1,
      eq-eqb (length t1) n (words_length m.modulus1),
      eq-eqb (length t2) n (words_length m.modulus2),
      words_below m.modulus1,
      words_below m.modulus2,
    )

module _ (p n k : ℕ) (t1 t2 s r : List ℕ) (e : k ≡ check_number p n t1 t2 s r) where
  pub proposed_number : Models p n t1 t2 → k ≡ refuse 3 (bad_length n (s ∷ r ∷ [])) (refuse 4 (bad_word p (s ∷ r ∷ [])) (refuse_pair p t1 t2 s r))
  proposed_number m = e ∙ check_models p n t1 t2 s r m

  pub accepted_given : k ≡ 0 → Given p n t1 t2 s r
  accepted_given h = ((checker_theorem p n t1 t2 s r).0 (sym e ∙ h)).0
