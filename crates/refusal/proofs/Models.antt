-- To a model, to two models and a pair for them, and to any lists of n words, 1 to 4 do not apply; and what they do not apply to are such models and pairs.
use mathlib.Core.Path.{◌≡◌}
use mathlib.Core.List.{List, [], ◌∷◌}
use Prim.Native.Nat.{ℕ}
use lib.ListN.{length}
use Rattle.algebra.specs.Lists.{All}
use Rattle.array.proofs.Words.{words_length}
use Rattle.refusal.specs.Models.{Model, Models, Given}
use Rattle.refusal.proofs.Lists.{words_of, words_below}
use Rattle.refusal.proofs.Order.{Sent}

module _ (p n : ℕ) (t : List ℕ) where
  pub model_sent : Model p n t → Sent p n (t ∷ []) (t ∷ [])
  model_sent m =
      record {
        prime = m.prime;
        small = m.small;
        low = m.degree.0;
        high = m.degree.1;
        lengths = (words_length m.modulus, tt);
        below = (words_below m.modulus, tt);
      }

  pub sent_model : Sent p n (t ∷ []) (t ∷ []) → Model p n t
  sent_model h = record { prime = h.prime; small = h.small; degree = (h.low, h.high); modulus = words_of p n t h.lengths.0 h.below.0 }

module _ (p n : ℕ) (t1 t2 : List ℕ) (xss : List (List ℕ)) where
  pub models_sent : Models p n t1 t2 → All (λ xs. length xs ≡ n) xss → Sent p n (t1 ∷ t2 ∷ xss) (t1 ∷ t2 ∷ [])
  models_sent m lengths =
      record {
        prime = m.prime;
        small = m.small;
        low = m.degree.0;
        high = m.degree.1;
        lengths = (words_length m.modulus1, (words_length m.modulus2, lengths));
        below = (words_below m.modulus1, (words_below m.modulus2, tt));
      }

  pub sent_models : (yss : List (List ℕ)) → Sent p n (t1 ∷ t2 ∷ xss) (t1 ∷ t2 ∷ yss) → Models p n t1 t2
  sent_models yss h =
      record {
        prime = h.prime;
        small = h.small;
        degree = (h.low, h.high);
        modulus1 = words_of p n t1 h.lengths.0 h.below.0;
        modulus2 = words_of p n t2 h.lengths.1.0 h.below.1.0;
      }

module _ (p n : ℕ) (t1 t2 s r : List ℕ) where
  abbrev lists : List (List ℕ)
  lists = t1 ∷ t2 ∷ s ∷ r ∷ []

  pub given : Sent p n lists lists → Given p n t1 t2 s r
  given h =
      record {
        models = sent_models p n t1 t2 (s ∷ r ∷ []) (s ∷ r ∷ []) h;
        words_s = words_of p n s h.lengths.1.1.0 h.below.1.1.0;
        words_r = words_of p n r h.lengths.1.1.1.0 h.below.1.1.1.0;
      }

  pub all_sent : Given p n t1 t2 s r → Sent p n lists lists
  all_sent g =
      let sent = models_sent p n t1 t2 (s ∷ r ∷ []) g.models (words_length g.words_s, (words_length g.words_r, tt)) in
      record {
        prime = sent.prime;
        small = sent.small;
        low = sent.low;
        high = sent.high;
        lengths = sent.lengths;
        below = (sent.below.0, (sent.below.1.0, (words_below g.words_s, (words_below g.words_r, tt))));
      }
