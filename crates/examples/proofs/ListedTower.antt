-- The values of two models of degree n = p^k are the finder's if they pass their tests: k rounds are those of the search, and of the pairs that Algorithm 4.1 may give there is only one.
--   solution    a solution of v^p = v + a with constant coefficient 0, from its tests
--   tower_found   the finder's values from the rounds of both models, P1, S and R
use mathlib.Core.Path.{◌≡◌, sym, ap, ◌∙◌}
use mathlib.Core.Bool.{false}
use mathlib.Core.List.{List, [], ◌∷◌}
use mathlib.Core.Logic.{inr}
use Prim.Native.Nat.{ℕ, suc, ◌+◌, ◌^◌}
use native.Mathlib.Nat.{add-zero}
use native.Mathlib.Omega.{arith}
use lib.ListN.{get_or}
use Rattle.quotient.specs.Residue.{sum, power}
use Rattle.galois.specs.Tower.{ArtinSchreier, Rounds}
use Rattle.galois.proofs.Rounds.{rounds_irreducible, rounds_unique, rounds_are}
use Rattle.refusal.specs.Models.{Models}
use Rattle.refusal.specs.Refusal.{bad_length, bad_word}
use Rattle.refusal.proofs.Lists.{words_given}
use Rattle.finder.specs.Theorem.{PairOf}
use Rattle.finder.proofs.ChosenPair.{found_chosen, chosen_unique}
use Rattle.finder.proofs.Findable.{models_size}
use Rattle.finder.proofs.Theorem.{demand_3}
use Rattle.examples.specs.TowerExamples.{TowerValues}

pub solution : {p n : ℕ} {t a : List ℕ} (v : List ℕ) → bad_length n (v ∷ []) ≡ false → bad_word p (v ∷ []) ≡ false → power p t v p ≡ sum p v a → get_or v 0 0 ≡ 0 → ArtinSchreier p n t a v
solution {p} {n} v length_is words_are equation constant-zero =
    record { words = (words_given p n (v ∷ []) length_is words_are).0; equation = equation; constant-zero = constant-zero }

pub tower_found : {p n k : ℕ} {t1 t2 a1 a2 x y s r : List ℕ} → Models p (suc n) t1 t2 → suc n ≡ p ^ suc k
    → Rounds p (suc n) t1 (suc k) a1 x → Rounds p (suc n) t2 (suc k) a2 y → PairOf p (suc n) t1 t2 x y s r → TowerValues p (suc n) (suc k) t1 t2 a1 a2 x y s r
tower_found {p} {n} {k} {t1} {t2} {a1} {a2} {x} {y} {s} {r} m size h1 h2 pair =
    let irreducible1 = rounds_irreducible m.prime m.modulus1 k a1 x size h1 in
    let irreducible2 = rounds_irreducible m.prime m.modulus2 k a2 y size h2 in
    let whole : suc n ≡ p ^ (suc k + 0) = size ∙ ap (λ i. p ^ i) (sym (add-zero (suc k))) in
    let (es, er) =
    chosen_unique m.prime m.modulus1 m.modulus2
    (found_chosen (models_size p (suc n) t1 t2 m (inr (suc k, omega arith, size))) m.modulus1 m.modulus2 irreducible1 irreducible2)
    (inr record { k = suc k; a1 = a1; a2 = a2; alpha1 = x; alpha2 = y; k_is = (omega arith, size); alpha1_is = h1; alpha2_is = h2; pair_is = pair }) in
    record {
      first_is = rounds_unique m.prime m.modulus1 irreducible1 (suc k) _ _ a1 x (rounds_are m.prime m.modulus1 irreducible1 (suc k) 0 whole) h1;
      second_is = rounds_unique m.prime m.modulus2 irreducible2 (suc k) _ _ a2 y (rounds_are m.prime m.modulus2 irreducible2 (suc k) 0 whole) h2;
      s_is = es;
      r_is = er;
      number_is = λ lent_s lent_r length_s length_r.
          ((demand_3 p (suc n) t1 t2 m).returns (inr (suc k, omega arith, size)) lent_s lent_r length_s length_r).1 (irreducible1, irreducible2);
    }
