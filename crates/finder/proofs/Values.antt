-- The finder's values for models of degree n ≥ 1, on lists.
--   ModelLaws p n t      α of a model without proper divisors: n words, whose powers are independent
--   PairLaws p n t1 t2   what the searches find is the pair of Algorithm 2.1 or 4.1 with the documents' choices, and R is the S of the models exchanged; of such a pair, and of every
--                        other scaling's, the four congruences hold; and only one is chosen
use mathlib.Core.Path.{◌≡◌}
use mathlib.Core.List.{List}
use Prim.Native.Nat.{ℕ, zero, suc, ◌≤◌}
use native.Mathlib.Omega.{arith}
use Rattle.algebra.specs.Prime.{Prime}
use Rattle.array.specs.Words.{Words}
use Rattle.quotient.specs.Divisor.{HasDivisor}
use Rattle.galois.specs.Express.{Independent}
use Rattle.finder.specs.Construct.{Size}
use Rattle.finder.specs.Finder.{generator, find_s, find_r}
use Rattle.finder.specs.Stored.{ScaledPair}
use Rattle.finder.specs.Theorem.{ChosenPair}
use Rattle.finder.proofs.ChosenPair.{generators_related, found_chosen, found_exchanged, chosen_holds, chosen_unique}
use Rattle.finder.proofs.Construction.{PairHolds}
use Rattle.finder.proofs.Eigenvectors.{scaled_holds}

pub record ModelLaws (p n : ℕ) (t : List ℕ) : Type 0 where
  pub words : (HasDivisor p t → ⊥) → Words p n (generator p n t)
  pub independent : (HasDivisor p t → ⊥) → Independent p n t (generator p n t)

pub model_laws : (p n : ℕ) → Size p n → (t : List ℕ) → Words p n t → ModelLaws p n t
model_laws p zero h t wt = absurd (omega (arith, h.low))
model_laws p (suc n) h t wt =
    record { words = λ i. (generators_related h wt wt i i).first.words; independent = λ i. (generators_related h wt wt i i).first.independent }

pub record PairLaws (p n : ℕ) (t1 t2 : List ℕ) : Type 0 where
  pub chosen : Size p n → (HasDivisor p t1 → ⊥) → (HasDivisor p t2 → ⊥) → ChosenPair p n t1 t2 (find_s p n t1 t2) (find_r p n t1 t2)
  pub exchanged : Size p n → (HasDivisor p t1 → ⊥) → (HasDivisor p t2 → ⊥) → find_r p n t1 t2 ≡ find_s p n t2 t1
  pub chosen_pair : {s r : List ℕ} → ChosenPair p n t1 t2 s r → PairHolds p n t1 t2 s r
  pub scaled_pair : {s r : List ℕ} → ScaledPair p n t1 t2 s r → PairHolds p n t1 t2 s r
  pub only_one : (s r s' r' : List ℕ) → ChosenPair p n t1 t2 s r → ChosenPair p n t1 t2 s' r' → (s ≡ s') × (r ≡ r')

pub pair_laws : (p : ℕ) → Prime p → (n : ℕ) → 1 ≤ n → (t1 t2 : List ℕ) → Words p n t1 → Words p n t2 → PairLaws p n t1 t2
pair_laws p prime zero low t1 t2 w1 w2 = absurd (omega arith)
pair_laws p prime (suc n) low t1 t2 w1 w2 =
    record {
      chosen = λ h. found_chosen h w1 w2;
      exchanged = λ h. found_exchanged h w1 w2;
      chosen_pair = chosen_holds prime w1 w2;
      scaled_pair = scaled_holds prime w1 w2;
      only_one = λ s r s' r'. chosen_unique prime w1 w2;
    }
