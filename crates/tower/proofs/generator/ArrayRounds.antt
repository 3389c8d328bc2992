-- The rounds on arrays. A round that has its solution leads one round on. Where one has none, T has a proper divisor: otherwise the search would find a solution for the same a.
-- After k rounds T has none, and the array holds the α of the search.
use mathlib.Core.Path.{◌≡◌, sym, ap, ap₂, subst, ◌∙◌}
use mathlib.Core.Bool.{true, false}
use mathlib.Core.List.{List}
use Prim.Native.Nat.{ℕ, zero, suc, ◌+◌, ◌-◌, ◌^◌, ◌≤◌, ◌<◌}
use native.Mathlib.Numerals.{add-one}
use native.Mathlib.Omega.{arith}
use lib.ListN.{take, set, replicate}
use Rattle.algebra.specs.Prime.{Prime}
use Rattle.algebra.specs.Ring.{CommutativeRing}
use Rattle.algebra.proofs.RingLaws.{power_of_one}
use Rattle.array.specs.Array.{padded, Holds}
use Rattle.array.specs.Words.{Words}
use Rattle.array.proofs.Padded.{holds_is, front_is}
use Rattle.quotient.specs.Divisor.{HasDivisor}
use Rattle.quotient.specs.DivisorTest.{has_divisor}
use Rattle.quotient.specs.Residue.{Residue, constant, product, power}
use Rattle.quotient.proofs.Decision.{has_divisor_test, has_divisor?, irreducible_test}
use Rattle.quotient.proofs.Operations.{constant_words, product_words, power_words}
use Rattle.quotient.proofs.Reduction.{one_is, mul_is}
use Rattle.quotient.proofs.Ring.{residue_ring, power_is}
use Rattle.residue.proofs.Power.{constant_array}
use Rattle.galois.specs.Tower.{raised, rounds, ArtinSchreier, Rounds}
use Rattle.galois.proofs.Rounds.{rounds_irreducible, rounds_found, round_solvable}
use Rattle.tower.specs.Equation.{Solved, Unsolved}
use Rattle.tower.specs.Generator.{Reached, GeneratorFound}

-- a·α^(p − 1)
module _ (p n : ℕ) (t a v : List ℕ) (big : 2 ≤ p) (ht : Holds p n t) (ha : Holds p n a) (hv : Holds p n v) where
  pub power_holds : (e : ℕ) (w : List ℕ) → w ≡ padded (power p (take n t) (take n v) e) → Holds p n w
  power_holds e w f = holds_is f (power_words big ht.words hv.words e)

  pub raised_is : (e : ℕ) (w r : List ℕ) → e ≡ p - 1 → w ≡ padded (power p (take n t) (take n v) e) → r ≡ padded (product p (take n t) (take n a) (take n w))
      → r ≡ padded (raised p (take n t) (take n a) (take n v))
  unfolding raised
  raised_is e w r ee f g =
      g ∙ ap (λ x. padded (product p (take n t) (take n a) x)) (front_is f (power_words big ht.words hv.words e) ∙ ap (power p (take n t) (take n v)) ee)

  pub raised_holds : (e : ℕ) (w r : List ℕ) → w ≡ padded (power p (take n t) (take n v) e) → r ≡ padded (product p (take n t) (take n a) (take n w)) → Holds p n r
  raised_holds e w r f g = holds_is g (product_words big ht.words (take n a) (power_holds e w f).words)

-- on lists, for every degree n ≥ 1

unsolved : {p n : ℕ} {t : List ℕ} → Prime p → 1 ≤ n → Words p n t → (j k : ℕ) → j < k → n ≡ p ^ k → (a α : List ℕ) → Rounds p n t j a α
    → ((v : List ℕ) → ArtinSchreier p n t (raised p t a α) v → has_divisor p t ≡ true) → has_divisor p t ≡ true
unsolved {n = zero} prime low wt j k less size a α h none = absurd (omega arith)
unsolved {p} {n = suc n} {t} prime low wt j k less size a α h none = by_divisor (has_divisor? prime.0 wt)
  where
    by_divisor : Dec (HasDivisor p t) → has_divisor p t ≡ true
    by_divisor (yes d) = has_divisor_test prime.0 wt d
    by_divisor (no d) = let (v, s) = round_solvable prime wt d j k less size a α h in none v s

all_solved : {p n : ℕ} {t : List ℕ} → Prime p → 1 ≤ n → Words p n t → (k : ℕ) → 1 ≤ k → n ≡ p ^ k → (a α : List ℕ) → Rounds p n t k a α
    → (has_divisor p t ≡ false) × (α ≡ (rounds p n t k).1)
all_solved {n = zero} prime low wt k low_k size a α h = absurd (omega arith)
all_solved {n = suc n} prime low wt zero low_k size a α h = absurd (omega arith)
all_solved {n = suc n} prime low wt (suc k) low_k size a α h =
    let irreducible = rounds_irreducible prime wt k a α size h in
    (irreducible_test prime.0 wt irreducible, rounds_found prime wt irreducible (suc k) size a α h)

-- one round on arrays, from a and α after j rounds
module _ (p n : ℕ) (t : List ℕ) (prime : Prime p) (ht : Holds p n t) (j : ℕ) (a v : List ℕ) (reached : Reached p n (take n t) j a v)
    (b : List ℕ) (eb : b ≡ padded (raised p (take n t) (take n a) (take n v))) where
  abbrev T : List ℕ
  T = take n t

  raised_words : Words p n (raised p T (take n a) (take n v))
  unfolding raised
  raised_words = product_words prime.0 ht.words (take n a) (power_words prime.0 ht.words reached.v_holds.words (p - 1))

  next_front : take n b ≡ raised p T (take n a) (take n v)
  next_front = front_is eb raised_words

  pub next_reached : (w : List ℕ) → Solved p n T (take n b) w → Reached p n T (j + 1) b w
  next_reached w solved =
      record {
        a_holds = holds_is eb raised_words;
        v_holds = solved.holds;
        after = subst (λ i. Rounds p n T i (take n b) (take n w)) (sym (add-one j)) (take n a, take n v, reached.after, next_front, solved.solution);
      }

  pub next_none : Unsolved p n T (take n b) → 1 ≤ n → (k : ℕ) → n ≡ p ^ k → j < k → has_divisor p T ≡ true
  next_none none low k size less =
      unsolved prime low ht.words j k less size (take n a) (take n v) reached.after (λ x s. none x (subst (λ y. ArtinSchreier p n T y x) (sym next_front) s))

pub last_reached : (p n k : ℕ) (t : List ℕ) → Prime p → 1 ≤ n → 1 ≤ k → n ≡ p ^ k → Holds p n t → (j : ℕ) (a v : List ℕ) → Reached p n (take n t) j a v → j ≤ k → k ≤ j
    → GeneratorFound p n (take n t) k v
last_reached p n k t prime low low_k size ht j a v reached l l' =
    let same : j ≡ k = omega arith in
    let (irreducible, e) = all_solved prime low ht.words k low_k size (take n a) (take n v) (subst (λ i. Rounds p n (take n t) i (take n a) (take n v)) same reached.after) in
    record { irreducible = irreducible; alpha_is = reached.v_holds.zeros ∙ ap padded e }

-- the first round: a = α = 1, and a·α^(p − 1) = 1

raised-one : {p n : ℕ} {t : List ℕ} → 2 ≤ p → Words p n t → raised p t (constant n 1) (constant n 1) ≡ constant n 1
unfolding raised
raised-one {p} {n} {t} big wt =
    let K : CommutativeRing (Residue p n) = residue_ring big wt in
    let one : K.one.0 ≡ constant n 1 = one_is big wt in
    ap (λ x. product p t x (power p t x (p - 1))) (sym one)
    ∙ ap (product p t K.one.0) (power_is big wt K.one (p - 1) ∙ ap (λ x. x.0) (power_of_one K (p - 1)))
    ∙ sym (mul_is big wt K.one K.one) ∙ ap (λ x. x.0) (K.mul-one K.one) ∙ one

module _ (p n : ℕ) (t : List ℕ) (prime : Prime p) (low : 1 ≤ n) (short : n ≤ 16) (ht : Holds p n t) where
  abbrev one : List ℕ
  one = set (replicate 16 0) 0 1

  array_is : one ≡ padded (constant n 1)
  array_is = constant_array n 1 low short

  front : take n one ≡ constant n 1
  front = front_is array_is (constant_words n prime.0)

  pub one_holds : Holds p n one
  one_holds = holds_is array_is (constant_words n prime.0)

  start_reached : Reached p n (take n t) 0 one one
  start_reached = record { a_holds = one_holds; v_holds = one_holds; after = (front, front) }

  one-raised : one ≡ padded (raised p (take n t) (take n one) (take n one))
  one-raised = array_is ∙ ap padded (sym (ap₂ (raised p (take n t)) front front ∙ raised-one prime.0 ht.words))

  pub first_reached : (w : List ℕ) → Solved p n (take n t) (take n one) w → Reached p n (take n t) 1 one w
  first_reached = next_reached p n t prime ht 0 one one start_reached one one-raised

  pub first_none : Unsolved p n (take n t) (take n one) → (k : ℕ) → 1 ≤ k → n ≡ p ^ k → has_divisor p (take n t) ≡ true
  first_none none k low_k size = next_none p n t prime ht 0 one one start_reached one one-raised none low k size low_k
