-- The tests `divides` and `findable`, what 5 to 7 leave, the finder's number for two models, and that p and n are then of a size that the finder takes.
use mathlib.Core.Path.{◌≡◌, refl, sym, ap, ap₂, ◌∙◌}
use mathlib.Core.Bool.{Bool, true, false, not, ◌||◌, true≢false, false≢true}
use mathlib.Core.List.{List, [], ◌∷◌}
use mathlib.Core.Logic.{inl, inr}
use Prim.Native.Nat.{ℕ, ◌-◌, ◌%◌, ◌≤◌}
use lib.Dec.{eqb}
use native.Mathlib.Omega.{arith}
use borrow.Author.Tests.{eq-eqb, ne_eqb, eqb-true, not-false}
use lib.ListN.{length}
use Rattle.quotient.specs.DivisorTest.{has_divisor}
use Rattle.refusal.specs.Models.{Model, Models}
use Rattle.roots.specs.Roots.{Admissible}
use Rattle.refusal.proofs.Order.{refuse_none, given_sent}
use Rattle.refusal.proofs.Models.{models_sent}
use Rattle.galois.specs.Tower.{exponent}
use Rattle.galois.proofs.Exponent.{exponent_is, exponent_found, not_a_divisor}
use Rattle.finder.specs.Construct.{Size}
use Rattle.finder.specs.Finder.{divides, Findable, findable, refuse_find, find_number}

-- the test for the first method

pub divides-true : (p n : ℕ) → (p - 1) % n ≡ 0 → divides p n ≡ true
unfolding divides
divides-true p n h = eq-eqb ((p - 1) % n) 0 h

pub divides-false : (p n : ℕ) → ((p - 1) % n ≡ 0 → ⊥) → divides p n ≡ false
unfolding divides
divides-false p n h = ne_eqb ((p - 1) % n) 0 h

true-divides : (p n : ℕ) → divides p n ≡ true → (p - 1) % n ≡ 0
unfolding divides
true-divides p n h = eqb-true ((p - 1) % n) 0 h

-- and that for both

module _ (p n : ℕ) where
  findable_first : (p - 1) % n ≡ 0 → findable p n ≡ true
  unfolding findable
  findable_first h = ap (λ b. b || not (eqb (exponent p n) 0)) (divides-true p n h)

  findable_second : ((p - 1) % n ≡ 0 → ⊥) → (exponent p n ≡ 0 → ⊥) → findable p n ≡ true
  unfolding findable
  findable_second other h = ap₂ (λ b c. b || not c) (divides-false p n other) (ne_eqb (exponent p n) 0 h)

  pub findable-false : ((p - 1) % n ≡ 0 → ⊥) → exponent p n ≡ 0 → findable p n ≡ false
  unfolding findable
  findable-false other h = ap₂ (λ b c. b || not c) (divides-false p n other) (eq-eqb (exponent p n) 0 h)

  pub findable-true : 2 ≤ p → Findable p n → findable p n ≡ true
  findable-true big (inl h) = findable_first h
  findable-true big (inr (k, low, e)) = findable_second (not_a_divisor p n big (k, low, e)) (λ z. let h : exponent p n ≡ k = exponent_found p n big k low e in omega arith)

  true-findable : findable p n ≡ true → Findable p n
  unfolding findable
  true-findable h = by_first (divides p n) (eqb (exponent p n) 0) refl refl h
    where
      by_first : (b c : Bool) → divides p n ≡ b → eqb (exponent p n) 0 ≡ c → (b || not c) ≡ true → Findable p n
      by_first true c e f g = inl (true-divides p n e)
      by_first false true e f g = absurd (false≢true g)
      by_first false false e f g = let (low, size) = exponent_is p n (λ z. true≢false (sym (eq-eqb (exponent p n) 0 z) ∙ f)) in inr (exponent p n, low, size)

pub none_apply : (p n : ℕ) (t1 t2 : List ℕ) → refuse_find p n t1 t2 ≡ 0 → Findable p n × (has_divisor p t1 ≡ false) × (has_divisor p t2 ≡ false)
none_apply p n t1 t2 h =
    let (degree, h6) = refuse_none 4 (not (findable p n)) _ h in
    let (first, h7) = refuse_none 5 (has_divisor p t1) _ h6 in
    let (second, _) = refuse_none 6 (has_divisor p t2) 0 h7 in
    (true-findable p n (not-false (findable p n) degree), first, second)

-- to two models, and lists of n words, 1 to 4 do not apply
pub find_models : (p n : ℕ) (t1 t2 : List ℕ) → Models p n t1 t2 → (lent_s lent_r : List ℕ) → length lent_s ≡ n → length lent_r ≡ n
    → find_number p n t1 t2 lent_s lent_r ≡ refuse_find p n t1 t2
unfolding find_number
find_models p n t1 t2 m lent_s lent_r s r =
    given_sent p n (t1 ∷ t2 ∷ lent_s ∷ lent_r ∷ []) (t1 ∷ t2 ∷ []) _ (models_sent p n t1 t2 (lent_s ∷ lent_r ∷ []) m (s, (r, tt)))

pub model_admissible : (p n : ℕ) (t : List ℕ) → Model p n t → (p - 1) % n ≡ 0 → Admissible p n
model_admissible p n t m divides =
    record { prime = m.prime; small = omega (arith, m.small); low = m.degree.0; high = m.degree.1; divides = divides }

pub models_admissible : (p n : ℕ) (t1 t2 : List ℕ) → Models p n t1 t2 → (p - 1) % n ≡ 0 → Admissible p n
models_admissible p n t1 t2 m = model_admissible p n t1 record { prime = m.prime; small = m.small; degree = m.degree; modulus = m.modulus1 }

pub model_size : (p n : ℕ) (t : List ℕ) → Model p n t → Findable p n → Size p n
model_size p n t m findable =
    record { prime = m.prime; small = omega (arith, m.small); low = m.degree.0; high = m.degree.1; findable = findable }

pub models_size : (p n : ℕ) (t1 t2 : List ℕ) → Models p n t1 t2 → Findable p n → Size p n
models_size p n t1 t2 m = model_size p n t1 record { prime = m.prime; small = m.small; degree = m.degree; modulus = m.modulus1 }
