-- The rounds of Algorithm 4.1 in a ring, and the conjugates of α in a field with p·1 = 0. Write σ for the p-th power and let a' = a·α^(p − 1) be the a of the next round. After
-- k rounds σ^(p^k) fixes a' and the sum of its first p^k conjugates is a constant e' ≠ 0: for k = 0 it is 1, and for α^p = α + a, where σ^(p^(k − 1)) fixes a and e is the sum for a,
-- σ^(p^(k − 1)) takes α to α + e, so that the conjugates of a' add up to those of a·Σ (α + i·e)^(p − 1) = −a, that is, to −e. So α has exactly p^k conjugates.
--   Tower R p k a α   a and α after k rounds: both are 1 at the start; in a round a becomes a·α^(p − 1), and then α some solution of v^p = v + a
--   Summed k a        a^(p^(p^k)) = a, and a + a^p + … (p^k terms) is a constant other than 0
use mathlib.Core.Path.{◌≡◌, sym, ap, ap₂, subst, ◌∙◌}
use Prim.Native.Nat.{ℕ, zero, suc, ◌+◌, ◌-◌, ◌*◌, ◌^◌, ◌<◌}
use native.Mathlib.Nat.{pow-zero, pow-suc, mul-zero}
use native.Mathlib.Omega.{arith}
use Rattle.algebra.specs.Prime.{Prime}
use Rattle.algebra.specs.Ring.{CommutativeRing, Field, numeral, power}
use Rattle.algebra.proofs.Constants.{numeral_nonzero, numeral_root}
use Rattle.algebra.proofs.Frobenius.{frobenius_power-add}
use Rattle.algebra.proofs.Period.{power-power, period_multiple}
use Rattle.algebra.proofs.PowerSums.{power_sum}
use Rattle.algebra.proofs.PrimePowers.{period_of_prime_power}
use Rattle.algebra.proofs.RingLaws.{add_assoc, add-zero, add_left_cancel, neg_unique, mul-one, one-mul, zero-mul, zero-add, mul_neg, neg_mul, power_of_one, power-mul, power_product, numeral-zero, numeral-one, numeral-suc, numeral-add, numeral-mul, add-mul, add_comm}
use Rattle.algebra.proofs.Totals.{total, total-zero, total-suc, total_equal, total_mul, total_product, total_image}
use Rattle.galois.proofs.Traces.{trace, conjugate-zero, conjugate-numeral, shifted, trace_multiple}

abbrev pub Tower : {A : Type 0} → CommutativeRing A → ℕ → ℕ → A → A → Type 0
Tower R p zero a α = (a ≡ R.one) × (α ≡ R.one)
Tower {A} R p (suc k) a α = (b : A) × (β : A) × Tower R p k b β × (a ≡ R.mul b (power R β (p - 1))) × (power R α p ≡ R.add α a)

module _ {A : Type 0} (F : Field A) (p : ℕ) (prime : Prime p) (characteristic : numeral F.ring p ≡ F.ring.zero) where
  abbrev R : CommutativeRing A
  R = F.ring

  abbrev σ : ℕ → A → A
  σ m u = power R u (p ^ m)

  record Summed (k : ℕ) (a : A) : Type 0 where
    fixed : power R a (p ^ (p ^ k)) ≡ a
    c : ℕ
    positive : 0 < c
    below : c < p
    sum_is : trace R p (p ^ k) a ≡ numeral R c

  -- p·e = 0
  vanishes : (r : ℕ) → numeral R (p * r) ≡ R.zero
  vanishes r = numeral-mul R p r ∙ ap (λ x. R.mul x (numeral R r)) characteristic ∙ zero-mul R (numeral R r)

  negative : (c : ℕ) → c < p → R.neg (numeral R c) ≡ numeral R (p - c)
  negative c l =
      let whole : c + (p - c) ≡ p = omega arith in
      sym (neg_unique R (numeral R c) (numeral R (p - c)) (sym (numeral-add R c (p - c)) ∙ ap (numeral R) whole ∙ characteristic))

  frobenius_power_zero : (i : ℕ) → σ i R.zero ≡ R.zero
  frobenius_power_zero i = ap (σ i) (sym (numeral-zero R)) ∙ conjugate-numeral R p prime characteristic i 0 ∙ numeral-zero R

  minus_one : (i : ℕ) → σ i (R.neg R.one) ≡ R.neg R.one
  minus_one i =
      let e : R.neg R.one ≡ numeral R (p - 1) = ap R.neg (sym (numeral-one R)) ∙ negative 1 prime.0 in
      ap (σ i) e ∙ conjugate-numeral R p prime characteristic i (p - 1) ∙ sym e

  -- α^p = α + a, where a satisfies Summed k
  module _ (k : ℕ) (a α : A) (s : Summed k a) (e : power R α p ≡ R.add α a) where
    abbrev m : ℕ
    m = p ^ k

    abbrev c : ℕ
    c = s.c

    step : σ m α ≡ R.add α (numeral R c)
    step = shifted R p prime characteristic α a e m ∙ ap (R.add α) s.sum_is

    -- σ^(m·i) takes α to α + i·c
    steps : (i : ℕ) → σ (m * i) α ≡ R.add α (R.mul (numeral R i) (numeral R c))
    steps zero =
        ap (λ j. σ j α) (mul-zero m) ∙ conjugate-zero R p prime characteristic α
        ∙ sym (ap (R.add α) (ap (λ x. R.mul x (numeral R c)) (numeral-zero R) ∙ zero-mul R (numeral R c)) ∙ add-zero R α)
    steps (suc i) =
        let next : m * suc i ≡ m + m * i = omega arith in
        ap (λ j. σ j α) next ∙ power-power R p α m (m * i) ∙ ap (σ (m * i)) step
        ∙ frobenius_power-add R p prime characteristic α (numeral R c) (m * i)
        ∙ ap₂ R.add (steps i) (conjugate-numeral R p prime characteristic (m * i) c)
        ∙ add_assoc R α (R.mul (numeral R i) (numeral R c)) (numeral R c)
        ∙ ap (R.add α) (add_comm R (R.mul (numeral R i) (numeral R c)) (numeral R c)
        ∙ sym (ap (λ x. R.mul x (numeral R c)) (numeral-suc R i) ∙ add-mul R R.one (numeral R i) (numeral R c)
        ∙ ap (λ x. R.add x (R.mul (numeral R i) (numeral R c))) (one-mul R (numeral R c))))

    whole : m * p ≡ p ^ suc k
    whole = sym (pow-suc p k)

    generator_fixed : power R α (p ^ (p ^ suc k)) ≡ α
    generator_fixed =
        ap (λ j. σ j α) (sym whole) ∙ steps p
        ∙ ap (R.add α) (ap (λ x. R.mul x (numeral R c)) characteristic ∙ zero-mul R (numeral R c)) ∙ add-zero R α

    generator_moves : power R α (p ^ (p ^ k)) ≡ α → ⊥
    generator_moves f =
        numeral_nonzero R p prime characteristic F.one-ne-zero c s.positive s.below
        (add_left_cancel R α (numeral R c) R.zero (sym step ∙ f ∙ sym (add-zero R α)))

    abbrev next : A
    next = R.mul a (power R α (p - 1))

    -- σ^(m·i) takes a·α^(p − 1) to a·(α + i·c)^(p − 1)
    next_steps : (i : ℕ) → σ (m * i) next ≡ R.mul a (power R (R.add α (R.mul (numeral R i) (numeral R c))) (p - 1))
    next_steps i =
        power_product R a (power R α (p - 1)) (p ^ (m * i))
        ∙ ap₂ R.mul (period_multiple R p a m s.fixed i) (swap ∙ ap (λ x. power R x (p - 1)) (steps i))
      where
        swap : power R (power R α (p - 1)) (p ^ (m * i)) ≡ power R (σ (m * i) α) (p - 1)
        swap =
            let same : (p - 1) * p ^ (m * i) ≡ p ^ (m * i) * (p - 1) = omega arith in
            sym (power-mul R α (p - 1) (p ^ (m * i))) ∙ ap (power R α) same ∙ power-mul R α (p ^ (m * i)) (p - 1)

    -- the sum over i is −a
    inner : total R (λ i. σ (m * i) next) p ≡ R.neg a
    inner =
        total_equal R (λ i. σ (m * i) next) (λ i. R.mul a (power R (R.add α (R.mul (numeral R i) (numeral R c))) (p - 1))) p (λ i l. next_steps i)
        ∙ total_mul R a (λ i. power R (R.add α (R.mul (numeral R i) (numeral R c))) (p - 1)) p
        ∙ ap (R.mul a) (power_sum F p prime characteristic (numeral R c) (numeral_root F p prime characteristic c s.positive s.below) α)
        ∙ mul_neg R a R.one ∙ ap R.neg (mul-one R a)

    -- σ^(i + m·j) = σ^i after σ^(m·j), and σ^i preserves sums
    outer : (i : ℕ) → total R (λ j. σ (i + m * j) next) p ≡ R.mul (R.neg R.one) (σ i a)
    outer i =
        total_equal R (λ j. σ (i + m * j) next) (λ j. σ i (σ (m * j) next)) p (λ j l. let swap : i + m * j ≡ m * j + i = omega arith in ap (λ x. σ x next) swap ∙ power-power R p next (m * j) i)
        ∙ sym (total_image R (σ i) (frobenius_power_zero i) (λ x y. frobenius_power-add R p prime characteristic x y i) (λ j. σ (m * j) next) p)
        ∙ ap (σ i) (inner ∙ ap R.neg (sym (one-mul R a)) ∙ sym (neg_mul R R.one a)) ∙ power_product R (R.neg R.one) a (p ^ i) ∙ ap (λ x. R.mul x (σ i a)) (minus_one i)

    next_summed : Summed (suc k) next
    next_summed =
        record {
          fixed = ap (λ j. σ j next) (sym whole) ∙ next_steps p
              ∙ ap (λ x. R.mul a (power R x (p - 1))) (ap (R.add α) (ap (λ x. R.mul x (numeral R c)) characteristic ∙ zero-mul R (numeral R c)) ∙ add-zero R α);
          c = p - c;
          positive = omega (arith, s.below);
          below = omega (arith, s.positive, s.below);
          sum_is = ap (λ j. trace R p j next) (sym whole) ∙ total_product R (λ i. σ i next) m p
              ∙ total_equal R (λ i. total R (λ j. σ (i + m * j) next) p) (λ i. R.mul (R.neg R.one) (σ i a)) m (λ i l. outer i)
              ∙ total_mul R (R.neg R.one) (λ i. σ i a) m ∙ ap (R.mul (R.neg R.one)) s.sum_is
              ∙ neg_mul R R.one (numeral R c) ∙ ap R.neg (one-mul R (numeral R c)) ∙ negative c s.below;
        }

  -- the a of the next round
  tower_summed : (k : ℕ) (a α : A) → Tower R p k a α → Summed k (R.mul a (power R α (p - 1)))
  tower_summed zero a α (ea, eα) =
      let one : R.mul a (power R α (p - 1)) ≡ R.one = ap₂ (λ x y. R.mul x (power R y (p - 1))) ea eα ∙ one-mul R (power R R.one (p - 1)) ∙ power_of_one R (p - 1) in
      let single : trace R p (p ^ 0) R.one ≡ numeral R 1 = ap (λ m. trace R p m R.one) (pow-zero p) ∙ total-suc R (λ i. σ i R.one) 0
      ∙ ap₂ R.add (total-zero R (λ i. σ i R.one)) (power_of_one R (p ^ 0)) ∙ zero-add R R.one ∙ sym (numeral-one R) in
      subst (Summed 0) (sym one) record { fixed = power_of_one R (p ^ (p ^ 0)); c = 1; positive = omega arith; below = prime.0; sum_is = single }
  tower_summed (suc k) a α (b, β, t, ea, e) = next_summed k a α (subst (Summed k) (sym ea) (tower_summed k b β t)) e

  -- σ^d moves α for 0 < d < p^k, and σ^(p^k) does not
  module _ (k : ℕ) (a α : A) (t : Tower R p (suc k) a α) where
    before : Summed k a
    before = let (b, β, t', ea, _) = t in subst (Summed k) (sym ea) (tower_summed k b β t')

    equation : power R α p ≡ R.add α a
    equation = let (_, _, _, _, e) = t in e

    pub tower_fixed : power R α (p ^ (p ^ suc k)) ≡ α
    tower_fixed = generator_fixed k a α before equation

    pub tower_moves : (d : ℕ) → 0 < d → d < p ^ suc k → power R α (p ^ d) ≡ α → ⊥
    tower_moves = period_of_prime_power R p prime α k tower_fixed (generator_moves k a α before equation)

  -- where r is a multiple of p, the first p^k·r conjugates of the a of the next round add up to 0
  pub tower_trace : (k : ℕ) (a α : A) → Tower R p k a α → (r : ℕ) → trace R p (p ^ k * (p * r)) (R.mul a (power R α (p - 1))) ≡ R.zero
  tower_trace k a α t r =
      let s : Summed k (R.mul a (power R α (p - 1))) = tower_summed k a α t in
      trace_multiple R p prime characteristic (R.mul a (power R α (p - 1))) (p ^ k) s.fixed (p * r)
      ∙ ap (λ x. R.mul x (trace R p (p ^ k) (R.mul a (power R α (p - 1))))) (vanishes r) ∙ zero-mul R (trace R p (p ^ k) (R.mul a (power R α (p - 1))))
