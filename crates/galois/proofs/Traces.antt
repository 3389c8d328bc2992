-- Sums of conjugates in a commutative ring with p·1 = 0, trace m u = u + u^p + … + u^(p^(m − 1)).
--   trace R p m u         this sum
--   shifted               if α^p = α + a, then α^(p^m) = α + trace m a
--   trace_multiple        if u^(p^m) = u, then trace (m·r) u = r·trace m u
--   trace_of_difference   if u^(p^m) = u, then trace m (u^p − u) = 0
use mathlib.Core.Path.{◌≡◌, sym, ap, ap₂, ◌∙◌}
use Prim.Native.Nat.{ℕ, zero, suc, ◌+◌, ◌*◌, ◌^◌}
use native.Mathlib.Nat.{pow-zero, pow-succ'}
use native.Mathlib.Omega.{arith}
use Rattle.algebra.specs.Prime.{Prime}
use Rattle.algebra.specs.Ring.{CommutativeRing, numeral, power}
use Rattle.algebra.proofs.Frobenius.{frobenius_power-add, frobenius_numeral}
use Rattle.algebra.proofs.Period.{power-power, period_multiple}
use Rattle.algebra.proofs.RingLaws.{add_assoc, add_comm, add_left_cancel, add-zero, power-mul, power-one}
use Rattle.algebra.proofs.Totals.{total, total-zero, total-suc, total_equal, total_add, total_mul, total_constant, total_shift, total_product}

abbrev pub trace : {A : Type 0} → CommutativeRing A → ℕ → ℕ → A → A
trace R p m u = total R (λ i. power R u (p ^ i)) m

module _ {A : Type 0} (R : CommutativeRing A) (p : ℕ) (prime : Prime p) (characteristic : numeral R p ≡ R.zero) where
  abbrev conjugate : ℕ → A → A
  conjugate m u = power R u (p ^ m)

  pub conjugate-zero : (u : A) → conjugate 0 u ≡ u
  conjugate-zero u = ap (power R u) (pow-zero p) ∙ power-one R u

  -- u^(p^(m + 1)) = (u^p)^(p^m)
  conjugate-suc : (m : ℕ) (u : A) → conjugate (suc m) u ≡ conjugate m (power R u p)
  conjugate-suc m u = ap (power R u) (pow-succ' p m) ∙ power-mul R u p (p ^ m)

  pub conjugate-numeral : (m c : ℕ) → conjugate m (numeral R c) ≡ numeral R c
  conjugate-numeral zero c = conjugate-zero (numeral R c)
  conjugate-numeral (suc m) c = conjugate-suc m (numeral R c) ∙ ap (conjugate m) (frobenius_numeral R p prime characteristic c) ∙ conjugate-numeral m c

  pub shifted : (α a : A) → power R α p ≡ R.add α a → (m : ℕ) → conjugate m α ≡ R.add α (trace R p m a)
  shifted α a e zero = conjugate-zero α ∙ sym (ap (R.add α) (total-zero R (λ i. conjugate i a)) ∙ add-zero R α)
  shifted α a e (suc m) =
      conjugate-suc m α ∙ ap (conjugate m) e ∙ frobenius_power-add R p prime characteristic α a m ∙ ap (λ x. R.add x (conjugate m a)) (shifted α a e m)
      ∙ add_assoc R α (trace R p m a) (conjugate m a) ∙ ap (R.add α) (sym (total-suc R (λ i. conjugate i a) m))

  pub trace_multiple : (u : A) (m : ℕ) → conjugate m u ≡ u → (r : ℕ) → trace R p (m * r) u ≡ R.mul (numeral R r) (trace R p m u)
  trace_multiple u m fixed r =
      total_product R (λ i. conjugate i u) m r
      ∙ total_equal R (λ i. total R (λ j. conjugate (i + m * j) u) r) (λ i. R.mul (numeral R r) (conjugate i u)) m
      (λ i l. total_equal R (λ j. conjugate (i + m * j) u) (λ j. conjugate i u) r (λ j k. around i j) ∙ total_constant R (conjugate i u) r)
      ∙ total_mul R (numeral R r) (λ i. conjugate i u) m
    where
      around : (i j : ℕ) → conjugate (i + m * j) u ≡ conjugate i u
      around i j =
          let swap : i + m * j ≡ m * j + i = omega arith in
          ap (λ e. conjugate e u) swap ∙ power-power R p u (m * j) i ∙ ap (conjugate i) (period_multiple R p u m fixed j)

  trace-add : (k : ℕ) (u v : A) → trace R p k (R.add u v) ≡ R.add (trace R p k u) (trace R p k v)
  trace-add k u v =
      total_equal R (λ i. power R (R.add u v) (p ^ i)) (λ i. R.add (power R u (p ^ i)) (power R v (p ^ i))) k (λ i l. frobenius_power-add R p prime characteristic u v i)
      ∙ total_add R (λ i. power R u (p ^ i)) (λ i. power R v (p ^ i)) k

  -- the powers of v^p are those of v in another order
  trace-power : (k : ℕ) (v : A) → power R v (p ^ k) ≡ v → trace R p k (power R v p) ≡ trace R p k v
  trace-power k v period =
      let f : ℕ → A = λ i. power R v (p ^ i) in
      let start : f 0 ≡ v = ap (power R v) (pow-zero p) ∙ power-one R v in
      add_left_cancel R v (trace R p k (power R v p)) (trace R p k v)
      (ap₂ R.add (sym start) (total_equal R (λ i. power R (power R v p) (p ^ i)) (λ i. f (suc i)) k (λ i l. sym (ap (power R v) (pow-succ' p i) ∙ power-mul R v p (p ^ i))))
      ∙ total_shift R f k ∙ total-suc R f k ∙ ap (R.add (trace R p k v)) period ∙ add_comm R (trace R p k v) v)

  -- the trace of v^p − v
  pub trace_of_difference : (k : ℕ) (v w : A) → power R v (p ^ k) ≡ v → power R v p ≡ R.add v w → trace R p k w ≡ R.zero
  trace_of_difference k v w period e =
      add_left_cancel R (trace R p k v) (trace R p k w) R.zero
      (sym (trace-add k v w) ∙ ap (trace R p k) (sym e) ∙ trace-power k v period ∙ sym (add-zero R (trace R p k v)))
