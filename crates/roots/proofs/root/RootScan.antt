-- The loops of `root`: the bounds of the numbers from which a candidate is made, the scan for a solution of c^n·a2 = a1, and the least of the
-- multiples of a solution by the powers of ζ.
--   Least p n z a1 a2 y least x k   x = y·z^(k − 1) and `least`, the smallest of the y·z^j with j < k, are solutions
use mathlib.Core.Path.{◌≡◌, refl, sym, ap, subst, ◌∙◌}
use mathlib.Core.Bool.{Bool, true, false, not}
use Prim.Native.Nat.{ℕ, ◌+◌, ◌-◌, ◌*◌, ◌/◌, ◌%◌, ◌^◌, ◌≤◌, ◌<◌}
use native.Mathlib.Nat.{mul-le-mul, mod-eq_of_lt, pow-zero, pow-suc, div-lt_self, div-le_self, div-add-mod', pos_of_ne-zero, mul-one, mul_assoc}
use native.Mathlib.Numerals.{add-one}
use native.Mathlib.Omega.{arith}
use lib.Dec.{eqb, ltb}
use borrow.Author.Tests.{ltb-true, eqb-true, eqb-false, not-true, not-false}
use mir.Syntax.{w64}
use mir.Val.{Fits}
use Rattle.algebra.proofs.Modulo.{mod-mul-mod}
use Rattle.roots.specs.Roots.{root_of_ratio, Admissible, OrderModulo, Solvable}
use Rattle.roots.proofs.RootOfRatio.{root_of_ratio_positive}
use Rattle.roots.proofs.RootsOfUnity.{Solution, root_of_ratio_times, root_of_ratio_is_multiple}
use Rattle.algebra.proofs.NumberScan.{Searched, searched_turn, Minimal, minimal_start, minimal_next}
use Rattle.algebra.proofs.Smallest.{smallest_unique}

-- r / q for a divisor q of r
pub quotient_positive : (r q : ℕ) → 1 ≤ r → eqb (r % q) 0 ≡ true → 1 ≤ r / q
quotient_positive r q pos h =
    let e : r % q ≡ 0 = eqb-true (r % q) 0 h in
    pos_of_ne-zero (λ z. let f : 0 * q + 0 ≡ r = ap (λ x. x * q + 0) (sym z) ∙ ap (λ x. r / q * q + x) (sym e) ∙ div-add-mod' r q in omega arith)

pub quotient_less : (r q b : ℕ) → 1 ≤ r → 2 ≤ q → r / q + b < r + b
quotient_less r q b pos big = let l : r / q < r = div-lt_self pos big in omega arith

pub quotient_falls : (r q b : ℕ) → ltb 1 r ≡ true → 2 ≤ q → r / q + b < r + b
quotient_falls r q b pos big = quotient_less r q b (omega (arith, ltb-true 1 r pos)) big

pub quotient_small : (r q m : ℕ) → r ≤ m → r / q ≤ m
quotient_small r q m l = omega (arith, div-le_self r q)

pub exponent_fits : (n d q : ℕ) → n ≤ 16 → d ≤ 1048576 → Fits w64 (n * (d / q))
exponent_fits n d q low small =
    let l : n * (d / q) ≤ 16 * 1048576 = mul-le-mul low (quotient_small d q 1048576 small) in
    record { fits = omega arith }

module _ (p n : ℕ) (h : Admissible p n) where
  -- (p − 1)/n
  pub index_positive : 1 ≤ (p - 1) / n
  index_positive =
      pos_of_ne-zero (λ z. let f : 0 * n + 0 ≡ p - 1 = ap (λ x. x * n + 0) (sym z) ∙ ap (λ x. (p - 1) / n * n + x) (sym h.divides) ∙ div-add-mod' (p - 1) n in omega (arith, h.prime.0))

  pub index_small : (p - 1) / n ≤ 1048576
  index_small = omega (arith, div-le_self (p - 1) n, h.small)

  pub index_part_small : (m : ℕ) → (p - 1) / n / m ≤ 1048576
  index_part_small m = quotient_small ((p - 1) / n) m 1048576 index_small

pub solves_test : (p n a1 a2 c x y : ℕ) → x ≡ c ^ n % p → y ≡ x * a2 % p → eqb y a1 ≡ eqb (c ^ n * a2 % p) a1
solves_test p n a1 a2 c x y ex ey = ap (λ k. eqb k a1) (ey ∙ ap (λ k. k * a2 % p) ex ∙ mod-mul-mod (c ^ n) p a2)

module _ (p n a1 a2 c : ℕ) (r : Bool) (answer : r ≡ eqb (c ^ n * a2 % p) a1) where
  pub scan_turn : Solvable p n a1 a2 → Searched (Solution p n a1 a2) 1 p c → not r ≡ true → Searched (Solution p n a1 a2) 1 p (c + 1)
  scan_turn h s e =
      let (low, high, solution, _) = h.smallest in
      searched_turn (Solution p n a1 a2) 1 p c (root_of_ratio p n a1 a2) low high solution s (eqb-false (c ^ n * a2 % p) a1 (sym answer ∙ not-true r e))

  pub scan_end : not r ≡ false → Solution p n a1 a2 c
  scan_end e = eqb-true (c ^ n * a2 % p) a1 (sym answer ∙ not-false r e)

  pub candidate_solves : r ≡ true → Solution p n a1 a2 c
  candidate_solves e = eqb-true (c ^ n * a2 % p) a1 (sym answer ∙ e)

pub record Least (p n z a1 a2 y least x k : ℕ) : Type 0 where
  pub from : 1 ≤ k
  pub to : k ≤ n
  pub base_small : y < p
  pub base_solves : Solution p n a1 a2 y
  pub small : x < p
  pub solves : Solution p n a1 a2 x
  pub next_is : x * z % p ≡ y * z ^ k % p
  pub least_small : least < p
  pub minimal : Minimal (Solution p n a1 a2) (λ j. y * z ^ j % p) 0 k least

module _ (p n z a1 a2 : ℕ) where
  multiple-one : (y : ℕ) → y < p → y ≡ y * z ^ 0 % p
  multiple-one y l = sym (mod-eq_of_lt l) ∙ ap (λ x. x % p) (sym (ap (λ x. y * x) (pow-zero z) ∙ mul-one y))

  next_power : (y k v : ℕ) → v ≡ y * z ^ k % p → v * z % p ≡ y * z ^ (k + 1) % p
  next_power y k v e =
      ap (λ x. x * z % p) e ∙ mod-mul-mod (y * z ^ k) p z ∙ ap (λ x. x % p) (mul_assoc y (z ^ k) z ∙ ap (λ x. y * x) (sym (pow-suc z k) ∙ ap (λ i. z ^ i) (sym (add-one k))))

  pub least_start : (y : ℕ) → 1 ≤ n → y < p → Solution p n a1 a2 y → Least p n z a1 a2 y y y 1
  least_start y pos l e =
      record {
        from = omega arith;
        to = pos;
        base_small = l;
        base_solves = e;
        small = l;
        solves = e;
        next_is = ap (λ x. x * z % p) (multiple-one y l) ∙ next_power y 0 (y * z ^ 0 % p) refl;
        least_small = l;
        minimal = minimal_start (Solution p n a1 a2) (λ j. y * z ^ j % p) 0 y (multiple-one y l) e;
      }

  module _ (y least x k : ℕ) (l : Least p n z a1 a2 y least x k) (h : Admissible p n) (s : Solvable p n a1 a2) (small_z : z < p) (order : OrderModulo p n z) where
    module _ (v : ℕ) (more : k < n) (step : v ≡ x * z % p) (small : v < p) where
      v_solves : Solution p n a1 a2 v
      v_solves = ap (λ i. i ^ n * a2 % p) step ∙ root_of_ratio_times h a1 a2 s.positive1 s.below1 s.below2 z x small_z order.0 l.small l.solves

      -- the next multiple is v, and `next` is the smallest so far
      least_next : (next : ℕ) → next < p → Solution p n a1 a2 next → next ≤ least → next ≤ v → Least p n z a1 a2 y next v (k + 1)
      least_next next below solves smaller last =
          record {
            from = omega arith;
            to = omega arith;
            base_small = l.base_small;
            base_solves = l.base_solves;
            small = small;
            solves = v_solves;
            next_is = next_power y k v value;
            least_small = below;
            minimal = minimal_next (Solution p n a1 a2) (λ j. y * z ^ j % p) 0 k least next l.minimal solves smaller (λ _. subst (λ i. next ≤ i) value last);
          }
        where
          value : v ≡ y * z ^ k % p
          value = step ∙ l.next_is

      pub least_lower : (next : ℕ) → next ≡ v → v < least → Least p n z a1 a2 y next v (k + 1)
      least_lower next e g = rw e (least_next v small v_solves (omega arith) (omega arith))

      pub least_same : (next : ℕ) → next ≡ least → least ≤ v → Least p n z a1 a2 y next v (k + 1)
      least_same next e g = rw e (least_next least l.least_small l.minimal.has (omega arith) g)

    -- every solution is y·z^j for some j < n
    pub least_end : n ≤ k → least ≡ root_of_ratio p n a1 a2
    least_end all = smallest_unique (Solution p n a1 a2) p least (root_of_ratio p n a1 a2) (positive, l.least_small, l.minimal.has, none) s.smallest
      where
        positive : 1 ≤ least
        positive = root_of_ratio_positive p n a1 a2 h.low s.positive1 least l.minimal.has

        none : (j : ℕ) → 1 ≤ j → j < least → Solution p n a1 a2 j → ⊥
        none j low less f =
            let (i, to, e) = root_of_ratio_is_multiple h a1 a2 s.positive1 s.below1 s.below2 z y j small_z order l.base_small l.base_solves (omega (arith, l.least_small)) f in
            let g : least ≤ y * z ^ i % p = l.minimal.below i (omega arith) (omega arith) (subst (Solution p n a1 a2) e f) in
            omega arith
