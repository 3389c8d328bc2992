-- The loops of `unity`: the powers of w are compared with 1 from the first on; the numbers g are tried from s on, modulo p; the smallest of
-- the powers of w that have order n is smallest.
--   Lower p n w x m        x = w^m, and no w^k with 1 ≤ k < m is 1
--   Generates p n g        g^((p − 1)/n) has order n
--   NoneBefore s p n g w        s ≤ g < s + p, w = g^((p − 1)/n), and no j with s ≤ j < g has a power j^((p − 1)/n) of order n
--   SmallestOfPowers p n w least x k   x = w^k, and `least` is the smallest of w, w², …, w^k that has order n
use mathlib.Core.Path.{◌≡◌, sym, ap, subst, ◌∙◌}
use mathlib.Core.Bool.{Bool, true, false, not, false≢true}
use Prim.Native.Nat.{ℕ, ◌+◌, ◌-◌, ◌*◌, ◌/◌, ◌%◌, ◌^◌, ◌≤◌, ◌<◌}
use native.Mathlib.Nat.{mod-eq_of_lt, mod-lt, mod-add-mod, add-mod-mod, add-mod_right, pow-zero, pow-succ', pow-suc}
use native.Mathlib.Numerals.{add-one}
use native.Mathlib.Omega.{arith}
use lib.Dec.{eqb}
use borrow.Author.Count.{below_more}
use borrow.Author.Tests.{eqb-true, eqb-false, not-true, not-false}
use Rattle.algebra.proofs.Modulo.{mod-mul-mod}
use Rattle.roots.specs.Roots.{zeta, Admissible, OrderModulo}
use Rattle.algebra.specs.Search.{Decides}
use Rattle.algebra.proofs.NumberScan.{Searched, searched_turn, Minimal, minimal_start, minimal_next}
use Rattle.algebra.proofs.Smallest.{smallest_unique}
use Rattle.roots.proofs.Zeta.{zeta_is, order_positive}
use Rattle.roots.proofs.RootsOfUnity.{unity_is_power, generator_exists}

power_first : (p w : ℕ) → w < p → w ≡ w ^ 1 % p
power_first p w l = sym (mod-eq_of_lt l) ∙ ap (λ x. x % p) (sym (pow-succ' w 0 ∙ ap (λ x. w * x) (pow-zero w) ∙ omega arith))

power_next : (p w m x y : ℕ) → x ≡ w ^ m % p → y ≡ x * w % p → y ≡ w ^ (m + 1) % p
power_next p w m x y ex ey =
    ey ∙ ap (λ k. k * w % p) ex ∙ mod-mul-mod (w ^ m) p w ∙ ap (λ k. k % p) (sym (pow-suc w m)) ∙ ap (λ k. w ^ k % p) (sym (add-one m))

pub record Lower (p n w x m : ℕ) : Type 0 where
  pub from : 1 ≤ m
  pub to : m ≤ n
  pub power_is : x ≡ w ^ m % p
  pub small : x < p
  pub others : (k : ℕ) → k < m → 1 ≤ k → w ^ k % p ≡ 1 → ⊥

module _ (p n w : ℕ) where
  pub lower_start : 1 ≤ n → w < p → Lower p n w w 1
  lower_start pos l = record { from = omega arith; to = pos; power_is = power_first p w l; small = l; others = λ k high low. absurd (omega arith) }

  module _ (x m : ℕ) (l : Lower p n w x m) where
    -- no power up to w^m is 1
    pub lower_turn : (y : ℕ) → m < n → (x ≡ 1 → ⊥) → y ≡ x * w % p → y < p → Lower p n w y (m + 1)
    lower_turn y more apart e small =
        record {
          from = omega arith;
          to = omega arith;
          power_is = power_next p w m x y l.power_is e;
          small = small;
          others = below_more (λ k. 1 ≤ k → w ^ k % p ≡ 1 → ⊥) m l.others (λ _ f. apart (l.power_is ∙ f));
        }

    pub lower_found : m < n → x ≡ 1 → Decides false (OrderModulo p n w)
    lower_found less e = record { if_true = λ f. absurd (false≢true f); if_false = λ _ o. o.1 m l.from less (sym l.power_is ∙ e) }

    pub lower_end : n ≤ m → Decides (eqb x 1) (OrderModulo p n w)
    lower_end h =
        let same : m ≡ n = omega (arith, l.to) in
        let value : w ^ n % p ≡ x = ap (λ j. w ^ j % p) (sym same) ∙ sym l.power_is in
        record {
          if_true = λ t. (value ∙ eqb-true x 1 t, λ k low high. l.others k (omega arith) low);
          if_false = λ f o. eqb-false x 1 f (sym value ∙ o.0);
        }

abbrev Generates : ℕ → ℕ → ℕ → Type 0
Generates p n g = OrderModulo p n ((g % p) ^ ((p - 1) / n) % p)

pub record NoneBefore (s p n g w : ℕ) : Type 0 where
  pub searched : Searched (Generates p n) s (s + p) g
  pub power_is : w ≡ (g % p) ^ ((p - 1) / n) % p
  pub small : w < p

-- every residue j is one of s, s + 1, …, s + p − 1 modulo p
comes : (p s j : ℕ) → j < p → (s + (j + (p - s % p)) % p) % p ≡ j
comes p s j l =
    let r : s % p < p = mod-lt s (omega arith) in
    let e : s % p + (j + (p - s % p)) ≡ j + p = omega arith in
    add-mod-mod s (j + (p - s % p)) p ∙ sym (mod-add-mod s p (j + (p - s % p))) ∙ ap (λ x. x % p) e ∙ add-mod_right j p ∙ mod-eq_of_lt l

pub base_fits : (p n g : ℕ) → Admissible p n → g % p ≤ 1048576
base_fits p n g h =
    let l : g % p < p = mod-lt g (omega (arith, h.prime.0)) in
    omega (arith, h.small)

module _ (s p n : ℕ) (h : Admissible p n) where
  pub none_before_start : (w : ℕ) → w ≡ (s % p) ^ ((p - 1) / n) % p → w < p → NoneBefore s p n s w
  none_before_start w e l =
      record {
        searched = record { from = omega arith; to = omega (arith, h.prime.0); others = λ j high low. absurd (omega arith) };
        power_is = e;
        small = l;
      }

  module _ (g w : ℕ) (t : NoneBefore s p n g w) (r : Bool) (answer : Decides r (OrderModulo p n w)) where
    -- some number is still to come
    pub none_before_turn : not r ≡ true → (w' : ℕ) → w' ≡ ((g + 1) % p) ^ ((p - 1) / n) % p → w' < p → NoneBefore s p n (g + 1) w'
    none_before_turn no_order w' e l =
        let (j, low, high, o) = generator_exists h in
        let within : (j + (p - s % p)) % p < p = mod-lt (j + (p - s % p)) (omega arith) in
        record {
          searched =
              searched_turn (Generates p n) s (s + p) g (s + (j + (p - s % p)) % p) (omega arith) (omega arith)
              (subst (λ x. OrderModulo p n (x ^ ((p - 1) / n) % p)) (sym (comes p s j high)) o) t.searched
              (λ k. answer.if_false (not-true r no_order) (subst (OrderModulo p n) (sym t.power_is) k));
          power_is = e;
          small = l;
        }

    pub none_before_end : not r ≡ false → OrderModulo p n w
    none_before_end order = answer.if_true (not-false r order)

pub record SmallestOfPowers (p n w least x k : ℕ) : Type 0 where
  pub from : 1 ≤ k
  pub to : k ≤ n
  pub base_small : w < p
  pub base_order : OrderModulo p n w
  pub power_is : x ≡ w ^ k % p
  pub small : x < p
  pub least_small : least < p
  pub minimal : Minimal (OrderModulo p n) (λ j. w ^ j % p) 1 (k + 1) least

module _ (p n w : ℕ) where
  pub smallest_start : 1 ≤ n → w < p → OrderModulo p n w → SmallestOfPowers p n w w w 1
  smallest_start pos l o =
      record {
        from = omega arith;
        to = pos;
        base_small = l;
        base_order = o;
        power_is = power_first p w l;
        small = l;
        least_small = l;
        minimal = minimal_start (OrderModulo p n) (λ j. w ^ j % p) 1 w (power_first p w l) o;
      }

  module _ (least x k : ℕ) (smallest : SmallestOfPowers p n w least x k) where
    module _ (y : ℕ) (more : k < n) (step : y ≡ x * w % p) (small : y < p) where
      -- the next power is y, and `next` is the smallest so far
      smallest_next : (next : ℕ) → next < p → OrderModulo p n next → next ≤ least → (OrderModulo p n y → next ≤ y) → SmallestOfPowers p n w next y (k + 1)
      smallest_next next l o smaller last =
          record {
            from = omega arith;
            to = omega arith;
            base_small = smallest.base_small;
            base_order = smallest.base_order;
            power_is = value;
            small = small;
            least_small = l;
            minimal = minimal_next (OrderModulo p n) (λ j. w ^ j % p) 1 (k + 1) least next smallest.minimal o smaller (subst (λ v. OrderModulo p n v → next ≤ v) value last);
          }
        where
          value : y ≡ w ^ (k + 1) % p
          value = power_next p w k x y smallest.power_is step

      smallest_same : (next : ℕ) → next ≡ least → (OrderModulo p n y → least ≤ y) → SmallestOfPowers p n w next y (k + 1)
      smallest_same next e last = rw e (smallest_next least smallest.least_small smallest.minimal.has (omega arith) last)

      pub smallest_above : (next : ℕ) → next ≡ least → least ≤ y → SmallestOfPowers p n w next y (k + 1)
      smallest_above next e h = smallest_same next e (λ _. h)

      module _ (less : y < least) (r : Bool) (answer : Decides r (OrderModulo p n y)) where
        pub smallest_lower : (next : ℕ) → next ≡ y → r ≡ true → SmallestOfPowers p n w next y (k + 1)
        smallest_lower next e t = rw e (smallest_next y small (answer.if_true t) (omega arith) (λ _. omega arith))

        pub smallest_other : (next : ℕ) → next ≡ least → r ≡ false → SmallestOfPowers p n w next y (k + 1)
        smallest_other next e f = smallest_same next e (λ o. absurd (answer.if_false f o))

    -- every element of order n is one of the powers w, w², …, w^n
    pub smallest_end : Admissible p n → n ≤ k → least ≡ zeta p n
    smallest_end h all =
        smallest_unique (OrderModulo p n) p least (zeta p n) (positive, smallest.least_small, smallest.minimal.has, none)
        (zeta_is p n h.prime h.low h.high h.divides)
      where
        positive : 1 ≤ least
        positive = order_positive p n h.prime h.low least smallest.minimal.has

        none : (j : ℕ) → 1 ≤ j → j < least → OrderModulo p n j → ⊥
        none j low less o =
            let (i, from, to, e) = unity_is_power h w j smallest.base_small smallest.base_order (omega (arith, smallest.least_small)) o.0 in
            let l : least ≤ w ^ i % p = smallest.minimal.below i (omega arith) from (subst (OrderModulo p n) e o) in
            omega arith
