-- a exists: u^((p − 1)/n) = z is solvable where z^n = 1, and the search finds the smallest u. Two numbers with the same power z differ by an
-- n-th power.
--   IsRadicand p n z k            k^((p − 1)/n) = z modulo p
--   RadicandScan p n z d c a w    no number from 1 to a − 1 has the power z, w is the power of a, and the table c is right
use mathlib.Core.Path.{◌≡◌, sym, ap, ◌∙◌}
use mathlib.Core.Bool.{true}
use mathlib.Core.List.{List}
use Prim.Native.Nat.{ℕ, zero, suc, ◌+◌, ◌-◌, ◌/◌, ◌%◌, ◌^◌, ◌<◌}
use native.Mathlib.Nat.{div-add-mod', mod-eq_of_lt, mul-one, pow-zero, pow-suc}
use native.Mathlib.Omega.{arith}
use lib.Dec.{eqb}
use lib.ListN.{replicate}
use borrow.Author.Tests.{eqb-true, eq-eqb}
use Rattle.algebra.specs.Search.{Smallest}
use Rattle.algebra.proofs.NumberScan.{Searched, searched_turn}
use Rattle.algebra.proofs.Smallest.{first_is_smallest, smallest_unique}
use Rattle.modular.specs.declared.barrett.Barrett.{Barrett}
use Rattle.character.specs.Table.{Table}
use Rattle.character.proofs.Empty.{table_empty}
use Rattle.roots.specs.Roots.{radicand, Admissible, OrderModulo, Radicand, Solvable}
use Rattle.roots.proofs.RootOfRatio.{root_of_ratio_is}
use Rattle.roots.proofs.RootsOfUnity.{radicand_exists}

abbrev pub IsRadicand : ℕ → ℕ → ℕ → ℕ → Type 0
IsRadicand p n z k = k ^ ((p - 1) / n) % p ≡ z

module _ (p n z : ℕ) (h : Admissible p n) (below : z < p) (order : OrderModulo p n z) where
  pub radicand_is : Smallest (IsRadicand p n z) p (radicand p n z)
  unfolding radicand
  radicand_is =
      let (u, low, high, value) = radicand_exists h z below order in
      first_is_smallest (λ k. eqb (k ^ ((p - 1) / n) % p) z) (IsRadicand p n z) p (λ k. eqb-true (k ^ ((p - 1) / n) % p) z) (λ k. eq-eqb (k ^ ((p - 1) / n) % p) z) u low high value

-- the scan

one_power : (k : ℕ) → 1 ^ k ≡ 1
one_power zero = pow-zero 1
one_power (suc k) = pow-suc 1 k ∙ mul-one (1 ^ k) ∙ one_power k

pub record RadicandScan (p n z : ℕ) (d : Barrett) (c : List ℕ) (a w : ℕ) : Type 0 where
  pub modulus : d.p ≡ p
  pub table : Table d.p ((p - 1) / n) c
  pub searched : Searched (IsRadicand p n z) 1 p a
  pub power_is : w ≡ a ^ ((p - 1) / n) % p

module _ (p n z : ℕ) (h : Admissible p n) (below : z < p) (order : OrderModulo p n z) where
  pub scan_start : (d : Barrett) → d.p ≡ p → RadicandScan p n z d (replicate 128 0) 1 1
  scan_start d e =
      record {
        modulus = e;
        table = table_empty d.p ((p - 1) / n) (omega (arith, d.reduces.big));
        searched = record { from = omega arith; to = omega (arith, h.prime.0); others = λ j high low. absurd (omega arith) };
        power_is = sym (ap (λ x. x % p) (one_power ((p - 1) / n)) ∙ mod-eq_of_lt h.prime.0);
      }

  module _ (d : Barrett) (c : List ℕ) (a w : ℕ) (s : RadicandScan p n z d c a w) where
    -- some number is still to come
    ahead : (w ≡ z → ⊥) → Searched (IsRadicand p n z) 1 p (a + 1)
    ahead other =
        let (u, low, high, e) = radicand_exists h z below order in
        searched_turn (IsRadicand p n z) 1 p a u low high e s.searched (λ k. other (s.power_is ∙ k))

    pub scan_within : (w ≡ z → ⊥) → a + 1 < d.p
    scan_within other = omega (arith, (ahead other).to, s.modulus)

    pub scan_turn : (w ≡ z → ⊥) → (c' : List ℕ) (v : ℕ) → Table d.p ((p - 1) / n) c' → v ≡ (a + 1) ^ ((p - 1) / n) % d.p → RadicandScan p n z d c' (a + 1) v
    scan_turn other c' v t e =
        record {
          modulus = s.modulus;
          table = t;
          searched = ahead other;
          power_is = e ∙ ap (λ q. (a + 1) ^ ((p - 1) / n) % q) s.modulus;
        }

    pub scan_found : w ≡ z → Radicand p n z a
    scan_found e = record { positive = omega (arith, s.searched.from); below = s.searched.to; power_is = sym s.power_is ∙ e }

    pub scan_end : w ≡ z → a ≡ radicand p n z
    scan_end e =
        smallest_unique (IsRadicand p n z) p a (radicand p n z)
        (s.searched.from, s.searched.to, sym s.power_is ∙ e, λ j low less. s.searched.others j less low) (radicand_is p n z h below order)

-- the test
pub power_test : (p n z a w : ℕ) → w ≡ a ^ ((p - 1) / n) % p → eqb w z ≡ true → a ^ ((p - 1) / n) % p ≡ z
power_test p n z a w e h = sym e ∙ eqb-true w z h

-- a1/a2 is an n-th power
pub radicands_solvable : (p n z a1 a2 : ℕ) → Admissible p n → Radicand p n z a1 → Radicand p n z a2 → Solvable p n a1 a2
radicands_solvable p n z a1 a2 h r1 r2 =
    record {
      positive1 = r1.positive;
      positive2 = r2.positive;
      below1 = r1.below;
      below2 = r2.below;
      smallest =
          root_of_ratio_is p n ((p - 1) / n) h.prime h.low (omega (arith, div-add-mod' (p - 1) n, h.divides)) a1 a2 r1.positive r1.below r2.positive r2.below
          (r1.power_is ∙ sym r2.power_is);
    }
