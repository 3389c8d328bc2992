-- All n solutions c of c^n·b = a modulo p, from one solution y: the multiples y·z^j with j < n, for a z of order n. They are distinct solutions, and there is no other.
use mathlib.Core.Path.{◌≡◌, sym, ap, subst, ◌∙◌}
use Prim.Native.Nat.{ℕ, zero, suc, ◌*◌, ◌%◌, ◌^◌, ◌≤◌, ◌<◌}
use native.Mathlib.Nat.{mod-eq_of_lt, mod-lt, mul_assoc, mul-one, pow-zero, pow-suc}
use native.Mathlib.Omega.{arith}
use Rattle.algebra.specs.Ring.{power}
use Rattle.algebra.proofs.FieldLaws.{mul_left_cancel}
use Rattle.algebra.proofs.Modulo.{mod-mul-mod, mul-mod-mod}
use Rattle.algebra.proofs.Order.{powers_distinct}
use Rattle.modular.proofs.Field.{word_ring, word_field, below_equal, zero_value, mul_value, power_value}
use Rattle.roots.specs.Roots.{Admissible, OrderModulo, Solvable}
use Rattle.roots.proofs.RootOfRatio.{root_of_ratio_positive}
use Rattle.roots.proofs.RootsOfUnity.{Solution, has_order, root_of_ratio_times, root_of_ratio_is_multiple}

module _ {p n : ℕ} (h : Admissible p n) (a b : ℕ) (s : Solvable p n a b) (z : ℕ) (lz : z < p) (order : OrderModulo p n z) (y : ℕ) (ly : y < p) (ey : Solution p n a b y) where
  abbrev big : 2 ≤ p
  big = h.prime.0

  pub multiple_below : (j : ℕ) → y * z ^ j % p < p
  multiple_below j = mod-lt (y * z ^ j) (omega (arith, big))

  pub multiple_solves : (j : ℕ) → Solution p n a b (y * z ^ j % p)
  multiple_solves zero = subst (Solution p n a b) (sym (ap (λ x. x % p) (ap (λ x. y * x) (pow-zero z) ∙ mul-one y) ∙ mod-eq_of_lt ly)) ey
  multiple_solves (suc j) =
      subst (Solution p n a b) (mod-mul-mod (y * z ^ j) p z ∙ ap (λ x. x % p) (mul_assoc y (z ^ j) z ∙ ap (λ x. y * x) (sym (pow-suc z j))))
      (root_of_ratio_times h a b s.positive1 s.below1 s.below2 z (y * z ^ j % p) lz order.0 (multiple_below j) (multiple_solves j))

  pub multiple_positive : (j : ℕ) → 1 ≤ y * z ^ j % p
  multiple_positive j = root_of_ratio_positive p n a b h.low s.positive1 (y * z ^ j % p) (multiple_solves j)

  multiple_value : (j : ℕ) → ((word_ring p big).mul (y, ly) (power (word_ring p big) (z, lz) j)).0 ≡ y * z ^ j % p
  multiple_value j = mul_value p big (y, ly) (power (word_ring p big) (z, lz) j) ∙ ap (λ x. y * x % p) (power_value p big (z, lz) j) ∙ mul-mod-mod y (z ^ j) p

  pub multiples_distinct : (i j : ℕ) → i < n → j < n → y * z ^ i % p ≡ y * z ^ j % p → i ≡ j
  unfolding word_field
  multiples_distinct i j li lj e =
      powers_distinct (word_ring p big) (z, lz) n (has_order h (z, lz) order) i j li lj
      (mul_left_cancel (word_field p h.prime) (y, ly) (power (word_ring p big) (z, lz) i) (power (word_ring p big) (z, lz) j)
      (λ o. let none : y ≡ 0 = ap (λ x. x.0) o ∙ zero_value p big in omega (arith, root_of_ratio_positive p n a b h.low s.positive1 y ey))
      (below_equal p _ _ (multiple_value i ∙ e ∙ sym (multiple_value j))))

  pub solution_multiple : (c : ℕ) → c < p → Solution p n a b c → (j : ℕ) × (j < n) × (c ≡ y * z ^ j % p)
  solution_multiple c lc ec = root_of_ratio_is_multiple h a b s.positive1 s.below1 s.below2 z y c lz order ly ey lc ec
