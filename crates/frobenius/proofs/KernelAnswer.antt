-- What the functions of `eigenvector` answer. Where only 0 is in the kernel of u ↦ u^p − z·u, T has a proper divisor. Any other vector of the kernel,
-- normalised, is an eigenvector too, so T has no proper divisor exactly if its n-th power is a constant. Any vector whose n-th power is a constant with the power ζ is one.
use mathlib.Core.Path.{◌≡◌, sym, ap, subst, ◌∙◌}
use mathlib.Core.Bool.{Bool, true, false, not}
use mathlib.Core.List.{List}
use Prim.Native.Nat.{ℕ, ◌-◌, ◌/◌, ◌%◌, ◌^◌, ◌≤◌}
use Rattle.std.specs.Prelude.{Option, None, Some, MatchOption}
use lib.ListN.{get_or, take}
use lib.Seq.{get_or-take}
use borrow.Author.Tests.{not-true, not-false}
use Rattle.algebra.specs.Prime.{Prime}
use Rattle.modular.specs.Inverse.{inverse}
use Rattle.array.specs.Words.{Words}
use Rattle.quotient.specs.Residue.{scale, constant, power}
use Rattle.quotient.proofs.Operations.{power_words, scale_words}
use Rattle.array.specs.Array.{padded, Holds}
use Rattle.array.proofs.Padded.{front_is, holds_is, holds_word}
use Rattle.galois.specs.Eigenvector.{first_non_zero, Eigenvector, Normalised}
use Rattle.frobenius.specs.declared.eigenvector.Normalised.{Normalised as Answer}
use Rattle.frobenius.specs.Kernel.{TrivialKernel, Kernel, NoConstant, Divided, EigenvectorFound}
use Rattle.quotient.specs.DivisorTest.{has_divisor}
use Rattle.roots.specs.Roots.{Admissible, OrderModulo}
use Rattle.algebra.specs.Search.{Decides}
use Rattle.galois.proofs.ResidueEigenvector.{normalised_eigenvector}
use Rattle.galois.proofs.FirstNonZero.{normalised, first_non_zero-normalised}
use Rattle.galois.proofs.ResidueConstants.{constant_first}
use Rattle.galois.proofs.KernelDecides.{EigenvectorLaws, eigenvector_laws}

pub power_holds : (p n : ℕ) (t u w : List ℕ) → Prime p → Holds p n t → Holds p n u → w ≡ padded (power p (take n t) (take n u) n) → Holds p n w
power_holds p n t u w prime ht hu e = holds_is e (power_words prime.0 ht.words hu.words n)

-- a vector other than 0, divided by its first word that is not 0, and its n-th power

module _ (p n : ℕ) (t v : List ℕ) (prime : Prime p) (low : 1 ≤ n) (ht : Holds p n t) (hv : Holds p n v) (u : List ℕ)
    (eu : u ≡ padded (scale p (inverse p (first_non_zero (take n v))) (take n v))) where
  quotient_words : Words p n (scale p (inverse p (first_non_zero (take n v))) (take n v))
  quotient_words = scale_words (inverse p (first_non_zero (take n v))) hv.words

  pub quotient_holds : Holds p n u
  quotient_holds = holds_is eu quotient_words

  module _ (w : List ℕ) (ew : w ≡ padded (power p (take n t) (take n u) n)) where
    value_words : Words p n (power p (take n t) (take n u) n)
    value_words = power_words prime.0 ht.words quotient_holds.words n

    value : take n w ≡ power p (take n t) (take n u) n
    value = front_is ew value_words

    -- a constant is known by its first word
    only_constant : (b : ℕ) → power p (take n t) (take n u) n ≡ constant n b → take n w ≡ constant n (get_or w 0 0)
    only_constant b e = value ∙ e ∙ ap (constant n) (sym (constant_first n b low) ∙ ap (λ x. get_or x 0 0) (sym (value ∙ e)) ∙ get_or-take n w 0 0 low)

    module _ (f : Bool) (d : Decides f (take n w ≡ constant n (get_or w 0 0))) where
      pub divided_is : not f ≡ false → Divided p n (take n t) (take n v) u (get_or w 0 0)
      divided_is some =
          record {
            holds = quotient_holds;
            below = holds_word (power_holds p n t u w prime ht quotient_holds ew) 0 low;
            quotient_is = front_is eu quotient_words;
            power_is = sym value ∙ d.if_true (not-false f some);
          }

      pub no_constant : not f ≡ true → NoConstant p n (take n t) (take n v)
      no_constant none b e = d.if_false (not-true f none) (only_constant b (ap (λ x. power p (take n t) x n) (front_is eu quotient_words) ∙ e))

module _ (p n z : ℕ) (t : List ℕ) (h : Admissible p n) (order : OrderModulo p n z) (ht : Holds p n t) where
  abbrev T : List ℕ
  T = take n t

  laws : EigenvectorLaws p n
  laws = eigenvector_laws p h.prime n h.low

  pub none_trivial : TrivialKernel p n T z → has_divisor p T ≡ true
  none_trivial kernel = laws.trivial_kernel_decides T ht.words z order kernel

  found_by : (u : List ℕ) (b : ℕ) → Holds p n u → Normalised p n T z (take n u) b → EigenvectorFound p n T z u b
  found_by u b hu g = record { irreducible = laws.constant_decides T ht.words z order (take n u) g.eigenvector b g.power_is; holds = hu; normalised = g }

  module _ (v : List ℕ) (hv : Holds p n v) (other : take n v ≡ constant n 0 → ⊥) (u : List ℕ) (b : ℕ) (divided : Divided p n T (take n v) u b) where
    front : take n u ≡ normalised p (take n v)
    unfolding normalised
    front = divided.quotient_is

    first_is_one : first_non_zero (take n u) ≡ 1
    first_is_one = ap first_non_zero front ∙ first_non_zero-normalised h.prime hv.words other

    -- any vector whose n-th power has the power ζ
    pub root_found : b ^ ((p - 1) / n) % p ≡ z → EigenvectorFound p n T z u b
    root_found test =
        found_by u b divided.holds (laws.root_eigenvector h.divides T ht.words z (take n u) b record {
          words = divided.holds.words;
          first_non_zero_is = first_is_one;
          power_is = divided.power_is;
          eigenvalue_is = test;
        })

  -- a vector of the kernel
  module _ (v : List ℕ) (kernel : Kernel p n T z v) where
    eigenvector : Eigenvector p n T z (normalised p (take n v))
    eigenvector = normalised_eigenvector h.prime ht.words record { words = kernel.holds.words; not_zero = kernel.not_zero; power_is = kernel.power_is }

    none_other : NoConstant p n T (take n v) → has_divisor p T ≡ true
    unfolding normalised
    none_other none = laws.other_decides T ht.words z order (normalised p (take n v)) eigenvector none

    found : (u : List ℕ) (b : ℕ) → Divided p n T (take n v) u b → EigenvectorFound p n T z u b
    found u b divided =
        found_by u b divided.holds record {
          eigenvector = subst (Eigenvector p n T z) (sym (front v kernel.holds kernel.not_zero u b divided)) eigenvector;
          first_non_zero_is = first_is_one v kernel.holds kernel.not_zero u b divided;
          power_is = divided.power_is;
        }

    pub decided : (r : Option Answer) → MatchOption r (NoConstant p n T (take n v)) (λ u. Divided p n T (take n v) u.vector u.constant)
        → MatchOption r (has_divisor p T ≡ true) (λ u. EigenvectorFound p n T z u.vector u.constant)
    decided None none = none_other none
    decided (Some u) divided = found u.vector u.constant divided
