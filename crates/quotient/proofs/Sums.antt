-- Sums of residues: an abelian group in which p·u = 0. The negative of u is (p − 1)·u, and c·u is the sum of c summands u.
use mathlib.Core.Path.{◌≡◌, refl, sym, ap, ap₂, ◌∙◌}
use mathlib.Core.List.{List, ◌∷◌}
use Prim.Native.Nat.{ℕ, zero, suc, ◌+◌, ◌-◌, ◌*◌, ◌%◌, ◌<◌, ◌≤◌}
use native.Mathlib.Nat as Nat
use native.Mathlib.Omega.{arith}
use lib.ListN.{replicate}
use Rattle.array.specs.Words.{Words, none, more}
use Rattle.quotient.specs.Residue.{sum, scale, constant}
use Rattle.quotient.proofs.Operations.{constant-zero, constant_words}

pub sum_comm : {p n : ℕ} {u v : List ℕ} → Words p n u → Words p n v → sum p u v ≡ sum p v u
unfolding sum
sum_comm none none = refl
sum_comm (more {a = a} h w) (more {a = b} k v) = ap₂ ◌∷◌ (simp (Nat.add_comm a b)) (sum_comm w v)

pub sum_assoc : {p n : ℕ} {u v w : List ℕ} → Words p n u → Words p n v → Words p n w → sum p (sum p u v) w ≡ sum p u (sum p v w)
unfolding sum
sum_assoc none none none = refl
sum_assoc (more {a = a} h u) (more {a = b} k v) (more {a = c} l w) =
    ap₂ ◌∷◌ (simp (Nat.mod-add-mod, Nat.add-mod-mod, Nat.add_assoc)) (sum_assoc u v w)

pub sum_cross : {p n : ℕ} {a b c d : List ℕ} → Words p n a → Words p n b → Words p n c → Words p n d
    → sum p (sum p a b) (sum p c d) ≡ sum p (sum p a c) (sum p b d)
unfolding sum
sum_cross none none none none = refl
sum_cross (more h a) (more k b) (more l c) (more m d) =
    ap₂ ◌∷◌ (simp (Nat.mod-add-mod, Nat.add-mod-mod) (simp (Nat.add_assoc, Nat.add_left_comm))) (sum_cross a b c d)

pub sum-zero : {p n : ℕ} {u : List ℕ} → Words p n u → sum p u (constant n 0) ≡ u
unfolding sum
sum-zero w = simp constant-zero (zeros w)
  where
    zeros : {p n : ℕ} {u : List ℕ} → Words p n u → sum p u (replicate n 0) ≡ u
    zeros none = refl
    zeros (more h w) = ap₂ ◌∷◌ (simp (Nat.add-zero, Nat.mod-eq_of_lt h)) (zeros w)

-- c·u = 0 where p divides c
scale_vanishes : {p n : ℕ} (c : ℕ) {u : List ℕ} → ((a : ℕ) → c * a % p ≡ 0) → Words p n u → scale p c u ≡ constant n 0
unfolding scale constant
scale_vanishes c h none = refl
scale_vanishes c h (more {n = n} k w) = ap₂ ◌∷◌ (h _) (scale_vanishes c h w ∙ constant-zero n)

pub scale-zero : {p n : ℕ} {u : List ℕ} → Words p n u → scale p 0 u ≡ constant n 0
scale-zero w = scale_vanishes 0 (λ a. simp (Nat.zero-mul, Nat.zero-mod)) w

pub scale_modulus : {p n : ℕ} {u : List ℕ} → Words p n u → scale p p u ≡ constant n 0
scale_modulus {p} w = scale_vanishes p (Nat.mul-mod_right p) w

pub scale-suc : {p n : ℕ} (c : ℕ) {u : List ℕ} → Words p n u → scale p (suc c) u ≡ sum p u (scale p c u)
unfolding sum scale
scale-suc c none = refl
scale-suc c (more {a = a} h w) = ap₂ ◌∷◌ (simp (Nat.add-mod-mod, Nat.suc-mul, Nat.add_comm a (c * a))) (scale-suc c w)

pub scale-sum : {p n : ℕ} (j k : ℕ) {u : List ℕ} → Words p n u → scale p (j + k) u ≡ sum p (scale p j u) (scale p k u)
unfolding sum scale
scale-sum j k none = refl
scale-sum j k (more h w) = ap₂ ◌∷◌ (simp (Nat.mod-add-mod, Nat.add-mod-mod, Nat.add-mul)) (scale-sum j k w)

pub scale_more : {p n : ℕ} (c : ℕ) {u : List ℕ} → Words p n u → scale p (c + p) u ≡ scale p c u
unfolding scale
scale_more c none = refl
scale_more {p} c (more {a = a} h w) = ap₂ ◌∷◌ (simp (Nat.add-mul, Nat.add-mul-mod_self_left)) (scale_more c w)

pub sum_negation : {p n : ℕ} → 2 ≤ p → {u : List ℕ} → Words p n u → sum p u (scale p (p - 1) u) ≡ constant n 0
sum_negation {p} big w =
    let e : suc (p - 1) ≡ p = omega arith in
    sym (scale-suc (p - 1) w) ∙ rw e (scale_modulus w)

-- constants

scale-replicate : (p n c : ℕ) → scale p c (replicate n 0) ≡ replicate n 0
unfolding scale
scale-replicate p zero c = refl
scale-replicate p (suc n) c = ap₂ ◌∷◌ (simp (Nat.mul-zero, Nat.zero-mod)) (scale-replicate p n c)

pub scale-constant : (p n c d : ℕ) → scale p c (constant n d) ≡ constant n (c * d % p)
unfolding scale constant
scale-constant p zero c d = refl
scale-constant p (suc n) c d = ap (◌∷◌ (c * d % p)) (scale-replicate p n c)

pub sum-constant : {p n a : ℕ} {u : List ℕ} → a < p → Words p n (0 ∷ u) → sum p (constant n a) (0 ∷ u) ≡ a ∷ u
unfolding sum constant
sum-constant {p} h (more {n = n} {u = u} k w) =
    ap₂ ◌∷◌ (simp (Nat.add-zero, Nat.mod-eq_of_lt h)) (ap (λ z. sum p z u) (sym (constant-zero n)) ∙ sum_comm (constant_words n k) w ∙ sum-zero w)

-- a constant summand counts modulo p
pub sum-constant-mod : {p n : ℕ} (c : ℕ) {u : List ℕ} → Words p n u → sum p (constant n c) u ≡ sum p (constant n (c % p)) u
unfolding sum constant
sum-constant-mod c none = refl
sum-constant-mod {p} c (more {a = a} {n = n} {u = u} h w) = ap (λ x. x ∷ sum p (replicate n 0) u) (sym (Nat.mod-add-mod c p a))
