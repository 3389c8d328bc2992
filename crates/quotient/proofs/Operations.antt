-- Every operation on residues gives n words below p again, and residues with equal lists are equal.
use mathlib.Core.Path.{◌≡◌, refl, ap}
use mathlib.Core.HLevel.{Σ_prop_path, Σ_prop_discrete}
use mathlib.Core.List.{List, [], ◌∷◌, List-discrete}
use Prim.Native.Nat.{ℕ, zero, suc, ◌<◌, ◌≤◌}
use native.Mathlib.Nat as Nat
use native.Mathlib.Decide.{ℕ_discrete}
use native.Mathlib.Omega.{arith}
use lib.ListN.{length, replicate, length-replicate}
use Rattle.array.specs.Words.{Words, none, more}
use Rattle.quotient.specs.Residue.{Residue, sum, scale, constant, shift, top, times_x, product, power, residue_of_x, substitute, modulus_at}
use Rattle.array.proofs.Words.{words_length, words_prop, zeros_words}

pub residue_path : {p n : ℕ} {u v : Residue p n} → u.0 ≡ v.0 → u ≡ v
residue_path {p} {n} {u} {v} h = Σ_prop_path (words_prop p n) {u = u} {v = v} h

pub residue_discrete : (p n : ℕ) → Discrete (Residue p n)
residue_discrete p n = Σ_prop_discrete (words_prop p n) (List-discrete ℕ_discrete)

pub sum_words : {p n : ℕ} {u v : List ℕ} → Words p n u → Words p n v → Words p n (sum p u v)
unfolding sum
sum_words none none = none
sum_words (more h w) (more k v) = more (Nat.mod-lt _ (omega arith)) (sum_words w v)

pub scale_words : {p n : ℕ} (c : ℕ) {u : List ℕ} → Words p n u → Words p n (scale p c u)
unfolding scale
scale_words c none = none
scale_words c (more h w) = more (Nat.mod-lt _ (omega arith)) (scale_words c w)

pub constant-zero : (n : ℕ) → constant n 0 ≡ replicate n 0
unfolding constant
constant-zero zero = refl
constant-zero (suc n) = refl

pub constant-length : (n c : ℕ) → length (constant n c) ≡ n
unfolding constant
constant-length zero c = refl
constant-length (suc n) c = ap suc (length-replicate n 0)

pub constant_words : {p : ℕ} (n : ℕ) {c : ℕ} → c < p → Words p n (constant n c)
unfolding constant
constant_words zero h = none
constant_words (suc n) h = more h (zeros_words n (omega arith))

pub shift_words : {p n c : ℕ} {u : List ℕ} → c < p → Words p n u → Words p n (shift c u)
unfolding shift
shift_words h none = none
shift_words h (more k w) = more h (shift_words k w)

pub top_below : {p n c : ℕ} {u : List ℕ} → c < p → Words p n u → top c u < p
unfolding top
top_below h none = h
top_below h (more k w) = top_below k w

module _ {p n : ℕ} {t : List ℕ} (big : 2 ≤ p) (wt : Words p n t) where
  pub times_x_words : {u : List ℕ} → Words p n u → Words p n (times_x p t u)
  unfolding times_x
  times_x_words w = sum_words (shift_words (omega arith) w) (scale_words _ wt)

  constant_of_modulus : {c : ℕ} → c < p → Words p n (constant (length t) c)
  constant_of_modulus h = rw (words_length wt) (constant_words n h)

  pub product_words : (u : List ℕ) {v : List ℕ} → Words p n v → Words p n (product p t u v)
  unfolding product
  product_words [] w = constant_of_modulus (omega arith)
  product_words (c ∷ u) w = sum_words (scale_words c w) (times_x_words (product_words u w))

  pub residue_of_x_words : Words p n (residue_of_x p t)
  unfolding residue_of_x
  residue_of_x_words = times_x_words (constant_of_modulus big)

  pub power_words : {u : List ℕ} → Words p n u → (k : ℕ) → Words p n (power p t u k)
  unfolding power
  power_words w zero = constant_of_modulus big
  power_words w (suc k) = product_words _ (power_words w k)

  pub substitute_words : {s : List ℕ} → Words p n s → {m : ℕ} {u : List ℕ} → Words p m u → Words p n (substitute p t s u)
  unfolding substitute
  substitute_words w none = constant_of_modulus (omega arith)
  substitute_words w (more h v) = sum_words (constant_of_modulus h) (product_words _ (substitute_words w v))

  pub modulus_at_words : {s : List ℕ} → Words p n s → {m : ℕ} {u : List ℕ} → Words p m u → Words p n (modulus_at p t s u)
  unfolding modulus_at
  modulus_at_words w v = sum_words (power_words w _) (substitute_words w v)
