-- "Its n scalings" (document 02, S-6): where n divides p − 1, modulo a T without proper divisors exactly n residues that are not zero satisfy u^p = ζ·u and u^n = a.
use Rattle.std.specs.Prelude.{◌≡◌, List, ℕ, ◌-◌, ◌%◌, length}
use Rattle.refusal.specs.Models.{Model}
use Rattle.quotient.specs.Divisor.{HasDivisor}
use Rattle.roots.specs.Roots.{zeta, radicand}
use Rattle.galois.specs.Eigenvector.{scalings}

abbrev pub ScalingsAreCounted : Type 0
ScalingsAreCounted =
    (p n : ℕ) (t : List ℕ) → Model p n t → (p - 1) % n ≡ 0 → (HasDivisor p t → ⊥) → length (scalings p n t (zeta p n) (radicand p n (zeta p n))) ≡ n
