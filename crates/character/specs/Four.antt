-- What the contracts on four powers cite. The four numbers are a list.
--   Product p x y r    each number of r is below 2·p, and modulo p the product of those of x and y in its place
--   Step p odd x y r   each number of r is below 2·p, and modulo p that product where odd, else r is x
--   Low p x            all four numbers are below 2·p
use Rattle.std.specs.Prelude.{◌≡◌, Bool, true, false, List, ℕ, ◌*◌, ◌%◌, ◌<◌, get_or}

pub record Product (p : ℕ) (x y r : List ℕ) : Type 0 where
  pub value : (i : ℕ) → i < 4 → get_or r i 0 % p ≡ get_or x i 0 * get_or y i 0 % p
  pub below : (i : ℕ) → i < 4 → get_or r i 0 < 2 * p

pub record Step (p : ℕ) (odd : Bool) (x y r : List ℕ) : Type 0 where
  pub if_odd : odd ≡ true → (i : ℕ) → i < 4 → get_or r i 0 % p ≡ get_or x i 0 * get_or y i 0 % p
  pub if_even : odd ≡ false → r ≡ x
  pub below : (i : ℕ) → i < 4 → get_or r i 0 < 2 * p

pub record Low (p : ℕ) (x : List ℕ) : Type 0 where
  pub below : (i : ℕ) → i < 4 → get_or x i 0 < 2 * p
