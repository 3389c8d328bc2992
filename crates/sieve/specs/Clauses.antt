-- What the functions of the sieve leave. Only contracts between them rest on it.
--   WordsBelow p k xs            the array xs has 32,768 words, and the first k are below p
--   Block p size to v xs ys      ys has the words of xs before word `to`, and then a block of `size` words: the first words of xs, each plus v modulo p
--   Extended p blocks size c xs ys   ys has the first words of xs in each of so many blocks, plus a·c modulo p in block a
--   Plane p d k j xs             word x of xs is word j of H·L modulo D, L the polynomial of D's lower words, for every H of k words, given by the number x
--   Collected p count s xs old new   word h of new is p times that of old, plus that of xs plus s modulo p
--   Lows p d k j codes           number h of codes has the digits from digit j on of the lower words of the multiple of D with the higher words h
--   struck b old                 1 where the multiple is struck out, else what was there
--   Struck base q count codes old new   new is old with word base + h·q + codes[h] struck out, for each h below count
--   StruckBy p d m old new       new is old with the multiples of D of degree m struck out
--   bit b                        1 or 0
--   Sieved p m marks             of degree m exactly the polynomials with a divisor of degree 1 to m − 1 are marked
--   Progress p m d k marks       of degree m only such polynomials are marked, and the multiples of all D of lower degree than d, and of degree d with a code below k, are
--   SievedBelow p d marks        that is so of every degree below d
--   Outside p m old new          new is old but for the polynomials of degree m
--   Room marks                   there is room for all codes
--   Clear i marks                from word i on all words are 0
use Rattle.std.specs.Prelude.{◌≡◌, Bool, true, false, List, ◌⊎◌, ℕ, ◌+◌, ◌*◌, ◌%◌, ◌^◌, ◌≤◌, ◌<◌, eqb, length, get_or, drop}
use Rattle.array.specs.Digits.{digits, code}
use Rattle.array.specs.Words.{Words}
use Rattle.quotient.specs.Divisor.{Divides, HasDivisor}
use Rattle.quotient.specs.DivisorTest.{divides_test, has_divisor}
use Rattle.sieve.specs.Multiples.{times, lows}

pub record WordsBelow (p k : ℕ) (xs : List ℕ) : Type 0 where
  pub size : length xs ≡ 32768
  pub words : (x : ℕ) → x < k → get_or xs x 0 < p

pub record Block (p size to v : ℕ) (xs ys : List ℕ) : Type 0 where
  pub same_length : length ys ≡ length xs
  pub inside : (x : ℕ) → x < size → get_or ys (to + x) 0 ≡ (get_or xs x 0 + v) % p
  pub before : (i : ℕ) → i < to → get_or ys i 0 ≡ get_or xs i 0

pub record Extended (p blocks size c : ℕ) (xs ys : List ℕ) : Type 0 where
  pub same_length : length ys ≡ length xs
  pub words : (a x : ℕ) → a < blocks → x < size → get_or ys (a * size + x) 0 ≡ (get_or xs x 0 + a * c) % p

pub record Plane (p : ℕ) (d : List ℕ) (k j : ℕ) (xs : List ℕ) : Type 0 where
  pub size : length xs ≡ 32768
  pub words : (x : ℕ) → x < p ^ k → get_or xs x 0 ≡ get_or (times p d k x) j 0

pub record Collected (p count s : ℕ) (xs old new : List ℕ) : Type 0 where
  pub same_length : length new ≡ length old
  pub words : (h : ℕ) → h < count → get_or new h 0 ≡ get_or old h 0 * p + (get_or xs h 0 + s) % p
  pub rest : (h : ℕ) → count ≤ h → get_or new h 0 ≡ get_or old h 0

pub record Lows (p : ℕ) (d : List ℕ) (k j : ℕ) (codes : List ℕ) : Type 0 where
  pub size : length codes ≡ 32768
  pub words : (h : ℕ) → h < p ^ k → get_or codes h 0 ≡ code p (drop j (lows p d k h))

unfoldable pub struck : Bool → ℕ → ℕ
struck true old = 1
struck false old = old

pub record Struck (base q count : ℕ) (codes old new : List ℕ) : Type 0 where
  pub same_length : length new ≡ length old
  pub inside : (h l : ℕ) → h < count → l < q → get_or new (base + (h * q + l)) 0 ≡ struck (eqb l (get_or codes h 0)) (get_or old (base + (h * q + l)) 0)
  pub outside : (i : ℕ) → (i < base) ⊎ (base + count * q ≤ i) → get_or new i 0 ≡ get_or old i 0

pub record StruckBy (p : ℕ) (d : List ℕ) (m : ℕ) (old new : List ℕ) : Type 0 where
  pub same_length : length new ≡ length old
  pub inside : (c : ℕ) → c < p ^ m → get_or new (p ^ m + c) 0 ≡ struck (divides_test p d (digits p m c)) (get_or old (p ^ m + c) 0)
  pub outside : (i : ℕ) → (i < p ^ m) ⊎ (p ^ m + p ^ m ≤ i) → get_or new i 0 ≡ get_or old i 0

unfoldable pub bit : Bool → ℕ
bit true = 1
bit false = 0

pub record Sieved (p m : ℕ) (marks : List ℕ) : Type 0 where
  pub words : (c : ℕ) → c < p ^ m → get_or marks (p ^ m + c) 0 ≡ bit (has_divisor p (digits p m c))

abbrev pub Room : List ℕ → Type 0
Room marks = length marks ≡ 131072

pub record Progress (p m d k : ℕ) (marks : List ℕ) : Type 0 where
  pub room : Room marks
  pub sound : (c : ℕ) → c < p ^ m → (get_or marks (p ^ m + c) 0 ≡ 0) ⊎ ((get_or marks (p ^ m + c) 0 ≡ 1) × HasDivisor p (digits p m c))
  pub complete : (c e : ℕ) (u : List ℕ) → c < p ^ m → 0 < e → (e < d) ⊎ ((e ≡ d) × (code p u < k)) → Words p e u → Divides p u (digits p m c)
      → get_or marks (p ^ m + c) 0 ≡ 1

pub record Clear (i : ℕ) (marks : List ℕ) : Type 0 where
  pub words : (k : ℕ) → i ≤ k → get_or marks k 0 ≡ 0

pub record SievedBelow (p d : ℕ) (marks : List ℕ) : Type 0 where
  pub each : (n : ℕ) → 1 ≤ n → n < d → Sieved p n marks

pub record Outside (p m : ℕ) (old new : List ℕ) : Type 0 where
  pub same_length : length new ≡ length old
  pub words : (i : ℕ) → (i < p ^ m) ⊎ (p ^ m + p ^ m ≤ i) → get_or new i 0 ≡ get_or old i 0
