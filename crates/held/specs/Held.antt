-- What a session holds (document 01, "The session"): "a value: empty, loaded (p, n, T1, T2) or paired (also S, R)".
--   View                        what a value counts as
--   valid p n xss               1, 2 and 4 refuse neither p nor n nor a word of the lists
--   t1_of x, t2_of x, s_of x, r_of x   the first n words of the arrays of x
--   valid_held x                1, 2 and 4 refuse no item that the state of x has
--   view x                      what x counts as: a value with a p, n or coefficient that 1, 2 or 4 refuses counts as a new one, which is empty
--   new_held, loaded_held, paired_held   the values that the calls make, with zeros where a list ends or is not held
--   Arrays x                    the arrays of x have as many words as their type says
use Rattle.std.specs.Prelude.{◌≡◌, Bool, true, false, ◌&&◌, not, List, [], ◌∷◌, ℕ, length, take, replicate}
use Rattle.refusal.specs.Refusal.{bad_prime, bad_degree, bad_word, largest_degree}
use Rattle.array.specs.Array.{padded}
use Rattle.held.specs.declared.Held.{Held}
use Rattle.held.specs.declared.State.{State}
use Rattle.held.specs.declared.State.TheVariants.{Empty, Loaded, Paired}

pub data View : Type 0 where
  empty : View
  loaded : (p n : ℕ) (t1 t2 : List ℕ) → View
  paired : (p n : ℕ) (t1 t2 s r : List ℕ) → View

unfoldable pub valid : ℕ → ℕ → List (List ℕ) → Bool
valid p n xss = not (bad_prime p) && not (bad_degree n) && not (bad_word p xss)

abbrev pub t1_of : Held → List ℕ
t1_of x = take x.n x.t1

abbrev pub t2_of : Held → List ℕ
t2_of x = take x.n x.t2

abbrev pub s_of : Held → List ℕ
s_of x = take x.n x.s

abbrev pub r_of : Held → List ℕ
r_of x = take x.n x.r

unfoldable pub valid_as : State → ℕ → ℕ → List ℕ → List ℕ → List ℕ → List ℕ → Bool
valid_as Empty p n t1 t2 s r = true
valid_as Loaded p n t1 t2 s r = valid p n (t1 ∷ t2 ∷ [])
valid_as Paired p n t1 t2 s r = valid p n (t1 ∷ t2 ∷ s ∷ r ∷ [])

unfoldable pub valid_held : Held → Bool
valid_held x = valid_as x.state x.p x.n (t1_of x) (t2_of x) (s_of x) (r_of x)

unfoldable pub view_as : State → ℕ → ℕ → List ℕ → List ℕ → List ℕ → List ℕ → View
view_as Empty p n t1 t2 s r = empty
view_as Loaded p n t1 t2 s r = loaded p n t1 t2
view_as Paired p n t1 t2 s r = paired p n t1 t2 s r

abbrev pub if_valid : Bool → View → View
if_valid true v = v
if_valid false v = empty

unfoldable pub view : Held → View
view x = if_valid (valid_held x) (view_as x.state x.p x.n (t1_of x) (t2_of x) (s_of x) (r_of x))

abbrev pub zeros : List ℕ
zeros = replicate largest_degree 0

abbrev pub new_held : Held
new_held = record { state = Empty; p = 0; n = 0; t1 = zeros; t2 = zeros; s = zeros; r = zeros }

unfoldable pub loaded_held : ℕ → ℕ → List ℕ → List ℕ → Held
loaded_held p n t1 t2 = record { state = Loaded; p = p; n = n; t1 = padded t1; t2 = padded t2; s = zeros; r = zeros }

unfoldable pub paired_held : ℕ → ℕ → List ℕ → List ℕ → List ℕ → List ℕ → Held
paired_held p n t1 t2 s r =
    record { state = Paired; p = p; n = n; t1 = padded t1; t2 = padded t2; s = padded s; r = padded r }

pub record Arrays (x : Held) : Type 0 where
  pub t1-length : length x.t1 ≡ largest_degree
  pub t2-length : length x.t2 ≡ largest_degree
  pub s-length : length x.s ≡ largest_degree
  pub r-length : length x.r ≡ largest_degree
