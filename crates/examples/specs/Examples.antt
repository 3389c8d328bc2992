-- Examples A to I of document 01, "Small fields by hand", with a and, in D, the values of document 02, S-6, in one statement about the definitions that the contracts cite.
-- Lists are constant first. Each field quotes its line.
use Rattle.std.specs.Prelude.{◌≡◌, List, [], ◌∷◌, ℕ, length}
use Rattle.answer.specs.Answer.{answer_text}
use Rattle.card.specs.Card.{write_output}
use Rattle.roots.specs.Roots.{zeta, radicand}
use Rattle.galois.specs.Eigenvector.{alpha}
use Rattle.finder.specs.Finder.{find_s, find_r, find_number, find_output_s, find_output_r}
use Rattle.pair.specs.Pair.{check_number}
use Rattle.text.specs.Ascii.{ascii}
use Rattle.quotient.specs.Divisor.{monic, polynomial_product}
use Rattle.array.specs.Words.{Words}
use Rattle.held.specs.Held.{paired_held, new_held}
use Rattle.ledger.specs.declared.Direction.TheVariants.{Forward, Back}
use Rattle.work.specs.declared.Table.TheVariants.{Closed}
use Rattle.session.specs.Session.{new_session, with_work, convert_output}
use Rattle.session.specs.declared.Session.{Session}

-- the finder's values for two models, from ζ to R; c is 1
pub record FinderValues (p n : ℕ) (t1 t2 : List ℕ) (z a : ℕ) (alpha1 alpha2 s r : List ℕ) : Type 0 where
  pub zeta_is : zeta p n ≡ z
  pub a_is : radicand p n z ≡ a
  pub alpha1_is : alpha p n t1 z a ≡ alpha1
  pub alpha2_is : alpha p n t2 z a ≡ alpha2
  pub s_is : find_s p n t1 t2 ≡ s
  pub r_is : find_r p n t1 t2 ≡ r
  pub number_is : (lent_s lent_r : List ℕ) → length lent_s ≡ n → length lent_r ≡ n → find_number p n t1 t2 lent_s lent_r ≡ 0

-- a session that holds the pair of A
abbrev pub pair_of_a : Session
pair_of_a =
    with_work new_session (record { held = paired_held 3 2 (1 ∷ 0 ∷ []) (2 ∷ 1 ∷ []) (1 ∷ 2 ∷ []) (1 ∷ 2 ∷ []); table = Closed; waiting = new_held })

pub record Examples : Type 0 where
  -- A: p 3, T1 [1,0], T2 [2,1]: ζ 2, α1 [0,1], α2 [1,2], c 1, S [1,2], R [1,2]
  pub A : FinderValues 3 2 (1 ∷ 0 ∷ []) (2 ∷ 1 ∷ []) 2 2 (0 ∷ 1 ∷ []) (1 ∷ 2 ∷ []) (1 ∷ 2 ∷ []) (1 ∷ 2 ∷ [])
  -- B: models of A: S [2,1], R [1,1] is accepted; the finder gives A's pair
  pub B : check_number 3 2 (1 ∷ 0 ∷ []) (2 ∷ 1 ∷ []) (2 ∷ 1 ∷ []) (1 ∷ 1 ∷ []) ≡ 0
  pub b_finds_a :
      (find_output_s 3 2 (1 ∷ 0 ∷ []) (2 ∷ 1 ∷ []) (2 ∷ 1 ∷ []) (1 ∷ 1 ∷ []) ≡ 1 ∷ 2 ∷ [])
      × (find_output_r 3 2 (1 ∷ 0 ∷ []) (2 ∷ 1 ∷ []) (2 ∷ 1 ∷ []) (1 ∷ 1 ∷ []) ≡ 1 ∷ 2 ∷ [])
  -- C: pair of A: forward of [1,1] is [2,2], back of [2,2] is [1,1]
  pub c_forward : (out : List ℕ) → length out ≡ 2 → convert_output Forward pair_of_a (1 ∷ 1 ∷ []) out ≡ 2 ∷ 2 ∷ []
  pub c_back : (out : List ℕ) → length out ≡ 2 → convert_output Back pair_of_a (2 ∷ 2 ∷ []) out ≡ 1 ∷ 1 ∷ []
  -- D: p 7, T1 [5,0,0], T2 [4,0,0]: ζ 2, and "case D then has a 3, α1 [0,0,3], α2 [0,1,0], c 1, S [0,0,2] and R [0,0,3]"
  pub D :
      FinderValues 7 3 (5 ∷ 0 ∷ 0 ∷ []) (4 ∷ 0 ∷ 0 ∷ []) 2 3 (0 ∷ 0 ∷ 3 ∷ []) (0 ∷ 1 ∷ 0 ∷ []) (0 ∷ 0 ∷ 2 ∷ []) (0 ∷ 0 ∷ 3 ∷ [])
  -- the pair that document 01 lists for D, S [0,0,1], R [0,0,5], remains an accepted pair
  pub d_stored : check_number 7 3 (5 ∷ 0 ∷ 0 ∷ []) (4 ∷ 0 ∷ 0 ∷ []) (0 ∷ 0 ∷ 1 ∷ []) (0 ∷ 0 ∷ 5 ∷ []) ≡ 0
  -- E: p 2, T1 [1], T2 [0]: S [1], R [0]
  pub E : FinderValues 2 1 (1 ∷ []) (0 ∷ []) 1 1 (1 ∷ []) (1 ∷ []) (1 ∷ []) (0 ∷ [])
  -- F: p 3, T1 = T2 = [0,0]: with S = R = [0,1] "is now refused with 6" (request S-3), and its stored card prints RING; the finder refuses with 6
  pub f_check : check_number 3 2 (0 ∷ 0 ∷ []) (0 ∷ 0 ∷ []) (0 ∷ 1 ∷ []) (0 ∷ 1 ∷ []) ≡ 6
  pub f_card : answer_text (0x00 ∷ 0x03 ∷ 0x12 ∷ 0x00 ∷ 0x11 ∷ []) ≡ ascii "RING\n"
  pub f_find :
      (lent_s lent_r : List ℕ) → length lent_s ≡ 2 → length lent_r ≡ 2 → find_number 3 2 (0 ∷ 0 ∷ []) (0 ∷ 0 ∷ []) lent_s lent_r ≡ 6
  -- G: p 3, T1 [2,0] is (X+1)(X+2): finder 6, whatever T2; as T2 under T1 [1,0]: 7
  pub g_product : polynomial_product 3 (monic (1 ∷ [])) (monic (2 ∷ [])) ≡ monic (2 ∷ 0 ∷ [])
  pub g_first :
      (t2 lent_s lent_r : List ℕ) → Words 3 2 t2 → length lent_s ≡ 2 → length lent_r ≡ 2 → find_number 3 2 (2 ∷ 0 ∷ []) t2 lent_s lent_r ≡ 6
  pub g_second :
      (lent_s lent_r : List ℕ) → length lent_s ≡ 2 → length lent_r ≡ 2 → find_number 3 2 (1 ∷ 0 ∷ []) (2 ∷ 0 ∷ []) lent_s lent_r ≡ 7
  -- H: p 5, n 3: finder 5, whatever the models
  pub H :
      (t1 t2 lent_s lent_r : List ℕ) → Words 5 3 t1 → Words 5 3 t2 → length lent_s ≡ 3 → length lent_r ≡ 3
      → find_number 5 3 t1 t2 lent_s lent_r ≡ 5
  -- I: pair card of A is 00 03 12 49 66; job card of D is 00 07 21 A0 40 00
  pub i_pair :
      (out : List ℕ) → length out ≡ 5
      → write_output 3 2 2 (1 ∷ 0 ∷ 2 ∷ 1 ∷ 1 ∷ 2 ∷ 1 ∷ 2 ∷ []) out ≡ 0x00 ∷ 0x03 ∷ 0x12 ∷ 0x49 ∷ 0x66 ∷ []
  pub i_job :
      (out : List ℕ) → length out ≡ 6 → write_output 7 3 1 (5 ∷ 0 ∷ 0 ∷ 4 ∷ 0 ∷ 0 ∷ []) out ≡ 0x00 ∷ 0x07 ∷ 0x21 ∷ 0xA0 ∷ 0x40 ∷ 0x00 ∷ []
