-- The calls that change what a session holds (document 01, "The session").
--   answer k next taken         number k: the next value where k is 0, else the value taken
--   load x p n t1 t2            load: empty to loaded; 23, 1 to 4
--   propose x s r               propose S, R: loaded to paired if the checker accepts; 21, 24, 3, 4, 6, 7, 8
--   find x                      find: loaded to paired with the finder's pair; 21, 24, 5, 6, 7
use Rattle.std.specs.Prelude.{List, [], ◌∷◌, ℕ, zero, suc}
use Rattle.refusal.specs.Refusal.{refuse, refuse_sent, bad_length, bad_word}
use Rattle.pair.specs.Pair.{refuse_pair}
use Rattle.finder.specs.Finder.{find_s, find_r, refuse_find}
use Rattle.held.specs.Held.{View, empty, loaded, paired, view, loaded_held, paired_held}
use Rattle.held.specs.declared.Held.{Held}
use Rattle.pairing.specs.Step.{HeldStep}

unfoldable pub answer : ℕ → Held → Held → HeldStep
answer zero next taken = record { number = 0; held = next }
answer (suc k) next taken = record { number = suc k; held = taken }

unfoldable pub load_from : View → Held → ℕ → ℕ → List ℕ → List ℕ → HeldStep
load_from empty x p n t1 t2 = answer (refuse_sent p n (t1 ∷ t2 ∷ []) (t1 ∷ t2 ∷ []) 0) (loaded_held p n t1 t2) x
load_from (loaded q m u1 u2) x p n t1 t2 = answer 23 x x
load_from (paired q m u1 u2 s r) x p n t1 t2 = answer 23 x x

unfoldable pub load : Held → ℕ → ℕ → List ℕ → List ℕ → HeldStep
load x p n t1 t2 = load_from (view x) x p n t1 t2

unfoldable pub propose_from : View → Held → List ℕ → List ℕ → HeldStep
propose_from empty x s r = answer 21 x x
propose_from (loaded p n t1 t2) x s r =
    answer
    (refuse 3 (bad_length n (s ∷ r ∷ [])) (refuse 4 (bad_word p (s ∷ r ∷ [])) (refuse_pair p t1 t2 s r)))
    (paired_held p n t1 t2 s r)
    x
propose_from (paired p n t1 t2 s' r') x s r = answer 24 x x

unfoldable pub propose : Held → List ℕ → List ℕ → HeldStep
propose x s r = propose_from (view x) x s r

unfoldable pub find_from : View → Held → HeldStep
find_from empty x = answer 21 x x
find_from (loaded p n t1 t2) x =
    answer (refuse_find p n t1 t2) (paired_held p n t1 t2 (find_s p n t1 t2) (find_r p n t1 t2)) x
find_from (paired p n t1 t2 s r) x = answer 24 x x

unfoldable pub find : Held → HeldStep
find x = find_from (view x) x
