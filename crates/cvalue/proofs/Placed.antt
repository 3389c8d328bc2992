-- The records of a ledger in the array of a value: in place of its first elements.
--   own_placed     the records of a valid value's own ledger leave the array as it is
--   added-placed   one record more changes the element behind those that count
use mathlib.Core.Path.{◌≡◌, refl, ap, ap₂, ◌∙◌}
use mathlib.Core.Bool.{true, and-eq-true_iff}
use mathlib.Core.List.{List, [], ◌∷◌, ◌++◌, map, map-append}
use Prim.Native.Nat.{ℕ, zero, suc, ◌-◌, ◌≤◌, ◌<◌}
use native.Mathlib.Omega.{arith}
use borrow.Author.Tests.{leb-true}
use lib.ListN.{length, take, drop, set, replicate, length-append, length-map, length-replicate, take-append-drop}
use lib.Seq.{length-take-le, take_at}
use Rattle.algebra.specs.Lists.{all}
use Rattle.ledger.specs.Ledger.{most_records, none, records_of, added}
use Rattle.ledger.specs.declared.Ledger.{Ledger}
use Rattle.ledger.specs.declared.Record.{Record}
use Rattle.ledger.proofs.Theorem.{added_behind}
use Rattle.cvalue.specs.Values.{direction_of, direction_number, record_of, record_value, has_direction, made, up_to, over, ledger_of}
use Rattle.cvalue.specs.declared.RecordValue.{RecordValue}
use Rattle.cvalue.specs.declared.SessionValue.{SessionValue}
use Rattle.cvalue.proofs.Counting.{few_records, have_directions}

abbrev pub placed : Ledger → SessionValue → List RecordValue
placed l v = over (map record_value (records_of l)) v.ledger

-- records there and back

value_back : (x : RecordValue) → has_direction x ≡ true → record_value (record_of x) ≡ x
unfolding has_direction record_value record_of
value_back x h = ap (λ d. record { direction = d; residues = x.residues }) (go x.direction (leb-true x.direction 1 h))
  where
    go : (d : ℕ) → d ≤ 1 → direction_number (direction_of d) ≡ d
    go zero l = refl
    go (suc zero) l = refl
    go (suc (suc d)) l = absurd (omega arith)

values_back : (xs : List RecordValue) → all has_direction xs ≡ true → map record_value (map record_of xs) ≡ xs
unfolding all
values_back [] h = refl
values_back (x ∷ xs) h =
    let (here, rest) = (and-eq-true_iff (has_direction x) (all has_direction xs)).0 h in
    ap₂ ◌∷◌ (value_back x here) (values_back xs rest)

-- the first elements in place of themselves, and with one more

over_first : {A : Type 0} (k : ℕ) (xs : List A) → k ≤ length xs → over (take k xs) xs ≡ xs
unfolding over
over_first k xs h = ap (λ j. take k xs ++ drop j xs) (length-take-le k xs h) ∙ take-append-drop k xs

over_next : {A : Type 0} (k : ℕ) (xs : List A) (x : A) → k < length xs → over (take k xs ++ (x ∷ [])) xs ≡ set xs k x
unfolding over
over_next k [] x h = absurd (omega arith)
over_next zero (y ∷ xs) x h = refl
over_next (suc k) (y ∷ xs) x h = ap (λ l. y ∷ l) (over_next k xs x (omega arith))

-- a value that is made, with the array that its type says
module _ (v : SessionValue) (long : length v.ledger ≡ most_records) (is_made : made v ≡ true) where
  taken : List RecordValue
  taken = take v.records v.ledger

  taken_long : length taken ≡ v.records
  unfolding taken
  taken_long = length-take-le v.records v.ledger (omega (arith, few_records v is_made))

  own_long : length (ledger_of v).records ≡ most_records
  unfolding up_to taken
  own_long =
      omega (
        arith,
        length-append (map record_of taken) (replicate (most_records - length (map record_of taken)) none),
        length-map taken record_of,
        taken_long,
        few_records v is_made,
        length-replicate (most_records - length (map record_of taken)) none,
      )

  own_values : map record_value (records_of (ledger_of v)) ≡ taken
  unfolding up_to taken
  own_values =
      let first : records_of (ledger_of v) ≡ map record_of taken = take_at (map record_of taken) _ v.records (length-map taken record_of ∙ taken_long) in
      ap (map record_value) first ∙ values_back taken (have_directions v is_made)

  pub own_placed : placed (ledger_of v) v ≡ v.ledger
  unfolding taken
  own_placed = ap (λ l. over l v.ledger) own_values ∙ over_first v.records v.ledger (omega (arith, few_records v is_made))

  pub added-placed : v.records < most_records → (e : Record) → placed (added (ledger_of v) e) v ≡ set v.ledger v.records (record_value e)
  unfolding taken
  added-placed room e =
      let values : map record_value (records_of (added (ledger_of v) e)) ≡ taken ++ (record_value e ∷ []) =
      ap (map record_value) (added_behind (ledger_of v) e own_long room)
      ∙ map-append record_value (records_of (ledger_of v)) (e ∷ [])
      ∙ ap (λ l. l ++ (record_value e ∷ [])) own_values in
      ap (λ l. over l v.ledger) values ∙ over_next v.records v.ledger (record_value e) (omega arith)
