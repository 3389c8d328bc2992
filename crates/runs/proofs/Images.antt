-- What is written by a conversion or a feed that is not refused: the images of the table under the map of a direction, by the pair that the session holds.
--   images_by       the images of a table under the map of what is held, group by group
--   images_given    9, 10 and 4 do not apply to them; images_again: the other direction gives the table again
--   own_held        a session that counts as paired holds what it counts as holding
--   convert_zero, convert_paired, convert_closed, convert_given, convert_images    what the number 0 says of a conversion, and what it then writes
--   feed_paired, feed_given, feed_images                                the same of a feed
use mathlib.Core.Path.{◌≡◌, sym, ap, ap₂, ◌∙◌}
use mathlib.Core.Bool.{true, false}
use mathlib.Core.List.{List}
use Prim.Native.Nat.{ℕ}
use lib.ListN.{length}
use Rattle.refusal.specs.Models.{Given}
use Rattle.refusal.specs.Refusal.{written}
use Rattle.pair.specs.Pair.{forward, backward}
use Rattle.pair.specs.Theorem.{Isomorphisms}
use Rattle.held.specs.Held.{view, t1_of, t2_of, s_of, r_of}
use Rattle.held.specs.declared.Held.{Held}
use Rattle.ledger.specs.declared.Direction.{Direction}
use Rattle.ledger.specs.declared.Direction.TheVariants.{Forward, Back}
use Rattle.ledger.specs.declared.Record.{Record}
use Rattle.table.specs.Table.{table_number, Images}
use Rattle.table.proofs.Convertible.{table_given, given_table}
use Rattle.table.proofs.Groups.{converted_images, converted_convertible, converted_undone}
use Rattle.work.specs.Work.{is_paired, is_open, looked}
use Rattle.work.specs.declared.Table.TheVariants.{Open}
use Rattle.conversion.specs.Conversion as Conversion
use Rattle.conversion.specs.Conversion.{convert_number, images_in}
use Rattle.conversion.proofs.Numbers.{accepted}
use Rattle.running.specs.Running as Running
use Rattle.running.specs.Running.{feed_number, part_images, feed_output_as, part_number}
use Rattle.running.proofs.Numbers.{feed_zero, part_parts}
use Rattle.session.specs.Session.{counted, step_with, record_with, convert, convert_output, feed, feed_output}
use Rattle.runs.specs.Theorem.{map_in, opposite}
use Rattle.session.specs.declared.Session.{Session}
use Rattle.session.proofs.Answer.{answer-number}
use Rattle.session.proofs.CountsAs.{counted_itself, counted_parts, paired_itself}

-- by what is held
module _ (h : Held) (g : Given h.p h.n (t1_of h) (t2_of h) (s_of h) (r_of h)) (table out : List ℕ) (e : table_number h.p h.n table out ≡ 0) where
  pub images_by : (d : Direction) → Images h.n (map_in d h) table (images_in d h table)
  unfolding images_in forward backward
  images_by Forward = converted_images (table_given h.p h.n table out e) g.models.prime.0 g.models.modulus2 g.words_s
  images_by Back = converted_images (table_given h.p h.n table out e) g.models.prime.0 g.models.modulus1 g.words_r

  pub images_given : (d : Direction) (lent : List ℕ) → length lent ≡ length out → table_number h.p h.n (images_in d h table) lent ≡ 0
  unfolding images_in
  images_given Forward lent room =
      given_table (converted_convertible (table_given h.p h.n table out e) g.models.prime.0 g.models.modulus2 g.words_s lent room)
  images_given Back lent room =
      given_table (converted_convertible (table_given h.p h.n table out e) g.models.prime.0 g.models.modulus1 g.words_r lent room)

  pub images_again : Isomorphisms h.p h.n (t1_of h) (t2_of h) (s_of h) (r_of h) → (d : Direction) → images_in (opposite d) h (images_in d h table) ≡ table
  unfolding images_in forward backward
  images_again maps Forward =
      converted_undone (table_given h.p h.n table out e) g.models.prime.0 g.models.modulus2 g.words_s (t1_of h) (r_of h) maps.back_undoes_forth
  images_again maps Back =
      converted_undone (table_given h.p h.n table out e) g.models.prime.0 g.models.modulus1 g.words_r (t2_of h) (s_of h) maps.forth_undoes_back

-- a session that counts as paired counts as itself
module _ (x : Session) (e : is_paired (view (counted x).work.held) ≡ true) where
  pub own_session : counted x ≡ record { work = looked x.work; ledger = x.ledger }
  own_session = counted_itself x (paired_itself x e)

  pub own_held : (counted x).work.held ≡ x.work.held
  unfolding looked
  own_held = ap (λ y. y.work.held) own_session

  pub own_table : (counted x).work.table ≡ x.work.table
  unfolding looked
  own_table = ap (λ y. y.work.table) own_session

  pub own_paired : is_paired (view x.work.held) ≡ true
  own_paired = ap (λ h. is_paired (view h)) (sym own_held) ∙ e

-- a conversion that is not refused
module _ (d : Direction) (x : Session) (table out : List ℕ) (z : (convert d x table out).number ≡ 0) where
  pub convert_zero : convert_number (counted x).work (counted x).ledger.count table out ≡ 0
  unfolding Conversion.convert record_with
  convert_zero = sym (answer-number _ _ x) ∙ z

  counted_paired : is_paired (view (counted x).work.held) ≡ true
  counted_paired = (accepted (counted x).work (counted x).ledger.count table out convert_zero).paired

  pub convert_paired : is_paired (view x.work.held) ≡ true
  convert_paired = own_paired x counted_paired

  pub convert_closed : is_open x.work.table ≡ false
  convert_closed = ap is_open (sym (own_table x counted_paired)) ∙ (accepted (counted x).work (counted x).ledger.count table out convert_zero).closed

  pub convert_given : table_number x.work.held.p x.work.held.n table out ≡ 0
  convert_given =
      ap (λ h. table_number h.p h.n table out) (sym (own_held x counted_paired))
      ∙ (accepted (counted x).work (counted x).ledger.count table out convert_zero).given

  pub convert_images : convert_output d x table out ≡ images_in d x.work.held table
  unfolding Conversion.convert_output
  convert_images = ap₂ (λ k h. written k (images_in d h table) out) convert_zero (own_held x counted_paired)

-- a feed that is not refused
module _ (x : Session) (table out : List ℕ) (z : (feed x table out).number ≡ 0) where
  fed_zero : feed_number (counted x).work table out ≡ 0
  unfolding Running.feed Running.feed_as feed_number step_with
  fed_zero = sym (answer-number _ _ x) ∙ z

  found : (e : Record) × ((counted x).work.table ≡ Open e) × (part_number (counted x).work.held.p (counted x).work.held.n e.residues table out ≡ 0)
  found = feed_zero (counted x).work table out fed_zero

  fed_paired : is_paired (view (counted x).work.held) ≡ true
  fed_paired = ((counted_parts x).open_over (ap is_open found.1)).over_pair

  pub feed_paired : is_paired (view x.work.held) ≡ true
  feed_paired = own_paired x fed_paired

  pub feed_given : table_number x.work.held.p x.work.held.n table out ≡ 0
  feed_given =
      ap (λ h. table_number h.p h.n table out) (sym (own_held x fed_paired))
      ∙ (part_parts (counted x).work.held.p (counted x).work.held.n found.0.residues table out found.2).1

  pub feed_images : (e : Record) → x.work.table ≡ Open e → feed_output x table out ≡ images_in e.direction x.work.held table
  unfolding Running.feed_output feed_output_as feed_number
  feed_images e f =
      ap (λ k. written k (part_images (counted x).work.table (counted x).work.held table) out) fed_zero
      ∙ ap₂ (λ t h. part_images t h table) (own_table x fed_paired ∙ f) (own_held x fed_paired)
