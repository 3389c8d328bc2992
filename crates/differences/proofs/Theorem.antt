-- The proofs of what is promised of tables stored as differences.
use Rattle.std.proofs.Common.{◌≡◌, ℕ, ◌<◌, List, length, get_or, sym, refl, ◌∙◌}
use Rattle.array.specs.Words.{word_bound}
use Rattle.array.proofs.Padded.{words_at}
use Rattle.differences.specs.Differences.{differences, restored, differences_number}
use Rattle.differences.specs.Theorem.{Allowed, EachDifference, EachRestored, EveryTableComesBack}
use Rattle.differences.proofs.Back.{differences-restored, restored-differences}
use Rattle.differences.proofs.Given.{given_stored, differences_written, restored_written}
use Rattle.differences.proofs.Words.{differences-length, differences_first, differences_later, restored-length, restored_first, restored_later}

pub each_difference : EachDifference
each_difference n table out h =
    rw (differences_written n table out h)
    record {
      same_length = differences-length n table;
      first = λ k l inside. differences_first n table k l;
      others = differences_later n table;
    }

module _ {n : ℕ} {table : List ℕ} (a : Allowed n table) where
  -- a list of the table's length, sent in its place with a list of this length for its image
  accepts : (image out : List ℕ) → length image ≡ length table → length out ≡ length table → differences_number n image out ≡ 0
  accepts image out size room =
      given_stored n image out a.degree.0 a.degree.1 (
      record {
        few = rw size a.most;
        groups = rw size a.groups;
        lengths = room ∙ sym size;
      }
      )

  below : (k : ℕ) → k < length table → get_or table k 0 < word_bound
  below = words_at a.words

pub each_restored : EachRestored
each_restored n table out a room =
    rw (restored_written n table out (accepts a table out refl room))
    record {
      same_length = restored-length n table;
      first = λ k l inside. restored_first n table k l inside (below a k inside);
      others = λ k low inside. restored_later n table k a.degree.0 low inside;
    }

pub every_table_comes_back : EveryTableComesBack
every_table_comes_back n table out other a room room' =
    let number : differences_number n table out ≡ 0 = accepts a table out refl room in
    record {
      accepted = number;
      restores = rw (differences_written n table out number) (
        accepts a (differences n table) other (differences-length n table) room',
        restored_written n (differences n table) other (accepts a (differences n table) other (differences-length n table) room') ∙ differences-restored n table a.degree.0 (below a),
      );
      stores = rw (restored_written n table out number) (
        accepts a (restored n table) other (restored-length n table) room',
        differences_written n (restored n table) other (accepts a (restored n table) other (restored-length n table) room') ∙ restored-differences n table a.degree.0 (below a),
      );
    }
