-- The four lists one behind another are the sheet, and fill a list of its length.
use mathlib.Core.Path.{◌≡◌, sym, subst, ◌∙◌}
use mathlib.Core.List.{List, ◌++◌}
use Prim.Native.Nat.{ℕ, ◌+◌, ◌*◌, ◌/◌, ◌^◌, ◌≤◌}
use native.Mathlib.Omega.{arith}
use lib.ListN.{length}
use lib.Seq.{take_all}
use Rattle.array.specs.Words.{Words}
use Rattle.array.proofs.Words.{words_length, to_length}
use Rattle.text.specs.Ascii.{ascii}
use Rattle.text.specs.Text.{Appended}
use Rattle.text.proofs.Append.{append_both}
use Rattle.sheet.specs.Sheet.{polynomial, sheet_text, sheet_length}
use Rattle.sheet.proofs.LineLengths.{polynomial-length}
use Rattle.refusal.specs.Models.{Given}

-- a list of n words

module _ (p n : ℕ) (u : List ℕ) (w : Words p n u) where
  pub own_words : Words p (length u) u
  own_words = to_length w w

  pub own_some : 1 ≤ n → 1 ≤ length u
  own_some h = omega (arith, words_length w)

  pub own_few : n ≤ 16 → length u ≤ 16
  own_few h = omega (arith, words_length w)

  module _ (small : p ≤ 2 ^ 20) (name before after : List ℕ) (at end : ℕ) (three : length name ≡ 3) (a : Appended at (polynomial p (length u) name u) before after end) where
    behind : end ≡ at + (n + 7) / 8 * 60
    behind = omega (arith, a.end_is, polynomial-length p small name three own_words, words_length w)

    of_degree : Appended at (polynomial p n name u) before after end
    of_degree = subst (λ k. Appended at (polynomial p k name u) before after end) (words_length w) a

module _ (p n : ℕ) (t1 t2 s r out : List ℕ) (g : Given p n t1 t2 s r) (whole : length out ≡ sheet_length n) where
  pub printable : p ≤ 2 ^ 20
  printable = omega (arith, g.models.small)

  pub room_1 : 0 + (length t1 + 7) / 8 * 60 ≤ length out
  unfolding sheet_length
  room_1 = omega (arith, whole, words_length g.models.modulus1)

  module _ (o1 : List ℕ) (e1 : ℕ) (a1 : Appended 0 (polynomial p (length t1) (ascii "T1 ") t1) out o1 e1) (l1 : length o1 ≡ length out) where
    end_1 : e1 ≡ 0 + (n + 7) / 8 * 60
    unfolding ascii
    end_1 = behind p n t1 g.models.modulus1 printable (ascii "T1 ") out o1 0 e1 (omega arith) a1

    pub room_2 : e1 + (length t2 + 7) / 8 * 60 ≤ length o1
    unfolding sheet_length
    room_2 = omega (arith, whole, end_1, words_length g.models.modulus2)

    module _ (o2 : List ℕ) (e2 : ℕ) (a2 : Appended e1 (polynomial p (length t2) (ascii "T2 ") t2) o1 o2 e2) (l2 : length o2 ≡ length o1) where
      end_2 : e2 ≡ e1 + (n + 7) / 8 * 60
      unfolding ascii
      end_2 = behind p n t2 g.models.modulus2 printable (ascii "T2 ") o1 o2 e1 e2 (omega arith) a2

      pub room_3 : e2 + (length s + 7) / 8 * 60 ≤ length o2
      unfolding sheet_length
      room_3 = omega (arith, whole, end_1, end_2, words_length g.words_s)

      module _ (o3 : List ℕ) (e3 : ℕ) (a3 : Appended e2 (polynomial p (length s) (ascii "S  ") s) o2 o3 e3) (l3 : length o3 ≡ length o2) where
        end_3 : e3 ≡ e2 + (n + 7) / 8 * 60
        unfolding ascii
        end_3 = behind p n s g.words_s printable (ascii "S  ") o2 o3 e2 e3 (omega arith) a3

        pub room_4 : e3 + (length r + 7) / 8 * 60 ≤ length o3
        unfolding sheet_length
        room_4 = omega (arith, whole, end_1, end_2, end_3, words_length g.words_r)

        module _ (o4 : List ℕ) (e4 : ℕ) (a4 : Appended e3 (polynomial p (length r) (ascii "R  ") r) o3 o4 e4) (l4 : length o4 ≡ length o3) where
          end_4 : e4 ≡ e3 + (n + 7) / 8 * 60
          unfolding ascii
          end_4 = behind p n r g.words_r printable (ascii "R  ") o3 o4 e3 e4 (omega arith) a4

          pub whole_sheet : o4 ≡ sheet_text p n t1 t2 s r
          unfolding sheet_text sheet_length ascii
          whole_sheet =
              let T1 : List ℕ = polynomial p n (ascii "T1 ") t1 in
              let T2 : List ℕ = polynomial p n (ascii "T2 ") t2 in
              let S : List ℕ = polynomial p n (ascii "S  ") s in
              let R : List ℕ = polynomial p n (ascii "R  ") r in
              let b1 = of_degree p n t1 g.models.modulus1 printable (ascii "T1 ") out o1 0 e1 (omega arith) a1 in
              let b2 = of_degree p n t2 g.models.modulus2 printable (ascii "T2 ") o1 o2 e1 e2 (omega arith) a2 in
              let b3 = of_degree p n s g.words_s printable (ascii "S  ") o2 o3 e2 e3 (omega arith) a3 in
              let b4 = of_degree p n r g.words_r printable (ascii "R  ") o3 o4 e3 e4 (omega arith) a4 in
              let all = append_both 0 e1 e4 T1 (T2 ++ (S ++ R)) out o1 o4 b1 (append_both e1 e2 e4 T2 (S ++ R) o1 o2 o4 b2 (append_both e2 e3 e4 S R o2 o3 o4 b3 b4)) in
              sym (take_all e4 o4 (omega (arith, whole, end_1, end_2, end_3, end_4))) ∙ all.list_is
