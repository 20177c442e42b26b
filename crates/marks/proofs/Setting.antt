-- A mark set, or not: by the test that comes before it. Assumes nothing.
use mathlib.Core.Path.{◌≡◌, refl, sym, ap, ◌∙◌}
use mathlib.Core.Bool.{Bool, true, false, not, cond, ◌&&◌, ◌||◌, or-false}
use mathlib.Core.List.{List}
use Prim.Native.Nat.{ℕ, ◌/◌, ◌%◌}
use lib.Dec.{eqb, ltb}
use lib.ListN.{get_or}
use lib.Bits.{bit_or}
use Rattle.word.specs.Word.{bit_at}
use Rattle.word.proofs.Bits.{bit_at_or}
use Rattle.row.specs.Row.{at, bits, Becomes, with_bit}
use Rattle.marks.specs.Marks.{markable, MarksBit}

-- a bit joined where it may be, and where it may not
joined : (a b c : Bool) → (a || b && true && c) ≡ (a || (b && c))
joined a true c = refl
joined a false c = refl

kept : (a b c : Bool) → (a || b && false && c) ≡ a
kept a true c = or-false a
kept a false c = or-false a

-- bit k of the row after, where bit p may be marked or not
abbrev bit_then : List ℕ → ℕ → ℕ → Bool → Bool
bit_then marked k p may = at marked k || eqb k p && may && ltb k (bits marked)

row_kept : (marked : List ℕ) (p : ℕ) (may : Bool) → may ≡ false → Becomes marked marked (λ k. bit_then marked k p may)
row_kept marked p may e = record { long = refl; bits_are = λ k. sym (ap (bit_then marked k p) e ∙ kept (at marked k) (eqb k p) (ltb k (bits marked))) }

-- ---- a bit
neither : (a b : Bool) → (not a && not b) ≡ not (a || b)
neither true b = refl
neither false b = refl

module _ (retired marked : List ℕ) (p : ℕ) where
  -- the words of both rows that hold the bit, as one
  pub joined_bit : bit_at (bit_or (get_or retired (p / 64) 0) (get_or marked (p / 64) 0)) (p % 64) ≡ (at retired p || at marked p)
  unfolding at
  joined_bit = bit_at_or (get_or retired (p / 64) 0) (get_or marked (p / 64) 0) (p % 64)

  may_bit : (b : Bool) → (at retired p || at marked p) ≡ b → markable retired marked p ≡ not b
  may_bit b e = neither (at retired p) (at marked p) ∙ ap not e

  pub marks_none : (at retired p || at marked p) ≡ true → MarksBit retired marked p marked 0
  marks_none e =
      let none : markable retired marked p ≡ false = may_bit true e in
      record { newly_is = sym (ap (λ (b : Bool). cond b 1 0) none); marked_are = row_kept marked p (markable retired marked p) none }

  pub marks_new : (at retired p || at marked p) ≡ false → (ws : List ℕ) → Becomes marked ws (with_bit marked p) → MarksBit retired marked p ws 1
  marks_new e ws set =
      let may : markable retired marked p ≡ true = may_bit false e in
      record {
        newly_is = sym (ap (λ (b : Bool). cond b 1 0) may);
        marked_are = record {
          long = set.long;
          bits_are = λ k. set.bits_are k ∙ sym (ap (bit_then marked k p) may ∙ joined (at marked k) (eqb k p) (ltb k (bits marked)));
        };
      }
