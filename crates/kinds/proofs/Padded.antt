-- A list padded to the code's room is the list with zeros behind it, and has the list's own elements, index by index. Assumes nothing.
use mathlib.Core.Path.{◌≡◌, refl, ap, ◌∙◌}
use mathlib.Core.List.{List, [], ◌∷◌, ◌++◌}
use Prim.Native.Nat.{ℕ, zero, suc, ◌-◌, ◌≤◌, ◌<◌}
use native.Mathlib.Nat.{sub-zero, suc-sub-suc}
use native.Mathlib.Omega.{arith}
use lib.ListN.{length, get_or, replicate}
use Rattle.lists.specs.Index.{table}
use Rattle.lists.proofs.Index.{length_table, get_or_table}
use Rattle.lists.proofs.Lists.{get_or_alike}
use Rattle.rules.specs.Kinds.{event_of}
use Rattle.rules.specs.declared.Cell.{Cell}
use Rattle.rules.specs.declared.Cell.TheVariants.{Bits}
use Rattle.kinds.specs.Padded.{most, padded, padded_cells}

-- ---- a list with room behind it
module _ {A : Type 0} (d : A) where
  table_padded : (n : ℕ) (l : List A) → length l ≤ n → table n (λ i. get_or l i d) ≡ l ++ replicate (n - length l) d
  unfolding table
  table_padded zero [] h = refl
  table_padded zero (a ∷ l) h = absurd (omega arith)
  table_padded (suc n) [] h = rw sub-zero (ap (λ (l : List A). d ∷ l) (rw sub-zero at (table_padded n [] (omega arith))))
  table_padded (suc n) (a ∷ l) h = rw suc-sub-suc (ap (λ (m : List A). a ∷ m) (table_padded n l (omega arith)))

  behind : (l : List A) (m i : ℕ) → get_or (l ++ replicate m d) i d ≡ get_or l i d
  behind [] m i = get_or_alike d m i
  behind (a ∷ l) m zero = refl
  behind (a ∷ l) m (suc i) = behind l m i

-- ---- numbers
pub length_padded : (l : List ℕ) → length (padded l) ≡ most
unfolding padded
length_padded l = length_table most (λ i. get_or l i 0)

pub padded_is : (l : List ℕ) → length l ≤ most → padded l ≡ l ++ replicate (most - length l) 0
unfolding padded
padded_is l h = table_padded 0 most l h

-- what it has at an index
pub padded_at : (l : List ℕ) → length l ≤ most → (i : ℕ) → get_or (padded l) i 0 ≡ get_or l i 0
padded_at l h i = ap (λ (m : List ℕ). get_or m i 0) (padded_is l h) ∙ behind 0 l (most - length l) i

-- ---- cells
pub cell_at : (cs : List Cell) (i : ℕ) (d : Cell) → i < most → get_or (padded_cells cs) i d ≡ get_or cs i (Bits 0)
unfolding padded_cells
cell_at cs i d h = get_or_table most (λ j. get_or cs j (Bits 0)) i d h

-- ---- events
-- an event takes no more fields than the code has room for
pub event_padded : (k : ℕ) (l : List ℕ) → event_of k (padded l) ≡ event_of k l
unfolding padded table event_of
event_padded k l = refl
