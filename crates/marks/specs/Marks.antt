-- Marks over rows of words: what setting one leaves, and what the search for one finds.
use Rattle.std.specs.Prelude.{◌≡◌, Bool, not, cond, ◌&&◌, ◌||◌, List, Option, Some, None, ℕ, ◌+◌, ◌%◌, ◌≤◌, ◌<◌, eqb, ltb}
use Rattle.psn.specs.declared.Psn.{Psn}
use Rattle.psn.specs.Psn.{turn, after, distance}
use Rattle.lists.specs.Index.{First}
use Rattle.row.specs.Row.{at, bits, Becomes, without_bit}
use Rattle.rules.specs.Numbers.{psn}

-- "marks an outstanding, unretired PSN .. retired or already marked: 0"
abbrev pub markable : List ℕ → List ℕ → ℕ → Bool
markable retired marked p = not (at retired p) && not (at marked p)

pub record MarksBit (retired marked : List ℕ) (p : ℕ) (marked' : List ℕ) (newly : ℕ) : Type 0 where
  pub newly_is : newly ≡ cond (markable retired marked p) 1 0
  pub marked_are : Becomes marked marked' (λ k. at marked k || eqb k p && markable retired marked p && ltb k (bits marked))

-- the bit of place + 1 in the first word
abbrev pub offset : ℕ → ℕ
offset place = (place + 1) % 64

-- whether the i-th PSN after place + 1 is marked
abbrev pub marked_at : List ℕ → ℕ → ℕ → Bool
marked_at ws place i = at ws (offset place + i)

-- a place, and no more PSNs than there are
pub record Reach (place n : ℕ) : Type 0 where
  pub place_low : place < turn
  pub few : n ≤ turn

-- where the bit of a PSN stands, and whether it is one of the n and may be marked
abbrev pub bit_of : ℕ → ℕ → ℕ
bit_of place p = offset place + distance (after place 1) p

abbrev pub markable_psn : List ℕ → List ℕ → ℕ → ℕ → ℕ → Bool
markable_psn retired marked place n p = ltb (distance (after place 1) p) n && markable retired marked (bit_of place p)

-- "marks an outstanding, unretired PSN .. Behind place + 1, retired or already marked: 0"
pub record Marks (retired marked : List ℕ) (place n p : ℕ) (marked' : List ℕ) (newly : ℕ) : Type 0 where
  pub newly_is : newly ≡ cond (markable_psn retired marked place n p) 1 0
  pub marked_are : Becomes marked marked'
      (λ k. at marked k || eqb k (bit_of place p) && markable_psn retired marked place n p && ltb k (bits marked))

-- "hands out the marked PSN nearest after the place": the i-th is the first that is marked, or none of the n is
unfoldable pub Finds : List ℕ → ℕ → ℕ → Option Psn → Type 0
Finds ws place n (Some p) = (i : ℕ) × (i < n) × First (marked_at ws place) n i × (p ≡ psn (after place (1 + i)))
Finds ws place n None = First (marked_at ws place) n n

-- "and clears its mark"
unfoldable pub left_after : List ℕ → ℕ → Option Psn → ℕ → Bool
left_after ws place (Some p) = without_bit ws (bit_of place p.0)
left_after ws place None = at ws

pub record Takes (ws : List ℕ) (place n : ℕ) (ws' : List ℕ) (r : Option Psn) : Type 0 where
  pub finds : Finds ws place n r
  pub marked_are : Becomes ws ws' (left_after ws place r)
