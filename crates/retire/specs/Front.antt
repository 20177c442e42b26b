-- Rows that begin at place + 1's own block of 64: what stands there, and what is left after a SACK once the place has moved.
use Rattle.std.specs.Prelude.{◌≡◌, Bool, true, false, not, cond, ◌&&◌, ◌||◌, List, ℕ, ◌+◌, ◌-◌, ◌*◌, ◌/◌, ◌%◌, ◌≤◌, ◌<◌, leb, ltb, length}
use Rattle.psn.specs.Psn.{turn, after, distance}
use Rattle.lists.specs.Index.{tally, weigh, First}
use Rattle.row.specs.Row.{at, bits, Becomes}
use Rattle.rules.specs.Numbers.{largest_room}
use Rattle.rules.specs.Sender.{Sender, outstanding}
use Rattle.rules.specs.declared.Block.{Block}
use Rattle.retire.specs.Rows.{names, fresh, mark_by, size_by, longest_weighed}
use Rattle.retire.specs.declared.Moved.{Moved}

-- a record of the rules at this place, with n outstanding
pub record Stands (x : Sender) (place n : ℕ) : Type 0 where
  pub place_is : x.place ≡ place
  pub outstanding_is : outstanding x ≡ n

-- the bit of place + 1 in the first word, and the PSN of the first word's first bit
abbrev pub offset : ℕ → ℕ
offset place = (place + 1) % 64

abbrev pub row_first : ℕ → ℕ
row_first place = after place (turn + 1 - offset place)

-- the bits below this are named by cack: up to it, if it is one of the n after the place
abbrev pub reach : ℕ → ℕ → ℕ → ℕ
reach place n cack = offset place + cond (leb (distance place cack) n) (distance place cack) 0

abbrev pub named_by : ℕ → ℕ → ℕ → Block → ℕ → Bool
named_by place n cack b = names (row_first place) (reach place n cack) b

-- what the rows hold once what f names is retired
abbrev pub retired_then : List ℕ → (ℕ → Bool) → ℕ → Bool
retired_then retired f p = at retired p || f p && ltb p (bits retired)

abbrev pub marked_then : List ℕ → (ℕ → Bool) → ℕ → Bool
marked_then marked f p = at marked p && not (f p)

-- rows of the same length, not too long, in which all up to the place are retired and unmarked, and place + 1 is not retired
pub record Ready (retired marked sizes : List ℕ) (place n : ℕ) : Type 0 where
  pub marked_long : length marked ≡ length retired
  pub retired_long : length retired ≤ longest_weighed
  pub sizes_long : length sizes ≡ largest_room
  pub place_low : place < turn
  pub few : n < turn
  pub before : (p : ℕ) → p < offset place → at retired p ≡ true
  pub unmarked : (p : ℕ) → p < offset place → at marked p ≡ false
  pub first_open : at retired (offset place) ≡ false

-- the first bit that is left, when the place has moved m on
abbrev pub front : ℕ → ℕ → ℕ
front place m = 64 * ((offset place + m) / 64)

pub record Moves (retired marked sizes : List ℕ) (place n : ℕ) (f : ℕ → Bool) (retired' marked' : List ℕ) (r : Moved) : Type 0 where
  -- "The place then moves over all retired at the front"
  pub moved : First (λ i. not (retired_then retired f (offset place + i))) n r.by
  pub retired_are : Becomes retired retired' (λ p. retired_then retired f (front place r.by + p))
  pub marked_are : Becomes marked marked' (λ p. marked_then marked f (front place r.by + p))
  pub counted : r.sum.newly ≡ tally (bits retired) (fresh retired f)
  pub alarmed : r.sum.alarms ≡ weigh (bits retired) (fresh retired f) (mark_by marked)
  pub weighed : r.sum.bytes ≡ weigh (bits retired) (fresh retired f) (size_by sizes (row_first place))
