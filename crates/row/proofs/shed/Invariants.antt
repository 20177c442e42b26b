-- `shed` meets its contract: the words below i have moved, those from i on stand as they stood, and past the end there is none; where no word goes,
-- all stand as they stood. Assumes nothing.
use mathlib.Core.Path.{◌≡◌}
use mathlib.Core.List.{List}
use Prim.Native.Nat.{ℕ, ◌+◌, ◌≤◌, ◌<◌}
use lib.ListN.{length, get_or}
use Rattle.row.proofs.shed.Given as goal

-- the row ws₀ of which the words below i have moved down by q
pub record Moved (ws₀ : List ℕ) (q : ℕ) (ws : List ℕ) (i : ℕ) : Type 0 where
  pub within : i ≤ length ws₀
  pub long : length ws ≡ length ws₀
  pub moved : (x : ℕ) → x < i → get_or ws x 0 ≡ get_or ws₀ (q + x) 0
  pub stood : (x : ℕ) → i ≤ x → get_or ws x 0 ≡ get_or ws₀ x 0

abbrev pub invariant-loop-i : goal.invariant-loop-i
invariant-loop-i l = Moved l.initial.ws l.q l.ws l.i
