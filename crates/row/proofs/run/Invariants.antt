-- `run` meets its contract: p is at a word's first bit, and no bit below it is clear. Assumes nothing.
use mathlib.Core.Path.{◌≡◌}
use mathlib.Core.Bool.{false}
use Prim.Native.Nat.{ℕ, ◌-◌, ◌%◌, ◌≤◌, ◌<◌}
use Rattle.row.specs.Row.{is_clear}
use Rattle.row.proofs.run.Given as goal

abbrev pub invariant-loop-p : goal.invariant-loop-p
invariant-loop-p l = record { within : l.p ≤ l.n; first : l.p % 64 ≡ 0; set : (i : ℕ) → i < l.p → is_clear l.ws i ≡ false }

abbrev pub decreases-loop-p : goal.decreases-loop-p
decreases-loop-p l = l.n - l.p
