-- `write` meets its contract: what is written so far is the start of a run of pieces, and what is left of the log falls. Assumes nothing.
use Prim.Native.Nat.{◌-◌}
use lib.ListN.{length}
use Rattle.replay.proofs.Written.{Written}
use Rattle.replay.proofs.write.Given as goal

abbrev pub invariant-loop-out : goal.invariant-loop-out
invariant-loop-out l = Written l.log l.out l.at l.state l.total

abbrev pub decreases-loop-out : goal.decreases-loop-out
decreases-loop-out l = length l.log - l.state.place
