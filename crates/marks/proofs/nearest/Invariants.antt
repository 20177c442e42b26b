-- j is at most the number of words, and no word before it has a mark among the n. Assumes nothing.
use Prim.Native.Nat.{◌-◌, ◌≤◌}
use Rattle.marks.proofs.Search.{Passed}
use Rattle.marks.proofs.nearest.Given as goal

abbrev pub invariant-loop-j : goal.invariant-loop-j
invariant-loop-j l = record { within : l.j ≤ l.words; passed : Passed l.marked l.s l.n l.j }

abbrev pub decreases-loop-j : goal.decreases-loop-j
decreases-loop-j l = l.words - l.j
