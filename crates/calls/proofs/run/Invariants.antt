-- `run` is safe: every slot stays empty or one that comes from a start and events. Assumes nothing.
use Rattle.table.specs.Slots.{AllSound}
use Rattle.calls.proofs.run.Given as goal

abbrev pub invariant-loop : goal.invariant-loop
invariant-loop l = AllSound l.table
