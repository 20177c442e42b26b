-- After some turns their lines stand in the buffer, and what is left of the log falls.
use Rattle.std.proofs.Common.{◌≡◌, length, ◌-◌}
use Rattle.player.proofs.Filling.{Filled}
use Rattle.player.proofs.State.fill.Given as goal

abbrev pub invariant-loop-page : goal.invariant-loop-page
invariant-loop-page l = record {
  same : l.page.bytes.ghost_name ≡ l.initial.page.bytes.ghost_name;
  filled : Filled l.log l.initial.self l.from l.initial.page.bytes.now l.page.bytes.now l.self l.page.at;
}

abbrev pub decreases-loop-page : goal.decreases-loop-page
decreases-loop-page l = length l.log - l.self.place
