-- `push_values` meets its contract: after some turns the values of these turns are put. Assumes nothing.
use Rattle.std.proofs.Common.{◌≡◌, map}
use Rattle.lines.specs.Text.{PutsOn}
use Rattle.text.specs.Text.{spaced}
use Rattle.text.proofs.push_values.Given as goal

abbrev pub invariant-loop-v : goal.invariant-loop-v
invariant-loop-v l = record {
  same : l.page.bytes.ghost_name ≡ l.initial.page.bytes.ghost_name;
  puts : PutsOn l.initial.page (spaced (map (λ y. y.now) l.yielded)) l.page;
}
