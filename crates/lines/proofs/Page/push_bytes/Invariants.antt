-- `push_bytes` meets its contract: after some turns the bytes of the text before the index are put. Assumes nothing.
use Rattle.std.proofs.Common.{◌≡◌, take}
use Rattle.lines.specs.Text.{PutsOn}
use Rattle.lines.proofs.Page.push_bytes.Given as goal

abbrev pub invariant-loop-b : goal.invariant-loop-b
invariant-loop-b l = record {
  same : l.self.bytes.ghost_name ≡ l.initial.self.bytes.ghost_name;
  puts : PutsOn l.initial.self (take l.b-index l.text) l.self;
}
