-- `fields::put` meets its contract: so many bits of v, the highest first, stand in the bytes' number. Assumes nothing.
use Rattle.std.proofs.Common.{◌-◌, ◌≡◌, ◌*◌, ◌/◌, ◌^◌, ◌≤◌, length}
use Rattle.fields.specs.Fields.{number}
use Rattle.fields.specs.Parts.{placed}
use Rattle.fields.proofs.put.Given as goal

abbrev pub invariant-loop-at : goal.invariant-loop-at
invariant-loop-at l = record {
  begun : l.from ≤ l.at;
  within : l.at ≤ l.end;
  value : number l.bytes ≡ placed (8 * length l.bytes - l.at) (l.at - l.from) (l.v / 2 ^ (l.end - l.at)) (number l.fn.bytes);
}

abbrev pub decreases-loop-at : goal.decreases-loop-at
decreases-loop-at l = l.end - l.at
