-- `fields::write` meets its contract: after some fields their bits stand at the top of the bytes' number. Assumes nothing.
use Rattle.std.proofs.Common.{◌≡◌, ◌-◌, ◌*◌, length, take}
use Rattle.lists.specs.Lists.{sum}
use Rattle.fields.specs.Fields.{Bytes, number, joined}
use Rattle.fields.specs.Parts.{placed}
use Rattle.fields.proofs.write.Given as goal

abbrev pub invariant-loop-width : goal.invariant-loop-width
invariant-loop-width l = record {
  place : l.at ≡ sum (take (length l.yielded) l.widths);
  joined_are : number l.bytes ≡ placed (8 * length l.fn.bytes - l.at) l.at (joined (take (length l.yielded) l.widths) l.values) (number l.fn.bytes);
  bytes : Bytes l.bytes;
}
