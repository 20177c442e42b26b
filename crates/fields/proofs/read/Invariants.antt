-- `fields::read` meets its contract: after i fields those values are the first of the decoding. Assumes nothing.
use Rattle.std.proofs.Common.{◌≡◌, ◌++◌, take, drop}
use Rattle.lists.specs.Lists.{sum}
use Rattle.fields.specs.Fields.{decode}
use Rattle.fields.proofs.read.Given as goal

abbrev pub invariant-loop-i : goal.invariant-loop-i
invariant-loop-i l = record {
  place : l.at ≡ sum (take l.i l.widths);
  filled : l.values ≡ take l.i (decode l.widths l.bytes) ++ drop l.i l.fn.values;
}
