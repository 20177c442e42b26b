-- `told` meets its contract: the values stand before zeros. Assumes nothing.
use Rattle.std.proofs.Common.{arith}
use Rattle.paper.proofs.Showing.{values_first}
use Rattle.paper.proofs.told.Goals as goal

pub returns : goal.returns
returns c =
    let values = c.args.values.now in
    let all = values_first values 8 8 (omega arith) c.requires in
    rw (c.copy_from_slice.ensures.after, all)
