-- `lowest` meets its contract, by the machine's count of the zeros below the lowest set bit. Assumes nothing.
use Rattle.word.proofs.Bits.{first_bit}
use Rattle.word.proofs.lowest.Goals as goal

pub returns : goal.returns
returns c = first_bit 64 c.args.w
