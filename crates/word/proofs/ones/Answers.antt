-- `ones` meets its contract: it is the machine's count. Assumes nothing.
use Rattle.word.proofs.Bits.{ones_total}
use Rattle.word.proofs.ones.Goals as goal

pub returns : goal.returns
returns c = ones_total 64 c.args.w c.ranges.w.fits
