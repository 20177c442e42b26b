-- `without` meets its contract, by the bits of `and` and `not`. Assumes nothing.
use Rattle.word.proofs.Bits.{bit_and_not}
use Rattle.word.proofs.without.Goals as goal

pub returns : goal.returns
returns c = λ i h. bit_and_not c.args.v c.args.w i c.ranges.w.fits h
