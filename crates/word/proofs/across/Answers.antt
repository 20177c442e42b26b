-- `across` meets its contract: the first word is shifted down, the second up, and the two are joined. Assumes nothing.
use Prim.Native.Nat.{◌%◌}
use native.Mathlib.Omega.{arith}
use Rattle.word.proofs.Bits.{funnel}
use Rattle.word.proofs.across.Goals as goal

pub returns : goal.returns
returns c = λ i h. funnel 64 c.args.low c.args.high (c.args.s % 64) i c.ranges.low.fits (omega arith) h
