-- `low` meets its contract: one less than the word that has bit k alone has the bits below k. Assumes nothing.
use mathlib.Core.Path.{sym, ap, ◌∙◌}
use Prim.Native.Nat.{ℕ, ◌-◌}
use native.Mathlib.Omega.{arith}
use borrow.Author.Tests.{lt-ltb}
use Rattle.word.specs.Word.{bit_at}
use Rattle.word.proofs.Bits.{bit_low, shl_one}
use Rattle.word.proofs.low.Goals as goal

pub returns-then-k-ge64 : goal.returns-then-k-ge64
returns-then-k-ge64 c = λ i h. bit_low 64 i ∙ lt-ltb i 64 h ∙ sym (lt-ltb i c.args.k (omega arith))

pub returns : goal.returns
returns c = λ i h. ap (λ (x : ℕ). bit_at (x - 1) i) (shl_one 64 c.args.k c.if-k-ge64.false) ∙ bit_low c.args.k i
