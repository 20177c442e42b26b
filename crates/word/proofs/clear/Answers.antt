-- `clear` meets its contract: the code takes out the word that has bit i alone. Assumes nothing.
use mathlib.Core.Path.{ap, ◌∙◌}
use mathlib.Core.Bool.{Bool, not, ◌&&◌}
use Prim.Native.Nat.{ℕ, ◌-◌, ◌%◌, ◌^◌, ◌<◌}
use native.Mathlib.Omega.{arith}
use lib.Bits.{bit_and}
use lib.Pow.{pow-lt}
use Rattle.word.specs.Word.{bit_at}
use Rattle.word.proofs.Bits.{bit_and_not, bit_one, shl_one}
use Rattle.word.proofs.clear.Goals as goal

pub returns : goal.returns
returns c =
    λ k h.
    let w = c.args.w in
    let i = c.args.i % 64 in
    let l : i < 64 = omega arith in
    ap (λ (x : ℕ). bit_at (bit_and w ((2 ^ 64 - 1) - x)) k) (shl_one 64 i l)
    ∙ bit_and_not w (2 ^ i) k (pow-lt l) h ∙ ap (λ (b : Bool). bit_at w k && not b) (bit_one i k)
