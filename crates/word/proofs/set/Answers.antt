-- `set` meets its contract: the code joins the word that has bit i alone. Assumes nothing.
use mathlib.Core.Path.{ap, ◌∙◌}
use mathlib.Core.Bool.{Bool, ◌||◌}
use Prim.Native.Nat.{ℕ, ◌%◌, ◌^◌}
use native.Mathlib.Omega.{arith}
use lib.Bits.{bit_or}
use Rattle.word.specs.Word.{bit_at}
use Rattle.word.proofs.Bits.{bit_at_or, bit_one, shl_one}
use Rattle.word.proofs.set.Goals as goal

pub returns : goal.returns
returns c =
    λ k h.
    let w = c.args.w in
    let i = c.args.i % 64 in
    ap (λ (x : ℕ). bit_at (bit_or w x) k) (shl_one 64 i (omega arith)) ∙ bit_at_or w (2 ^ i) k ∙ ap (λ (b : Bool). bit_at w k || b) (bit_one i k)
