-- `without_lowest` meets its contract: 0 has no bit; beside the word less 1, the lowest set bit is clear, and those above it are as they were. Assumes
-- nothing.
use mathlib.Core.Path.{◌≡◌, ap, ◌∙◌}
use mathlib.Core.Bool.{not, ◌&&◌}
use Prim.Native.Nat.{ℕ, ◌+◌, ◌-◌, ◌%◌, ◌^◌, ◌<◌}
use native.Mathlib.Omega.{arith}
use native.Mathlib.Decide.{ℕ_discrete}
use lib.Dec.{eqb}
use Rattle.lists.specs.Index.{First}
use Rattle.word.specs.Word.{bit_at}
use Rattle.word.proofs.Bits.{bit_none, bit_at_and, bit_less, some_bit}
use Rattle.word.proofs.without_lowest.Goals as goal

beside : (w t i : ℕ) → w < 2 ^ 64 → First (bit_at w) 64 t → (bit_at w i && bit_at ((w + (2 ^ 64 - 1)) % 2 ^ 64) i) ≡ (bit_at w i && not (eqb i t))
beside w t i small f = elim (ℕ_discrete w 0) [
  | yes e ↦ rw (ap (λ (v : ℕ). bit_at v i) e ∙ bit_none i)
  | no n ↦
      let less : (w + (2 ^ 64 - 1)) % 2 ^ 64 ≡ w - 1 = omega arith in
      ap (λ (v : ℕ). bit_at w i && bit_at v i) less ∙ bit_less t w i (f.here (some_bit w t small n f)) f.none
]

pub returns : goal.returns
returns c = λ t f i l. bit_at_and c.args.w _ i ∙ beside c.args.w t i c.ranges.w.fits f
