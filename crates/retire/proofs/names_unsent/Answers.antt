-- `retire::names_unsent` meets its contract: cack is past what is outstanding and not behind, or the block's bits meet those that are unsent.
-- Assumes nothing.
use mathlib.Core.Path.{sym, ap, ◌∙◌}
use mathlib.Core.Bool.{Bool, ◌&&◌}
use Prim.Native.Nat.{ℕ}
use native.Mathlib.Omega.{arith}
use lib.Bits.{bit_and, and_le_l}
use Rattle.psn.specs.Psn.{distance}
use Rattle.word.specs.Word.{bit_at}
use Rattle.word.proofs.Bits.{bit_at_and}
use Rattle.retire.proofs.Judged.{unsent_by_cack, unsent_by_none, unsent_by_bit}
use Rattle.retire.proofs.names_unsent.Goals as goal

pub returns-then-d-lt-HALF : goal.returns-then-d-lt-HALF
returns-then-d-lt-HALF c = λ x h.
    let a = c.args in
    sym (unsent_by_cack x a.place.0 a.n h a.cack.0 a.block c.distance-d.result c.distance-d.ensures c.if-n-d.true c.if-d-lt-HALF.true)

pub returns-then-block-eq0 : goal.returns-then-block-eq0
returns-then-block-eq0 c = λ x h.
    let a = c.args in
    sym (unsent_by_none x a.place.0 a.n h a.cack.0 a.block c.distance-d.result c.distance-d.ensures (λ k l. omega arith) c.if-block-eq0.true)

pub returns : goal.returns
returns c = λ x h.
    let a = c.args in
    let mask = c.bits_ahead.result in
    let o = c.distance-o in
    unsent_by_bit x a.place.0 a.n h a.cack.0 a.block c.distance-d.result c.distance-d.ensures (λ k l. omega arith) o.result (bit_and a.block.bitmap mask)
    (o.ensures ∙ ap (λ (b : ℕ). distance b a.block.base.0) c.after.ensures) (omega (arith, and_le_l a.block.bitmap mask))
    (λ j l. bit_at_and a.block.bitmap mask j ∙ ap (λ (t : Bool). bit_at a.block.bitmap j && t) (c.bits_ahead.ensures j l))
