-- `retire::contradicts` meets its contract: without a set bit none is at odds, and else a set bit is left once those are taken out that lie 2 or
-- more ahead of cack. Assumes nothing.
use mathlib.Core.Path.{sym, ap, ◌∙◌}
use mathlib.Core.Bool.{Bool, not, ◌&&◌}
use native.Mathlib.Omega.{arith}
use Rattle.word.specs.Word.{bit_at}
use Rattle.rules.specs.Retire.{contradicts}
use Rattle.retire.proofs.Judged.{none_set, contradicts_by_bit}
use Rattle.retire.proofs.contradicts.Goals as goal

pub returns-then-block-eq0 : goal.returns-then-block-eq0
unfolding contradicts
returns-then-block-eq0 c = sym (none_set _ c.args.block c.if-block-eq0.true)

pub returns : goal.returns
returns c =
    let a = c.args in
    let o = c.distance-o in
    contradicts_by_bit a.cack.0 a.block o.result c.without.result o.ensures (omega arith)
    (λ j l. c.without.ensures j l ∙ ap (λ (t : Bool). bit_at a.block.bitmap j && not t) (c.bits_ahead.ensures j l))
