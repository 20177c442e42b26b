-- `bits_ahead` meets its contract: those ahead run from n up to half round the circle, and the block meets that run in one range; where n
-- is half or more there is none. Assumes nothing.
use mathlib.Core.Path.{ap, ◌∙◌}
use Prim.Native.Nat.{ℕ, ◌+◌, ◌-◌, ◌%◌}
use native.Mathlib.Omega.{arith}
use Rattle.psn.specs.Psn.{turn, half}
use Rattle.word.specs.Word.{in_range}
use Rattle.retire.specs.Rows.{ahead}
use Rattle.retire.proofs.Naming.{ahead_near, ahead_far, ahead_none, turned_in}
use Rattle.retire.proofs.bits_ahead.Goals as goal

pub returns-then-n-ge-HALF : goal.returns-then-n-ge-HALF
returns-then-n-ge-HALF c = λ j l. ahead_none c.args.n ((c.args.o + j) % turn) j c.if-n-ge-HALF.true

pub returns-then-at-lt-HALF : goal.returns-then-at-lt-HALF
returns-then-at-lt-HALF c =
    λ j l.
    let n = c.args.n in
    let at = c.args.o % turn in
    c.range.ensures j l ∙ ap (λ (a : ℕ). in_range a (half - at) j) c.saturating_sub.ensures ∙ ahead_near at n j l c.if-at-lt-HALF.true
    ∙ ap (ahead n) (turned_in c.args.o j)

pub returns-else-at-lt-HALF : goal.returns-else-at-lt-HALF
returns-else-at-lt-HALF c =
    λ j l.
    let n = c.args.n in
    c.range-else-at-lt-HALF.ensures j l ∙ ahead_far (c.args.o % turn) n j l c.if-at-lt-HALF.false (omega arith) ∙ ap (ahead n) (turned_in c.args.o j)
