-- `marks::mark` meets its contract: one test tells whether the bit is retired or marked, and where it is neither, it is set. Assumes nothing.
use mathlib.Core.Path.{◌≡◌, sym, ap₂, ◌∙◌}
use mathlib.Core.Bool.{◌||◌}
use Prim.Native.Nat.{ℕ, ◌%◌}
use lib.Bits.{bit_or}
use Rattle.word.specs.Word.{bit_at}
use Rattle.row.specs.Row.{at}
use Rattle.marks.proofs.Setting.{joined_bit, marks_none, marks_new}
use Rattle.marks.proofs.mark.Goals.{After-test}
use Rattle.marks.proofs.mark.Goals as goal

-- the test asks both rows
tested : (c : After-test) → (at c.args.retired.now c.args.p || at c.args.marked.now c.args.p) ≡ c.test.result
tested c =
    let a = c.args in
    let words = ap₂ (λ (v w : ℕ). bit_at (bit_or v w) (a.p % 64)) c.word_at.ensures c.word_at-2.ensures in
    sym (c.test.ensures ∙ words ∙ joined_bit a.retired.now a.marked.now a.p)

pub returns-then-test : goal.returns-then-test
returns-then-test c = marks_none _ _ _ (tested (goal.at.returns-then-test c).After-test ∙ c.if-test.true)

pub returns : goal.returns
returns c = marks_new _ _ _ (tested (goal.at.returns c).After-test ∙ c.if-test.false) _ c.set.ensures
