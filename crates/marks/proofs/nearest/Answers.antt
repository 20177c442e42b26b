-- `marks::nearest` meets its contract: the words passed have no mark among the n, so the lowest of the first that has one is the nearest.
-- Assumes nothing.
use mathlib.Core.Path.{ap}
use Prim.Native.Nat.{◌<◌, ◌≤◌, ◌+◌, ◌*◌}
use native.Mathlib.Omega.{arith}
use Rattle.rules.specs.Numbers.{psn}
use Rattle.marks.specs.Marks.{offset, Finds}
use Rattle.marks.proofs.Search.{passed_word, inside, finds_first, finds_none}
use Rattle.marks.proofs.nearest.Goals.{After-lowest}
use Rattle.marks.proofs.nearest.Goals as goal

-- the mark that is found is one of the n
among : (c : After-lowest) → let p = 64 * c.loop-j.j + c.lowest.result in (offset c.args.place.0 ≤ p) × (p < offset c.args.place.0 + c.args.n)
among c =
    inside c.args.marked.now _ c.args.n c.loop-j.j _ _ c.word_at.ensures c.range.ensures c.loop-j.invariant.passed c.lowest.result (omega arith)
    c.if-w-ne0.true c.lowest.ensures

pub overflow_sub-j : goal.overflow_sub-j
overflow_sub-j c = (among (goal.at.overflow_sub-j c).After-lowest).0

pub returns-then-w-ne0 : goal.returns-then-w-ne0
unfolding Finds
returns-then-w-ne0 c =
    let found = among (goal.at.returns-then-w-ne0 c).After-lowest in (
      _,
      omega (arith, found),
      finds_first c.args.marked.now _ c.args.n c.loop-j.j _ _ c.word_at.ensures c.range.ensures c.loop-j.invariant.passed c.lowest.result
          (omega arith) c.if-w-ne0.true c.lowest.ensures,
      ap psn c.after.ensures,
    )

pub loop-j-preserved : goal.loop-j-preserved
loop-j-preserved c =
    record {
      within = omega arith;
      passed = passed_word c.args.marked.now _ c.args.n c.loop-j.j _ _ c.word_at.ensures c.range.ensures c.loop-j.invariant.passed c.if-w-ne0.false;
    }

pub returns-then-words-j : goal.returns-then-words-j
unfolding Finds
returns-then-words-j c = finds_none c.args.marked.now _ c.args.n c.loop-j.j c.loop-j.invariant.passed (omega arith)
