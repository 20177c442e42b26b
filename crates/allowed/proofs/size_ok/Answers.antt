-- `size_ok` meets its contract: each return by the test that led there. Assumes nothing.
use borrow.Author.Tests.{le-leb, lt-leb}
use Rattle.rules.specs.Numbers.{size_ok}
use Rattle.allowed.proofs.size_ok.Goals as goal

pub returns-then-size-lt-LEAST_SIZE : goal.returns-then-size-lt-LEAST_SIZE
unfolding size_ok
returns-then-size-lt-LEAST_SIZE c = simp (lt-leb _ _ c.if-size-lt-LEAST_SIZE.true)

pub returns : goal.returns
unfolding size_ok
returns c = simp (le-leb _ _ c.if-size-lt-LEAST_SIZE.false)
