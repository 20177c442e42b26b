-- `reason_ok` meets its contract: each return by the test that led there. Assumes nothing.
use borrow.Author.Tests.{le-leb, lt-leb}
use Rattle.rules.specs.Numbers.{reason_ok}
use Rattle.allowed.proofs.reason_ok.Goals as goal

pub returns-then-reason-lt1 : goal.returns-then-reason-lt1
unfolding reason_ok
returns-then-reason-lt1 c = simp (lt-leb _ _ c.if-reason-lt1.true)

pub returns : goal.returns
unfolding reason_ok
returns c = simp (le-leb _ _ c.if-reason-lt1.false)
