-- `flags_ok` meets its contract: each return by the tests that led there. Assumes nothing.
use borrow.Author.Tests.{lt-ltb, le-ltb}
use Rattle.rules.specs.Numbers.{flags_ok}
use Rattle.allowed.proofs.flags_ok.Goals as goal

pub returns-then-flags-ge-FLAGS_END : goal.returns-then-flags-ge-FLAGS_END
unfolding flags_ok
returns-then-flags-ge-FLAGS_END c = simp (le-ltb _ _ c.if-flags-ge-FLAGS_END.true)

pub returns-then-flag : goal.returns-then-flag
unfolding flags_ok
returns-then-flag c = simp (lt-ltb _ _ c.if-flags-ge-FLAGS_END.false, ← c.flag.ensures, c.if-flag.true, ← c.flag-then-flag.ensures)

pub returns : goal.returns
unfolding flags_ok
returns c = simp (lt-ltb _ _ c.if-flags-ge-FLAGS_END.false, ← c.flag.ensures, c.if-flag.false)
