-- `push` meets its contract: a byte is stored where there is room, and a store past the end would change nothing. Assumes nothing.
use Rattle.std.proofs.Common.{length, refl, sym}
use borrow.Author.Tests.{lt-ltb, le-ltb}
use lib.Seq.{set_out}
use Rattle.lines.specs.Text.{next, put, past}
use Rattle.lines.proofs.Page.push.Goals as goal

pub returns-then-self-clause-puts : goal.returns-then-self-clause-puts
unfolding next put past
returns-then-self-clause-puts c =
    let page = c.args.self.now in
    record { bytes_are = refl; index_is = rw (lt-ltb page.at (length page.bytes.now) c.if-self.true) }

pub returns-else-self-clause-puts : goal.returns-else-self-clause-puts
unfolding next put past
returns-else-self-clause-puts c =
    let page = c.args.self.now in
    record {
      bytes_are = sym (set_out page.bytes.now page.at c.args.b c.if-self.false);
      index_is = rw (le-ltb page.at (length page.bytes.now) c.if-self.false);
    }
