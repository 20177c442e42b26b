-- `push_last` meets its contract: the words and the numbers stand one behind the other. Assumes nothing.
use Rattle.lines.proofs.Putting.{puts_more}
use Rattle.text.proofs.Telling.{end_is, log_is}
use Rattle.text.proofs.push_last.Goals.{then-stop-eq0, else-stop-eq0}
use Rattle.text.proofs.push_last.Goals as goal

pub returns-clause-puts : goal.returns-clause-puts
returns-clause-puts c =
    let a = c.args in
    elim c.if-stop-eq0.branch [
      | then-stop-eq0 w ↦
          let count = puts_more w.push_bytes.ensures.puts w.push_next.ensures.puts in
          let text = puts_more count (rw w.page-is at c.push.ensures.puts) in
          rw (end_is a.stop a.place a.count w.if-stop-eq0.true) at text
      | else-stop-eq0 w ↦
          let number = puts_more w.push_bytes-else-stop-eq0.ensures.puts w.push_next-else-stop-eq0.ensures.puts in
          let offset = rw w.offset.ensures at w.push_next-else-stop-eq0-2.ensures.puts in
          let place = puts_more (puts_more number w.push_bytes-else-stop-eq0-2.ensures.puts) offset in
          let text = puts_more place (rw w.page-is at c.push.ensures.puts) in
          rw (log_is a.stop a.place a.count w.if-stop-eq0.false) at text
    ]
