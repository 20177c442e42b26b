-- `push_shown` meets its contract: kind, number and values stand one behind the other. Assumes nothing.
use Rattle.std.proofs.Common.{take}
use Rattle.lines.proofs.Putting.{puts_more}
use Rattle.text.proofs.Telling.{line_is}
use Rattle.text.proofs.push_shown.Goals as goal

pub returns-clause-puts : goal.returns-clause-puts
returns-clause-puts c =
    let a = c.args in
    let two = puts_more c.push_number.ensures.puts c.push_next.ensures.puts in
    let three = puts_more two c.push_values.ensures.puts in
    let text = puts_more three c.push.ensures.puts in
    rw (line_is a.kind a.s.number (take a.s.many a.s.values)) at text
