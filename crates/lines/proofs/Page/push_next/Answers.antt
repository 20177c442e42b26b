-- `push_next` meets its contract: the number is put behind the space. Assumes nothing.
use Rattle.lines.proofs.Putting.{puts_more}
use Rattle.lines.proofs.Page.push_next.Goals as goal

pub returns-clause-puts : goal.returns-clause-puts
returns-clause-puts c = puts_more c.push.ensures.puts c.push_number.ensures.puts
