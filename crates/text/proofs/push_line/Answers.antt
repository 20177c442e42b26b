-- `push_line` meets its contract: what is shown is the reply's number and values. Assumes nothing.
use Rattle.std.proofs.Common.{take, ap, ◌∙◌}
use Rattle.rules.specs.Paper.{reply_line}
use Rattle.rules.specs.Replay.{line}
use Rattle.paper.specs.declared.Shown.{Shown}
use Rattle.text.proofs.Telling.{values_few, values_are}
use Rattle.text.proofs.push_line.Goals as goal

pub returns-clause-puts : goal.returns-clause-puts
unfolding line
returns-clause-puts c =
    let reply = c.args.reply in
    let is = c.line_of.ensures in
    let values = ap (λ (s : Shown). take s.many s.values) is ∙ values_are (reply_line reply).values (values_few reply) in
    rw (values, ap (λ (s : Shown). s.number) is) at c.push_shown.ensures.puts
