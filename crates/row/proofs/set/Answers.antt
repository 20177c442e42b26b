-- `set` meets its contract: one word gets one bit; past the end there is none to set. Assumes nothing.
use mathlib.Core.Bool.{◌||◌, or-false}
use Rattle.std.proofs.Common.{rules}
use Rattle.row.proofs.Rows.{row_changed}
use Rattle.row.proofs.set.Goals as goal

pub returns : goal.returns
returns c =
    let change = c.change.ensures in
    row_changed (λ a b. a || b) or-false c.args.ws.now c.change.new.ws c.args.p
    (λ h. let u = change.within h in (u.0, search rules, u.2)) change.past
