-- `push_number` meets its contract: what `io::decimal` answers are the fewest digits that hold the number, which are its decimal digits. Assumes nothing.
use mathlib.Core.Path.{◌≡◌, ◌∙◌}
use lib.ListN.{take}
use Rattle.lines.specs.Text.{decimal}
use Rattle.lines.proofs.Decimal.{fewest_digits, digits_fit}
use Rattle.lines.proofs.Page.push_number.Goals as goal

pub returns-clause-puts : goal.returns-clause-puts
unfolding decimal
returns-clause-puts c =
    let called = c.decimal-k in
    let k = called.result in
    let n = c.args.n in
    let few = called.ensures.len in
    let same : take k called.new.out ≡ decimal n = called.ensures.digits ∙ fewest_digits 20 k n (digits_fit k n c.ranges.n.fits few) few in
    rw same at c.push_bytes.ensures.puts
