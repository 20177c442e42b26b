-- `Sender::start` meets its contract: it is what `open` makes of the empty record. Assumes nothing.
use Rattle.sender.proofs.Sender.start.Goals as goal

pub returns : goal.returns
returns c = rw c.empty-next.ensures at c.open-answer.ensures
