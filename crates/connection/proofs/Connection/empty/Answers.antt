-- `Connection::empty` meets its contract: both sides are empty. Assumes nothing.
use Rattle.connection.proofs.Connection.empty.Goals as goal

pub returns : goal.returns
returns c i = record { sender = c.empty.ensures i; receiver = c.empty-2.ensures i }
