-- `Connection::in_use` meets its contract: a record is in use where its sender has a room. Assumes nothing.
use Rattle.std.proofs.Common.{refl}
use Rattle.sending.specs.Lent as rows
use Rattle.connection.specs.Record.{meaning}
use Rattle.connection.proofs.Connection.in_use.Goals as goal

pub returns : goal.returns
unfolding meaning rows.meaning
returns c = refl
