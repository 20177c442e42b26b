-- A connection by value: what it means, and which there are.
use Rattle.std.specs.Prelude.{◌≡◌, ◌⊎◌}
use Rattle.promise.specs.Outcome.{Outcome}
use Rattle.promise.specs.Promise.{Meets}
use Rattle.rules.specs.Numbered.{number}
use Rattle.rules.specs.Paper.{paper, Reply}
use Rattle.rules.specs.Connection as rule
use Rattle.rules.specs.declared.Answer.{Answer}
use Rattle.sender.specs.Record as sender
use Rattle.receiving.specs.Lent as lent
use Rattle.receiver.specs.Record as receiver
use Rattle.connection.specs.declared.Connection.{Connection}

unfoldable pub meaning : Connection → rule.Connection
meaning c = record { sender = sender.meaning c.sender; receiver = receiver.meaning c.receiver }

-- the record of no connection: all zero
abbrev pub empty : Connection
empty = record { sender = sender.empty; receiver = receiver.empty }

-- both sides were started
pub record Started (c : Connection) : Type 0 where
  pub sends : sender.Started c.sender
  pub receives : lent.Started (receiver.lent_of c.receiver)

-- "A record is empty (all zero) or comes from a start and the events after it"
abbrev pub Sound : Connection → Type 0
Sound c = (c ≡ empty) ⊎ Started c

-- an event on the record c, whose rule gives o, is answered r and leaves d
abbrev pub Steps : Connection → Outcome Answer rule.Connection → Reply → Connection → Type 0
Steps c o r d = Meets paper number Sound meaning c o r d
