-- A receiver by value: what it means, and which there are.
use Rattle.std.specs.Prelude.{◌≡◌, ◌⊎◌, replicate}
use Rattle.rules.specs.Numbers.{psn, words}
use Rattle.promise.specs.Outcome.{Outcome}
use Rattle.promise.specs.Promise.{Meets}
use Rattle.rules.specs.Receiver as rule
use Rattle.rules.specs.Numbered.{number}
use Rattle.rules.specs.Paper.{paper, Reply}
use Rattle.rules.specs.declared.Answer.{Answer}
use Rattle.receiver.specs.declared.Receiver.{Receiver}
use Rattle.receiving.specs.Lent.{Lent, Started}
use Rattle.receiving.specs.Lent as lent

abbrev pub lent_of : Receiver → Lent
lent_of x = lent.lent x.head x.words

abbrev pub meaning : Receiver → rule.Receiver
meaning x = lent.meaning (lent_of x)

-- the record of no connection: all zero
abbrev pub empty : Receiver
empty = record { head = record { room = 0; expected = psn 0; count = 0 }; words = replicate words 0 }

-- "A record is empty (all zero) or comes from a start and the events after it"
abbrev pub Sound : Receiver → Type 0
Sound x = (x ≡ empty) ⊎ Started (lent_of x)

-- an event on the record x, whose rule gives o, is answered r and leaves y
abbrev pub Steps : Receiver → Outcome Answer rule.Receiver → Reply → Receiver → Type 0
Steps x o r y = Meets paper number Sound meaning x o r y
