-- A sender by value: what it means, and which there are.
use Rattle.std.specs.Prelude.{◌≡◌, ◌⊎◌, replicate}
use Rattle.rules.specs.Numbers.{psn, largest_room, words}
use Rattle.promise.specs.Outcome.{Outcome}
use Rattle.promise.specs.Promise.{Meets}
use Rattle.rules.specs.Numbered.{number}
use Rattle.rules.specs.Paper.{paper, Reply}
use Rattle.rules.specs.Sender as rule
use Rattle.rules.specs.declared.Answer.{Answer}
use Rattle.sender.specs.declared.Sender.{Sender}
use Rattle.sending.specs.Lent.{Lent}
use Rattle.sending.specs.Lent as lent

abbrev pub lent_of : Sender → Lent
lent_of x = lent.lent x.head x.sizes x.retired x.marked

abbrev pub meaning : Sender → rule.Sender
meaning x = lent.meaning (lent_of x)

-- a sender that was started
abbrev pub Started : Sender → Type 0
Started x = lent.Started (lent_of x)

-- the record of no connection: all zero
abbrev pub empty : Sender
empty = record {
  head = record { room = 0; place = psn 0; outstanding = 0; held = 0 };
  sizes = replicate largest_room 0;
  retired = replicate words 0;
  marked = replicate words 0;
}

-- "A record is empty (all zero) or comes from a start and the events after it"
abbrev pub Sound : Sender → Type 0
Sound x = (x ≡ empty) ⊎ Started x

-- an event on the record x, whose rule gives o, is answered r and leaves y
abbrev pub Steps : Sender → Outcome Answer rule.Sender → Reply → Sender → Type 0
Steps x o r y = Meets paper number Sound meaning x o r y
