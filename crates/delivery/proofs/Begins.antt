-- A start with a room that is allowed and a packet number that is low is done: neither side's is refused. Assumes nothing.
use mathlib.Core.Path.{◌≡◌}
use mathlib.Core.Bool.{true}
use Prim.Native.Nat.{◌<◌}
use Rattle.promise.specs.Outcome.{Done, unless}
use Rattle.rules.specs.Numbers.{turn, room_ok}
use Rattle.rules.specs.Receiver as receiver
use Rattle.rules.specs.Sender as sender
use Rattle.rules.specs.declared.Answer.TheVariants.{Started}
use Rattle.rules.specs.declared.Opening.{Opening}
use borrow.Author.Tests.{lt-ltb}

module _ (o : Opening) (good : room_ok o.room ≡ true) (low : o.first.0 < turn) where
  pub sender_begins : sender.start o ≡ Done (sender.fresh o.room o.first.0) Started
  unfolding sender.start sender.start_refusals unless
  sender_begins = rw (good, lt-ltb o.first.0 turn low)

  pub receiver_begins : receiver.start o ≡ Done (receiver.fresh o.room o.first.0) Started
  unfolding receiver.start receiver.start_refusals unless
  receiver_begins = rw (good, lt-ltb o.first.0 turn low)
