-- `Connection::step` meets its contract: a close, or an event on one of its sides. Assumes nothing.
use Rattle.connection.proofs.Sides.{on_sender, on_receiver, sender_sound}
use Rattle.rules.specs.Connection.{step}
use Rattle.connection.specs.Record.{meaning}
use Rattle.connection.proofs.Connection.step.Goals as goal

pub step-answer-requires : goal.step-answer-requires
step-answer-requires c = sender_sound _ c.requires

pub returns-in-Close : goal.returns-in-Close
unfolding step
returns-in-Close c = rw c.in-Close.is c.close.ensures

pub returns-in-Sends : goal.returns-in-Sends
unfolding step meaning
returns-in-Sends c = rw c.in-Sends.is (on_sender _ c.requires _ _ _ c.step-answer.ensures)

pub returns-in-Receives : goal.returns-in-Receives
unfolding step meaning
returns-in-Receives c = rw c.in-Receives.is (on_receiver _ c.requires _ _ _ c.step-answer-in-Receives.ensures)
