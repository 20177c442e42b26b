-- That demand 3 says something: what a run never meets, and that every run can be brought to its end.
use Rattle.std.specs.Prelude.{◌≡◌}
use mathlib.Core.List.{Memᴰ}
use Rattle.promise.specs.Outcome.{Done}
use Rattle.rules.specs.Receiver.{verdict}
use Rattle.rules.specs.Sender.{Sender, outstanding}
use Rattle.rules.specs.Sending.{step}
use Rattle.rules.specs.declared.Answer.{Answer}
use Rattle.rules.specs.declared.Verdict.TheVariants.{Beyond}
use Rattle.delivery.specs.Network.{Start}
use Rattle.delivery.specs.Wire.{Packet, Fate, Reply, hearing, Note, arrival, Near, Readable}
use Rattle.delivery.specs.Rules.{rules, World, Run, begin}
use Rattle.delivery.specs.Promise.{Consistent}

-- no packet of a run is beyond the receiver's window, so no NACK of a run has reason 3
abbrev pub NeverBeyond : Type 0
NeverBeyond =
    (s : Start) (w : World) → Run (begin s) w → (p : Packet) → Memᴰ p w.wire → Near p.number w.at → (f : Fate)
    → verdict w.receiving (arrival p f) ≡ Beyond → ⊥

-- a reply is done, and not refused
abbrev pub Taken : Sender → Reply → Type 0
Taken x r = (y : Sender) × (a : Answer) × (step x (hearing r) ≡ Done y a)

-- no reply of a run is refused
abbrev pub NeverRefused : Type 0
NeverRefused =
    (s : Start) (w : World) → Run (begin s) w → (n : Note) → Memᴰ n w.notes → Readable w.low n n.reply → Taken w.sending n.reply

-- no reply of a run contradicts itself: none is answered 17 (02, No. 3)
abbrev pub NeverContradicts : Type 0
NeverContradicts = (s : Start) (w : World) → Run (begin s) w → Consistent rules w

-- by some further events every packet of a run is retired: the last of demand 3's conclusions is never empty
pub record Ended (w v : World) : Type 0 where
  pub further : Run w v
  pub same_packets : v.sent ≡ w.sent
  pub all_retired : outstanding v.sending ≡ 0

abbrev pub CanEnd : Type 0
CanEnd = (s : Start) (w : World) → Run (begin s) w → (v : World) × Ended w v
