-- The rules' own effects on a world, and the runs that they extend: an event brings the rule's answer and leaves the rule's record.
-- Assumes nothing.
use Prim.Native.Nat.{ℕ}
use mathlib.Core.List.{List, ◌∷◌, Memᴰ}
use Rattle.promise.specs.Outcome.{Outcome, left}
use Rattle.rules.specs.Numbers.{psn}
use Rattle.rules.specs.Paper.{Reply as Answered, answered}
use Rattle.rules.specs.Receiving.{arrive}
use Rattle.rules.specs.Receiving as receiving
use Rattle.rules.specs.Sending.{send, timer, resend, step}
use Rattle.rules.specs.declared.Answer.{Answer}
use Rattle.delivery.specs.Wire.{Packet, Fate, arrival, Reply, hearing, Note, Near, Readable}
use Rattle.delivery.specs.Network.{with_sender, on_send, on_resend, on_arrive}
use Rattle.delivery.specs.Network.{sends, resends, timers, hears, arrives, then}
use Rattle.delivery.specs.Rules.{Gives, given, rules, World, Run}

-- what holds of the rule's answer and of the record that it leaves holds of what an event brings
pub by_given : {S : Type 0} {x : S} {o : Outcome Answer S} {a : Answered} {y : S} (P : Answered → S → Type 0)
    → P (answered o) (left x o) → Gives x o a y → P a y
by_given P h given = h

unfoldable pub rule_send : World → ℕ → World
rule_send w z = let o = send w.sending z in on_send rules w z (answered o) (left w.sending o)

unfoldable pub rule_resend : World → World
rule_resend w = let o = resend w.sending in on_resend rules w (answered o) (left w.sending o)

unfoldable pub rule_timer : World → ℕ → World
rule_timer w p = with_sender rules w (left w.sending (timer w.sending (psn p)))

unfoldable pub rule_hear : World → Note → World
rule_hear w n = with_sender rules w (left w.sending (step w.sending (hearing n.reply)))

unfoldable pub rule_arrive : World → Packet → Fate → World
rule_arrive w p f = let o = arrive w.receiving (arrival p f) in on_arrive rules w p f (answered o) (left w.receiving o)

-- a world in which one more reply is noted, and the numbers accepted are l
unfoldable pub noted : World → List ℕ → ℕ → ℕ → Reply → World
noted w l i z r = record {
  sending = w.sending;
  receiving = w.receiving;
  low = w.low;
  at = w.at;
  sent = w.sent;
  wire = w.wire;
  notes = record { reply = r; here = w.at; about = i; size = z } ∷ w.notes;
  accepted = l;
}

module _ {v w : World} (r : Run v w) where
  pub run_send : (z : ℕ) → Run v (rule_send w z)
  unfolding rule_send step
  run_send z = then r (sends z _ _ given)

  pub run_resend : Run v (rule_resend w)
  unfolding rule_resend step
  run_resend = then r (resends _ _ given)

  pub run_timer : (p : ℕ) → Run v (rule_timer w p)
  unfolding rule_timer step
  run_timer p = then r (timers p _ _ given)

  pub run_hear : (n : Note) → Memᴰ n w.notes → Readable w.low n n.reply → Run v (rule_hear w n)
  unfolding rule_hear
  run_hear n there h = then r (hears n there h _ _ given)

  pub run_arrive : (p : Packet) → Memᴰ p w.wire → Near p.number w.at → (f : Fate) → Run v (rule_arrive w p f)
  unfolding rule_arrive receiving.step
  run_arrive p there near f = then r (arrives p there near f _ _ given)
