-- Demand 3, the premises: a sender and a receiver "freshly started at one packet number and not closed", joined by a network that loses,
-- trims, repeats, delays and swaps. "Number packets without wrapping": they are 0, 1, 2, … from the first one sent. The sides are any two
-- that step: the rules' own, the engines by value, or the sides inside tables.
use Rattle.std.specs.Prelude.{◌≡◌, true, cond, ℕ, ◌+◌, ◌≤◌, ◌<◌, eqb, length}
use mathlib.Core.List.{List, [], ◌∷◌, Memᴰ}
use Rattle.rules.specs.Numbers.{turn, after, distance, psn, room_ok}
use Rattle.rules.specs.Receiving.{Receiving, Arrive}
use Rattle.rules.specs.Paper.{Reply as Answered}
use Rattle.rules.specs.declared.Opening.{Opening}
use Rattle.rules.specs.declared.Sending.{Sending}
use Rattle.rules.specs.declared.Sending.TheVariants as sending
use Rattle.delivery.specs.Wire.{Packet, Fate, arrival, Reply, Acks, Nacks, hearing, Message, Silent, Goes, Replies, message, Note, Near, Readable}

-- how the two sides were started: "at one packet number", "the sender's room no larger than the receiver's"
pub record Start : Type 0 where
  pub first : ℕ
  pub send_room : ℕ
  pub receive_room : ℕ
  pub first_low : first < turn
  pub send_good : room_ok send_room ≡ true
  pub receive_good : room_ok receive_room ≡ true
  pub no_larger : send_room ≤ receive_room

abbrev pub opening : Start → ℕ → Opening
opening s room = record { room = room; first = psn s.first }

-- ---- two sides that step
-- A side's records, with "the reader's place" in each; those that its start may leave; the answer and the next record that an event may
-- bring; and the record that anything else may leave.
pub record Side (E : Type 0) : Type 1 where
  pub State : Type 0
  pub place : State → ℕ
  pub Begins : Opening → State → Type 0
  pub Steps : State → E → Answered → State → Type 0
  pub Beside : State → State → Type 0

pub record Sides : Type 1 where
  pub sender : Side Sending
  pub receiver : Side Receiving

-- ---- both records and the two histories; every list has its newest first
pub record World (X R : Type 0) : Type 0 where
  pub sending : X
  pub receiving : R
  -- the numbers of the sender's place + 1 and of the receiver's expected PSN
  pub low : ℕ
  pub at : ℕ
  -- the sizes of the packets sent; all that was ever put on the wire, sent or resent; every reply ever made
  pub sent : List ℕ
  pub wire : List Packet
  pub notes : List Note
  -- the numbers of the packets accepted, each time that one was
  pub accepted : List ℕ

unfoldable pub begin : {X R : Type 0} → X → R → World X R
begin x r = record { sending = x; receiving = r; low = 0; at = 0; sent = []; wire = []; notes = []; accepted = [] }

-- the same world, with each record taken for what it means
unfoldable pub meant : {X R Y Q : Type 0} → (X → Y) → (R → Q) → World X R → World Y Q
meant f g w = record {
  sending = f w.sending;
  receiving = g w.receiving;
  low = w.low;
  at = w.at;
  sent = w.sent;
  wire = w.wire;
  notes = w.notes;
  accepted = w.accepted;
}

-- a packet that goes out is put on the wire, and the sizes sent are noted
unfoldable pub put : {X R : Type 0} → World X R → List ℕ → (ℕ → Packet) → Message → World X R
put w sizes packet Silent = w
put w sizes packet (Goes p) = record {
  sending = w.sending;
  receiving = w.receiving;
  low = w.low;
  at = w.at;
  sent = sizes;
  wire = packet p ∷ w.wire;
  notes = w.notes;
  accepted = w.accepted;
}
put w sizes packet (Replies r) = w

-- a reply is noted, with the number of the packet that it answers and the size that this came with, and the number of the packet that it
-- accepts
unfoldable pub acceptance : Reply → ℕ → List ℕ → List ℕ
acceptance (Acks b k) i l = cond b (i ∷ l) l
acceptance (Nacks k) i l = l

unfoldable pub reply : {X R : Type 0} → World X R → ℕ → ℕ → Message → World X R
reply w i z Silent = w
reply w i z (Goes p) = w
reply w i z (Replies r) = record {
  sending = w.sending;
  receiving = w.receiving;
  low = w.low;
  at = w.at;
  sent = w.sent;
  wire = w.wire;
  notes = record { reply = r; here = w.at; about = i; size = z } ∷ w.notes;
  accepted = acceptance r i w.accepted;
}

-- "a resent packet has the size it was first sent with"
unfoldable pub size_of : List ℕ → ℕ → ℕ
size_of [] i = 0
size_of (z ∷ l) i = cond (eqb (length l) i) z (size_of l i)

-- ---- what each event makes of the world, where it is answered a and leaves the record x of the sender or r of the receiver
module _ (n : Sides) where
  abbrev pub Worlds : Type 0
  Worlds = World n.sender.State n.receiver.State

  -- the number of place + 1 grows as far as the place moves
  unfoldable pub with_sender : Worlds → n.sender.State → Worlds
  with_sender w x = record {
    sending = x;
    receiving = w.receiving;
    low = w.low + distance (n.sender.place w.sending) (n.sender.place x);
    at = w.at;
    sent = w.sent;
    wire = w.wire;
    notes = w.notes;
    accepted = w.accepted;
  }

  unfoldable pub with_receiver : Worlds → n.receiver.State → Worlds
  with_receiver w r = record {
    sending = w.sending;
    receiving = r;
    low = w.low;
    at = w.at + distance (n.receiver.place w.receiving) (n.receiver.place r);
    sent = w.sent;
    wire = w.wire;
    notes = w.notes;
    accepted = w.accepted;
  }

  unfoldable pub on_send : Worlds → ℕ → Answered → n.sender.State → Worlds
  on_send w z a x =
      put (with_sender w x) (z ∷ w.sent) (λ p. record { number = length w.sent; psn = p; size = z }) (message a)

  unfoldable pub again : Worlds → ℕ → Packet
  again w p =
      let i = w.low + distance (after (n.sender.place w.sending) 1) p in
      record { number = i; psn = p; size = size_of w.sent i }

  unfoldable pub on_resend : Worlds → Answered → n.sender.State → Worlds
  on_resend w a x = put (with_sender w x) w.sent (again w) (message a)

  unfoldable pub on_arrive : Worlds → Packet → Fate → Answered → n.receiver.State → Worlds
  on_arrive w p f a r = reply (with_receiver w r) p.number (arrival p f).size (message a)

-- one event. Loss is never being read.
pub data Next (n : Sides) (w : Worlds n) : Worlds n → Type 0 where
  sends : (z : ℕ) (a : Answered) (x : n.sender.State) → n.sender.Steps w.sending (sending.Send z) a x → Next n w (on_send n w z a x)
  resends : (a : Answered) (x : n.sender.State) → n.sender.Steps w.sending sending.Resend a x → Next n w (on_resend n w a x)
  timers : (p : ℕ) (a : Answered) (x : n.sender.State)
      → n.sender.Steps w.sending (sending.Timer (psn p)) a x → Next n w (with_sender n w x)
  hears : (m : Note) → Memᴰ m w.notes → Readable w.low m m.reply → (a : Answered) (x : n.sender.State)
      → n.sender.Steps w.sending (hearing m.reply) a x → Next n w (with_sender n w x)
  arrives : (p : Packet) → Memᴰ p w.wire → Near p.number w.at → (f : Fate) (a : Answered) (r : n.receiver.State)
      → n.receiver.Steps w.receiving (Arrive (arrival p f)) a r → Next n w (on_arrive n w p f a r)
  -- anything else around either side
  beside_sender : (x : n.sender.State) → n.sender.Beside w.sending x → Next n w (with_sender n w x)
  beside_receiver : (r : n.receiver.State) → n.receiver.Beside w.receiving r → Next n w (with_receiver n w r)

-- what can happen from a world v on: events, "whatever the order", any number of times
pub data Run (n : Sides) (v : Worlds n) : Worlds n → Type 0 where
  still : Run n v v
  then : {w u : Worlds n} → Run n v w → Next n w u → Run n v u
