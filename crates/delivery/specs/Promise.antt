-- Demand 3, what is promised of every world that a run reaches from its start.
use Rattle.std.specs.Prelude.{◌≡◌, Bool, true, false, cond, ◌||◌, ◌≢◌, ℕ, ◌+◌, ◌%◌, ◌^◌, ◌<◌, eqb, length, get_or, Err}
use mathlib.Core.List.{List, [], ◌∷◌, map, Memᴰ}
use Rattle.rules.specs.Numbers.{after, before, psn}
use Rattle.promise.specs.Outcome.{left}
use Rattle.rules.specs.Paper.{Reply as Answered, answered}
use Rattle.rules.specs.Receiver.{Receiver}
use Rattle.rules.specs.Receiver as receiver
use Rattle.rules.specs.Receiving.{arrive}
use Rattle.rules.specs.Sender.{Sender, outstanding}
use Rattle.rules.specs.Sender as sender
use Rattle.rules.specs.Sending.{send, step}
use Rattle.rules.specs.Retire.{is_retired}
use Rattle.rules.specs.declared.Arrival.{Arrival}
use Rattle.rules.specs.declared.Refusal.TheVariants.{Contradiction}
use Rattle.delivery.specs.Network.{Start, opening, Sides, Worlds, meant}
use Rattle.delivery.specs.Network as network
use Rattle.delivery.specs.Wire.{Reply, Acks, Nacks, hearing, Message, Silent, Goes, Replies, message, Note}
use Rattle.delivery.specs.Rules.{World, Run, begin}

-- is i among the numbers
unfoldable pub among : List ℕ → ℕ → Bool
among [] i = false
among (j ∷ l) i = eqb j i || among l i

-- each number stands once
unfoldable pub Once : List ℕ → Type 0
Once [] = Unit {0}
Once (i ∷ l) = (among l i ≡ false) × Once l

-- an arrival with no flags
unfoldable pub plain : ℕ → ℕ → Arrival
plain p z = record { psn = psn p; size = z; flags = 0; entropy = 0 }

-- the receiver after those of the packets sent that are in A came "once each in ascending order"
unfoldable pub ascending : Start → (ℕ → Bool) → List ℕ → Receiver
ascending s A [] = receiver.fresh s.receive_room s.first
ascending s A (z ∷ l) =
    let r = ascending s A l in
    cond (A (length l)) (left r (arrive r (plain (after s.first (length l)) z))) r

-- the sender after a message reaches it
unfoldable pub heard : Sender → Message → Sender
heard x Silent = x
heard x (Goes p) = x
heard x (Replies r) = left x (step x (hearing r))

-- "a run of the same packets, one at a time and without loss": a packet is sent, arrives, and its reply is heard
unfoldable pub lossless : Start → List ℕ → Sender × Receiver
lossless s [] = (sender.fresh s.send_room s.first, receiver.fresh s.receive_room s.first)
lossless s (z ∷ l) =
    let y = lossless s l in
    let o = arrive y.1 (plain (after s.first (length l)) z) in
    (heard (left y.0 (send y.0 z)) (message (answered o)), left y.1 o)

-- ---- 02, No. 4: "Demand 3 no longer compares the count; instead the count is the sum over the history of those sizes, modulo 2 to the 32"
-- what is compared of a receiver's record: the expected PSN, and the window, whose length is the room
abbrev pub compared : Receiver → ℕ × List Bool
compared r = (r.expected, r.window)

-- "every arrival answered 0 or 1 adds its size": these are the ones that a SACK answers
unfoldable pub adds : Reply → ℕ → ℕ
adds (Acks b k) z = z
adds (Nacks k) z = 0

-- those sizes over the history of arrivals, in which each that is not refused has its reply
unfoldable pub received : List Note → ℕ
received [] = 0
received (n ∷ l) = received l + adds n.reply n.size

-- whether entry k of the sender is retired
abbrev pub retired_at : Sender → ℕ → Bool
retired_at x k = get_or (map is_retired x.entries) k false

pub record Promise (s : Start) (w : World) : Type 0 where
  -- the numbers without wrapping are those of the records
  pub place_is : w.sending.place ≡ before (after s.first w.low)
  pub next_is : w.low + outstanding w.sending ≡ length w.sent
  pub expected_is : w.receiving.expected ≡ after s.first w.at
  -- and the expected PSN is that of the first packet not accepted
  pub accepted_before : (i : ℕ) → i < w.at → among w.accepted i ≡ true
  pub expected_open : among w.accepted w.at ≡ false
  -- "no packet is accepted twice"
  pub once : Once w.accepted
  -- "nothing is retired unaccepted": neither what lies before place + 1 nor what is retired ahead of it
  pub retired_before : (i : ℕ) → i < w.low → among w.accepted i ≡ true
  pub retired_ahead : (k : ℕ) → retired_at w.sending k ≡ true → among w.accepted (w.low + k) ≡ true
  -- "the receiver's record is the one left by its accepted packets coming once each in ascending order"
  pub in_order : compared w.receiving ≡ compared (ascending s (among w.accepted) w.sent)
  -- "the count is the sum over the history of those sizes, modulo 2 to the 32"
  pub counted : w.receiving.count ≡ received w.notes % 2 ^ 32
  -- "Once the sender has nothing unretired, both records equal those of a run of the same packets, one at a time and without loss"
  pub in_the_end : ((k : ℕ) → k < outstanding w.sending → retired_at w.sending k ≡ true)
      → (w.sending ≡ (lossless s w.sent).0) × (compared w.receiving ≡ compared (lossless s w.sent).1)

-- demand 3, of the rules' own two sides
abbrev pub Delivers : Type 0
Delivers = (s : Start) (w : World) → Run (begin s) w → Promise s w

-- ---- 02, No. 3: "no reply of its runs is answered 17", the refusal of a contradiction, whenever the sender hears it and wherever its numbers
-- lie
abbrev pub Consistent : (n : Sides) → Worlds n → Type 0
Consistent n w =
    (m : Note) → Memᴰ m w.notes → (a : Answered) (x : n.sender.State) → n.sender.Steps w.sending (hearing m.reply) a x
    → a ≢ Err Contradiction

-- ---- the same of any two sides, whose records mean the rules': their world is one of the rules' runs, and so the promise is kept; and
-- their own answer to a reply of the run is never 17
pub record Kept (n : Sides) (sends : n.sender.State → Sender) (receives : n.receiver.State → Receiver) (s : Start) (w : Worlds n) : Type 0 where
  pub run : Run (begin s) (meant sends receives w)
  pub promise : Promise s (meant sends receives w)
  pub consistent : Consistent n w

abbrev pub Keep : (n : Sides) → (n.sender.State → Sender) → (n.receiver.State → Receiver) → Type 0
Keep n sends receives =
    (s : Start) (x : n.sender.State) (r : n.receiver.State)
    → n.sender.Begins (opening s s.send_room) x → n.receiver.Begins (opening s s.receive_room) r
    → (w : Worlds n) → network.Run n (network.begin x r) w → Kept n sends receives s w
