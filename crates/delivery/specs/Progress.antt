-- That demand 3 comes to its end: what each event does for a packet that is not retired yet, and that all that is sent is retired where the
-- host and the network do their part.
use Rattle.std.specs.Prelude.{◌≡◌, Bool, true, false, not, ◌&&◌, ◌∷◌, map, ◌⊎◌, ℕ, suc, ◌+◌, ◌≤◌, ◌<◌, length, get_or}
use Rattle.rules.specs.Numbers.{after, flags_ok, trimmed, trimmed_last_hop, no_buffer}
use Rattle.rules.specs.Sender.{Entry, Sender, outstanding}
use Rattle.rules.specs.declared.Sack.{Sack}
use Rattle.delivery.specs.Wire.{Packet, Fate, Acks, Note}
use Rattle.delivery.specs.Network.{Start, Next, sends, resends, timers, hears, arrives, beside_sender, beside_receiver}
use Rattle.delivery.specs.Rules.{rules, World, Run, begin}
use Rattle.delivery.specs.Promise.{lossless, compared, retired_at}

-- packet i is retired: it lies before place + 1, or is retired ahead of it
pub data Retired (w : World) (i : ℕ) : Type 0 where
  behind : i < w.low → Retired w i
  ahead : (k : ℕ) → i ≡ w.low + k → retired_at w.sending k ≡ true → Retired w i

-- whether entry k of the sender is marked for resending
abbrev pub is_marked : Entry → Bool
is_marked e = e.marked

abbrev pub marked_at : Sender → ℕ → Bool
marked_at x k = get_or (map is_marked x.entries) k false

-- ---- what an event is
-- a fate that leaves the packet whole: flags that 01 allows, untrimmed, and with a buffer
unfoldable pub whole : Fate → Bool
whole f = flags_ok f.flags && not (trimmed f.flags) && not (trimmed_last_hop f.flags) && not (no_buffer f.flags)

-- a copy of packet i comes whole
unfoldable pub Brings : {w u : World} → Next rules w u → ℕ → Type 0
Brings (sends z a x g) i = ⊥
Brings (resends a x g) i = ⊥
Brings (timers p a x g) i = ⊥
Brings (hears m there h a x g) i = ⊥
Brings (arrives p there near f a r g) i = (p.number ≡ i) × (whole f ≡ true)
Brings (beside_sender x g) i = ⊥
Brings (beside_receiver r g) i = ⊥

-- this reply is heard
unfoldable pub Hears : {w u : World} → Next rules w u → Note → Type 0
Hears (sends z a x g) n = ⊥
Hears (resends a x g) n = ⊥
Hears (timers p a x g) n = ⊥
Hears (hears m there h a x g) n = m ≡ n
Hears (arrives p there near f a r g) n = ⊥
Hears (beside_sender x g) n = ⊥
Hears (beside_receiver r g) n = ⊥

-- the timer of the packet at place + 1 runs out
unfoldable pub Times : {w u : World} → Next rules w u → Type 0
Times (sends z a x g) = ⊥
Times (resends a x g) = ⊥
Times {w} (timers p a x g) = p ≡ after w.sending.place 1
Times (hears m there h a x g) = ⊥
Times (arrives p there near f a r g) = ⊥
Times (beside_sender x g) = ⊥
Times (beside_receiver r g) = ⊥

-- the sender is asked to resend
unfoldable pub Resends : {w u : World} → Next rules w u → Type 0
Resends (sends z a x g) = ⊥
Resends (resends a x g) = Unit {0}
Resends (timers p a x g) = ⊥
Resends (hears m there h a x g) = ⊥
Resends (arrives p there near f a r g) = ⊥
Resends (beside_sender x g) = ⊥
Resends (beside_receiver r g) = ⊥

-- ---- what it does
-- a SACK that answers packet i
pub record Sacks (n : Note) (i : ℕ) : Type 0 where
  pub about_is : n.about ≡ i
  pub accepting : Bool
  pub sack : Sack
  pub reply_is : n.reply ≡ Acks accepting sack

-- a packet that comes whole brings a SACK that answers it
abbrev pub BringsSack : Type 0
BringsSack =
    (s : Start) (w u : World) → Run (begin s) w → (e : Next rules w u) (i : ℕ) → Brings e i
    → (n : Note) × Sacks n i × (u.notes ≡ n ∷ w.notes)

-- whenever that SACK is heard, the packet is retired from then on, whatever came between and whatever comes after
abbrev pub Retires : Type 0
Retires =
    (s : Start) (w u v : World) → Run (begin s) w → (e : Next rules w u) (n : Note) (i : ℕ) → Sacks n i → Hears e n → Run u v → Retired v i

-- the timer of the packet at place + 1 marks it
abbrev pub Marks : Type 0
Marks =
    (s : Start) (w u : World) → Run (begin s) w → 0 < outstanding w.sending → (e : Next rules w u) → Times e
    → marked_at u.sending 0 ≡ true

-- and once it is marked, it is what the next resend hands out
abbrev pub HandsOut : Type 0
HandsOut =
    (s : Start) (w u : World) → Run (begin s) w → marked_at w.sending 0 ≡ true → (e : Next rules w u) → Resends e
    → (p : Packet) × (p.number ≡ w.low) × (u.wire ≡ p ∷ w.wire)

-- ---- a course: event after event from a start on, without end. Where nothing happens, a timer that is refused may stand.
pub record Course (s : Start) : Type 0 where
  pub at : ℕ → World
  pub begins : at 0 ≡ begin s
  pub next : (t : ℕ) → Next rules (at t) (at (suc t))

-- the host: again and again the timer of the packet at place + 1 runs out, and later the sender is asked to resend
abbrev pub Diligent : {s : Start} → Course s → Type 0
Diligent c = (t : ℕ) → (a : ℕ) × (b : ℕ) × (t ≤ a) × (a < b) × Times (c.next a) × Resends (c.next b)

-- event t puts a copy of packet i on the wire
abbrev pub Tried : {s : Start} → Course s → ℕ → ℕ → Type 0
Tried c i t = (p : Packet) × (p.number ≡ i) × ((c.at (suc t)).wire ≡ p ∷ (c.at t).wire)

-- a copy of packet i comes whole, and the reply to that copy is heard
pub record Through {s : Start} (c : Course s) (i : ℕ) : Type 0 where
  pub came : ℕ
  pub heard : ℕ
  pub whole_came : Brings (c.next came) i
  pub note : Note
  pub newest : (c.at (suc came)).notes ≡ note ∷ (c.at came).notes
  pub later : came < heard
  pub is_heard : Hears (c.next heard) note

-- the network: a packet that is tried again and again, for as long as it is not retired, gets a copy and its reply through, unless it is
-- retired without
abbrev pub Fair : {s : Start} → Course s → Type 0
Fair c =
    (i : ℕ) → ((t : ℕ) → (u : ℕ) × (t ≤ u) × (Tried c i u ⊎ Retired (c.at u) i)) → Through c i ⊎ ((u : ℕ) × Retired (c.at u) i)

-- then all that was ever sent is retired for good: there is a moment from which on the place is past all that was sent by t
abbrev pub DoesEnd : Type 0
DoesEnd =
    (s : Start) (c : Course s) → Diligent c → Fair c → (t : ℕ) → (u : ℕ) × ((v : ℕ) → u ≤ v → length (c.at t).sent ≤ (c.at v).low)

-- and where nothing is sent after t, both records are in the end those of the run without loss, by what is compared of them
abbrev pub Settles : Type 0
Settles =
    (s : Start) (c : Course s) → Diligent c → Fair c → (t : ℕ) → ((v : ℕ) → t ≤ v → (c.at v).sent ≡ (c.at t).sent)
    → (u : ℕ) × ((v : ℕ) → u ≤ v
    → ((c.at v).sending ≡ (lossless s (c.at t).sent).0) × (compared (c.at v).receiving ≡ compared (lossless s (c.at t).sent).1))

-- such courses there are: every run goes on in one, so neither claim is empty
abbrev pub GoesOn : Type 0
GoesOn = (s : Start) (w : World) → Run (begin s) w → (c : Course s) × Diligent c × Fair c × ((t : ℕ) × (c.at t ≡ w))
