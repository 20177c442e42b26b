-- Demand 3, what is on the wire: packets with what may befall them, replies with the numbers that they name, and what an answer puts there.
use Rattle.std.specs.Prelude.{◌≡◌, Bool, true, false, cond, ◌||◌, ℕ, ◌+◌, ◌<◌, Ok, Err}
use Rattle.word.specs.Word.{bit_at}
use Rattle.rules.specs.Numbers.{half, after, distance, psn, trimmed, trimmed_last_hop}
use Rattle.rules.specs.Paper.{Reply as Answered}
use Rattle.rules.specs.declared.Sending.{Sending}
use Rattle.rules.specs.declared.Sending.TheVariants as sending
use Rattle.rules.specs.declared.Arrival.{Arrival}
use Rattle.rules.specs.declared.Sack.{Sack}
use Rattle.rules.specs.declared.Nack.{Nack}
use Rattle.rules.specs.declared.Verdict.{Verdict}
use Rattle.rules.specs.declared.Verdict.TheVariants.{Fresh, Known, Beyond, NoBuffer, Trim, TrimLastHop}
use Rattle.rules.specs.declared.Answer.TheVariants as answer

-- ---- packets
pub record Packet : Type 0 where
  pub number : ℕ
  pub psn : ℕ
  pub size : ℕ

-- what may befall a packet on the way: any flags, so ECN, RTX, trimming and no buffer, any entropy, and the size left of it where it is
-- trimmed
pub record Fate : Type 0 where
  pub entropy : ℕ
  pub flags : ℕ
  pub cut : ℕ

unfoldable pub arrival : Packet → Fate → Arrival
arrival p f = record {
  psn = psn p.psn;
  size = cond (trimmed f.flags || trimmed_last_hop f.flags) f.cut p.size;
  flags = f.flags;
  entropy = f.entropy;
}

-- ---- replies: a SACK, with whether it accepts; a NACK
pub data Reply : Type 0 where
  Acks : Bool → Sack → Reply
  Nacks : Nack → Reply

-- the reply as the sender's event
unfoldable pub hearing : Reply → Sending
hearing (Acks b k) = sending.Sack k.cack k.block
hearing (Nacks k) = sending.Nack k.psn k.reason

-- what an answer puts on the wire: nothing; a packet with this PSN; a reply
pub data Message : Type 0 where
  Silent : Message
  Goes : ℕ → Message
  Replies : Reply → Message

unfoldable pub accepts : Verdict → Bool
accepts Fresh = true
accepts Known = false
accepts Beyond = false
accepts NoBuffer = false
accepts Trim = false
accepts TrimLastHop = false

unfoldable pub message : Answered → Message
message (Err e) = Silent
message (Ok answer.Started) = Silent
message (Ok answer.Closed) = Silent
message (Ok (answer.Sent p)) = Goes p.0
message (Ok (answer.Acked v k)) = Replies (Acks (accepts v) k)
message (Ok (answer.Nacked v k)) = Replies (Nacks k)
message (Ok (answer.Retired k)) = Silent
message (Ok (answer.Marked n)) = Silent
message (Ok (answer.Expired n)) = Silent
message (Ok (answer.Resent p)) = Goes p.0

-- a reply on the wire, with the numbers of the receiver's expected PSN when it was made and of the packet that it answers, and the size
-- that this packet came with
pub record Note : Type 0 where
  pub reply : Reply
  pub here : ℕ
  pub about : ℕ
  pub size : ℕ

-- ---- "Whenever a message is read, every packet number it names lies fewer than 8,388,608 from the reader's place"
abbrev pub Near : ℕ → ℕ → Type 0
Near a b = (a < b + half) × (b < a + half)

-- the number of a SACK's base, which is as far past its cack + 1 as the PSNs say
unfoldable pub base_number : ℕ → Sack → ℕ
base_number here k = here + distance (after k.cack.0 1) k.block.base.0

-- The sender's place has the number before `low`, and a cack the number before `here`: so each number is taken one up. A SACK names its
-- cack and the PSN of each set bit, a NACK its PSN.
unfoldable pub Readable : ℕ → Note → Reply → Type 0
Readable low n (Acks b k) =
    Near n.here low × ((j : ℕ) → j < 64 → bit_at k.block.bitmap j ≡ true → Near (base_number n.here k + j + 1) low)
Readable low n (Nacks k) = Near (n.about + 1) low
