-- 01, The receiving side, as 02, No. 4 amends it.
use Rattle.std.specs.Prelude.{Bool, true, false, not, cond, ◌||◌, List, [], ◌∷◌, ℕ, ◌+◌, ◌*◌, ◌/◌, ◌%◌, ◌^◌, leb, ltb, eqb, length, get_or, take, drop, set, replicate}
use Rattle.rules.specs.Numbers.{before, behind, after, distance, psn, psn_ok, room_ok, ecn, rtx, trimmed, trimmed_last_hop, no_buffer}
use Rattle.lists.specs.Lists.{lead, slide, pack}
use Rattle.promise.specs.Outcome.{Outcome, Done, Refusals, unless}
use Rattle.rules.specs.declared.Arrival.{Arrival}
use Rattle.rules.specs.declared.Block.{Block}
use Rattle.rules.specs.declared.Sack.{Sack}
use Rattle.rules.specs.declared.Nack.{Nack}
use Rattle.rules.specs.declared.Verdict.{Verdict}
use Rattle.rules.specs.declared.Verdict.TheVariants.{Fresh, Known, Beyond, NoBuffer, Trim, TrimLastHop}
use Rattle.rules.specs.declared.Answer.{Answer}
use Rattle.rules.specs.declared.Answer.TheVariants as answer
use Rattle.rules.specs.declared.Opening.{Opening}

-- "It holds its room, the expected PSN E .., which PSNs of E to E + room - 1 are accepted, and a 32-bit count of bytes that wraps."
-- Entry o of the window says whether E + o is accepted.
pub record Receiver : Type 0 where
  pub expected : ℕ
  pub window : List Bool
  pub count : ℕ

abbrev pub room : Receiver → ℕ
room r = length r.window

-- "A record is empty (all zero)"
abbrev pub empty : Receiver
empty = record { expected = 0; window = []; count = 0 }

abbrev pub unused : Receiver → Bool
unused r = eqb (room r) 0

-- "Fresh: E is the first PSN, nothing accepted, count 0"
unfoldable pub fresh : ℕ → ℕ → Receiver
fresh n first = record { expected = first; window = replicate n false; count = 0 }

-- refusals 4, 5
unfoldable pub start_refusals : Opening → Refusals
start_refusals s = (not (room_ok s.room), 4) ∷ (not (psn_ok s.first), 5) ∷ []

unfoldable pub start : Opening → Outcome Answer Receiver
start s = unless (start_refusals s) (Done (fresh s.room s.first.0) answer.Started)

-- rules 1 to 5, "Judged in this order": trimmed, trimmed at the last hop, known, beyond, no buffer
unfoldable pub judge : Bool → Bool → Bool → Bool → Bool → Verdict
judge true l k b n = Trim
judge false true k b n = TrimLastHop
judge false false true b n = Known
judge false false false true n = Beyond
judge false false false false true = NoBuffer
judge false false false false false = Fresh

-- rule 2: "Behind E, or in the window and already accepted"; its "Record unchanged" is amended by 02, No. 4 (`counted`)
unfoldable pub known : Receiver → ℕ → Bool
known r p = behind r.expected p || get_or r.window (distance r.expected p) false

-- rule 3: "Distance from room up to half - 1", what is behind being known already
unfoldable pub beyond : Receiver → ℕ → Bool
beyond r p = leb (room r) (distance r.expected p)

unfoldable pub verdict : Receiver → Arrival → Verdict
verdict r a =
    judge (trimmed a.flags) (trimmed_last_hop a.flags) (known r a.psn.0) (beyond r a.psn.0) (no_buffer a.flags)

-- rule 5: "accepted, .., and E moves to the first PSN not accepted"
unfoldable pub accept : Receiver → Arrival → Receiver
accept r a =
    let w = set r.window (distance r.expected a.psn.0) true in
    record { expected = after r.expected (lead w); window = slide (lead w) w; count = r.count }

-- rule 5: "the size is added to the count", and with 02, No. 4, rule 2 too: "From now on every arrival answered 0 or 1 adds its size"
unfoldable pub counted : Receiver → Arrival → Receiver
counted r a = record { expected = r.expected; window = r.window; count = (r.count + a.size) % 2 ^ 32 }

-- "with d the distance from the new E to the causing PSN, its base is E + 64 x (d / 64 rounded down) if d < room, else E"
unfoldable pub block_at : Receiver → ℕ → ℕ
block_at r p =
    let d = distance r.expected p in
    cond (ltb d (room r)) (64 * (d / 64)) 0

-- "Bit i is set exactly when base + i is accepted and in the window"
unfoldable pub block : Receiver → ℕ → Block
block r p =
    let o = block_at r p in
    record { base = psn (after r.expected o); bitmap = pack (take 64 (drop o r.window)) }

-- "The SACK gives cack = E - 1, the count divided by 256 (24 bits), MPR 0, and a block"; "Both copy entropy and RTX; only the SACK
-- has the ECN mark". The record is the one after the event.
unfoldable pub sack_of : Receiver → Arrival → Sack
sack_of r a = record {
  cack = psn (before r.expected);
  block = block r a.psn.0;
  count = r.count / 256;
  mpr = 0;
  entropy = a.entropy;
  rtx = rtx a.flags;
  mark = ecn a.flags;
}

-- "the others a NACK with the PSN and the reason". The reasons are numbered as the sending side takes them: 1 TRIM,
-- 2 TRIM_LASTHOP, 3 NO_BITMAP, 4 NO_PKT_BUFFER; a SACK has none.
unfoldable pub reason_of : Verdict → ℕ
reason_of Fresh = 0
reason_of Known = 0
reason_of Beyond = 3
reason_of NoBuffer = 4
reason_of Trim = 1
reason_of TrimLastHop = 2

unfoldable pub nack_of : Verdict → Arrival → Nack
nack_of v a = record { psn = a.psn; reason = reason_of v; entropy = a.entropy; rtx = rtx a.flags }

-- "Answers 0 and 1 bring a SACK": the size is counted, and the SACK is that of the record after it
unfoldable pub acked : Receiver → Arrival → Verdict → Outcome Answer Receiver
acked r a v = let r' = counted r a in Done r' (answer.Acked v (sack_of r' a))

-- a fresh packet is accepted and counted, a known one is counted and changes nothing else; "the others a NACK", and "Record unchanged"
unfoldable pub judged : Receiver → Arrival → Verdict → Outcome Answer Receiver
judged r a Fresh = acked (accept r a) a Fresh
judged r a Known = acked r a Known
judged r a Beyond = Done r (answer.Nacked Beyond (nack_of Beyond a))
judged r a NoBuffer = Done r (answer.Nacked NoBuffer (nack_of NoBuffer a))
judged r a Trim = Done r (answer.Nacked Trim (nack_of Trim a))
judged r a TrimLastHop = Done r (answer.Nacked TrimLastHop (nack_of TrimLastHop a))
