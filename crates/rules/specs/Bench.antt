-- 01, From the bench: the starred cases, and L, as one table. A case asks for events on a fresh connection, with a look at its receiver's
-- record between them, for a log's records or for its answers, and has the lines that come back. 02, No. 3 amends S1, No. 4 "R3's
-- record and the known half of R6", and No. 8 the line of a SACK.
use Rattle.std.specs.Prelude.{◌≡◌, true, false, List, [], ◌∷◌, ◌++◌, map, ℕ, zero, suc, ◌+◌, ◌-◌, ◌^◌, length, replicate}
use Rattle.promise.specs.Line.{Line, refused, done}
use Rattle.promise.specs.Outcome.{left, on_paper}
use Rattle.rules.specs.Numbers.{turn, half, after, psn}
use Rattle.lists.specs.Lists.{pack}
use Rattle.rules.specs.Receiver.{Receiver, room}
use Rattle.rules.specs.Receiving.{Arrive, arrive}
use Rattle.rules.specs.Sender.{Sender}
use Rattle.rules.specs.Retire.{report}
use Rattle.rules.specs.Connection.{Connection, empty, start, step}
use Rattle.rules.specs.Kinds.{plain}
use Rattle.rules.specs.Paper.{paper, reply_line, read_line}
use Rattle.rules.specs.Log.{read, whole}
use Rattle.rules.specs.Replay.{Replied, Last, End, Log, replay}
use Rattle.rules.specs.Limits.{Limits}
use Rattle.rules.specs.declared.Report.{Report}
use Rattle.rules.specs.declared.Sending.TheVariants.{Send, Sack, Nack, Timer, Resend}
use Rattle.rules.specs.declared.Use.{Use}
use Rattle.rules.specs.declared.Use.TheVariants.{Sends, Receives}
use Rattle.rules.specs.Outcomes.{Record, Nothing}

-- a row's name on the bench: R1 to R6, S1 to S5, what is given before the first, and what follows the last: a packet that comes again, a
-- SACK that comes late; a SACK of which half might be retired; a NACK's reason, which no line of a log shows; a SACK whose one set bit lies
-- so far ahead of cack; and a SACK that finds so many false alarms
pub data Label : Type 0 where
  R : ℕ → Label
  S : ℕ → Label
  Given : Label
  Again : Label
  Late : Label
  HalfOf : Label
  Reason : ℕ → Label
  Bit : ℕ → Label
  Alarms : ℕ → Label

-- what a row asks of the bench's connection: an event, or what its receiver keeps
pub data Asked : Type 0 where
  Event : Use → Asked
  Look : Asked

-- and the line that comes back
pub record Row : Type 0 where
  pub label : Label
  pub asked : Asked
  pub told : Line

pub data Case : Type 0 where
  -- events one after the other
  Events : List Row → Case
  -- a log's records, and what ends it
  Records : List ℕ → List Line → Case
  -- a log's answers, and its last line's numbers
  Answers : List ℕ → List Line → Case

-- what a look gives: E, the room, the window's bits and the count
abbrev pub kept : ℕ → ℕ → ℕ → ℕ → Line
kept expected room window count = done 0 (expected ∷ room ∷ window ∷ count ∷ []) []

-- ---- what the rules say
unfoldable pub lines : Connection → List Row → List Line
lines c [] = []
lines c (r ∷ l) = elim r.asked [
  | Event e ↦ on_paper paper (step c e) ∷ lines (left c (step c e)) l
  | Look ↦ kept c.receiver.expected (room c.receiver) (pack c.receiver.window) c.receiver.count ∷ lines c l
]

-- "Receiver, room 64, first PSN 16,777,214"; "Sender, room 64, first PSN 10"
unfoldable pub bench : Connection
bench = left empty (start (record {
  sending = record { room = 64; first = psn 10 };
  receiving = record { room = 64; first = psn 16777214 };
  options = plain;
}))

unfoldable pub records : ℕ → List ℕ → ℕ → List Line
records zero log place = []
records (suc most) log place = elim (read log place) [
  | Record slot e kind next ↦ read_line (Record slot e kind next) ∷ records most log next
  | Nothing n ↦ read_line (Nothing n) ∷ []
]

unfoldable pub ends : Last → Line
ends (End n) = done 0 (n ∷ []) []
ends (Log r o) = done r (o ∷ []) []

unfoldable pub answers : List Replied → Last → List Line
answers [] last = ends last ∷ []
answers (r ∷ l) last = reply_line r.answer ∷ answers l last

unfoldable pub told : Case → List Line
told (Events l) = lines bench l
told (Records log l) = records (suc (length log)) log 0
told (Answers log l) = answers (replay log).lines (replay log).last

-- ---- what the bench says
abbrev pub row_told : Row → Line
row_told r = r.told

unfoldable pub expected : Case → List Line
expected (Events l) = map row_told l
expected (Records log l) = l
expected (Answers log l) = l

abbrev pub row : Label → Use → Line → Row
row l e t = record { label = l; asked = Event e; told = t }

abbrev pub look : Label → Line → Row
look l t = record { label = l; asked = Look; told = t }

-- an arrival of 100 bytes with these flags, and with none
abbrev pub flagged : ℕ → ℕ → Use
flagged flags p = Receives (Arrive (record { psn = psn p; size = 100; flags = flags; entropy = 7 }))

abbrev pub arrives : ℕ → Use
arrives p = flagged 0 p

abbrev pub sacks : ℕ → ℕ → ℕ → Use
sacks cack base bitmap = Sends (Sack (psn cack) (record { base = psn base; bitmap = bitmap }))

-- the arrival answer, cack, base, bitmap and count / 256 of a SACK; the arrival answer, PSN and reason of a NACK
abbrev pub acked : ℕ → ℕ → ℕ → ℕ → ℕ → Line
acked v cack base bitmap count = done 4 (v ∷ cack ∷ base ∷ bitmap ∷ count ∷ 7 ∷ 0 ∷ 0 ∷ []) (0 ∷ [])

abbrev pub nacked : ℕ → ℕ → ℕ → Line
nacked v p reason = done 4 (v ∷ p ∷ 7 ∷ 0 ∷ []) (reason ∷ [])

-- newly retired, the place, held bytes and false alarms
abbrev pub retired : ℕ → ℕ → ℕ → ℕ → Line
retired newly place held alarms = done 5 (newly ∷ place ∷ held ∷ alarms ∷ []) []

-- 100 bytes are sent as p; p is marked by a NACK, or by a timer; p is resent
abbrev pub sends : ℕ → Row
sends p = row Given (Sends (Send 100)) (done 3 (p ∷ []) [])

abbrev pub nacks : ℕ → Row
nacks p = row Given (Sends (Nack (psn p) 1)) (done 6 (1 ∷ []) [])

abbrev pub expires : ℕ → Row
expires p = row Given (Sends (Timer (psn p))) (done 7 (1 ∷ []) [])

abbrev pub resends : ℕ → Row
resends p = row Given (Sends Resend) (done 8 (p ∷ []) [])

-- R1 to R6, and then 63 once more, which is accepted and still in the window
abbrev pub receiving : List Row
receiving =
    row (R 1) (arrives 16777215) (acked 0 16777213 16777214 2 0)
    ∷ row (R 2) (arrives 16777214) (acked 0 16777215 0 0 0)
    ∷ row (R 3) (arrives 16777215) (acked 1 16777215 0 0 1)
    ∷ look (R 3) (kept 0 64 0 300)
    ∷ row (R 4) (arrives 63) (acked 0 16777215 0 (2 ^ 63) 1)
    ∷ row (R 5) (arrives 64) (nacked 2 64 3)
    ∷ row (R 6) (arrives 8388607) (nacked 2 8388607 3)
    ∷ look (R 6) (kept 0 64 (2 ^ 63) 400)
    ∷ row (R 6) (arrives 8388608) (acked 1 16777215 0 (2 ^ 63) 1)
    ∷ look (R 6) (kept 0 64 (2 ^ 63) 500)
    ∷ row Again (arrives 63) (acked 1 16777215 0 (2 ^ 63) 2)
    ∷ look Again (kept 0 64 (2 ^ 63) 600)
    ∷ []

-- each reason as the sending side takes it, "1 TRIM, 2 TRIM_LASTHOP, 3 NO_BITMAP, 4 NO_PKT_BUFFER": trimmed, trimmed at the last hop,
-- beyond the window, no buffer. 02, No. 4: "beyond, no-buffer and trimmed ones still don't" add their sizes
abbrev pub reasons : List Row
reasons =
    row (Reason 1) (flagged 4 16777214) (nacked 4 16777214 1)
    ∷ row (Reason 2) (flagged 8 16777214) (nacked 5 16777214 2)
    ∷ row (Reason 3) (arrives 62) (nacked 2 62 3)
    ∷ row (Reason 4) (flagged 16 16777214) (nacked 3 16777214 4)
    ∷ look (Reason 4) (kept 16777214 64 0 0)
    ∷ []

-- "four sends of 100"
abbrev pub four_sends : List Row
four_sends = sends 10 ∷ sends 11 ∷ sends 12 ∷ sends 13 ∷ []

-- S1 to S5, and then a SACK whose cack is behind the place: "its set bits still count". 02, No. 3: "Case S1 becomes 17; with cack 12 in its
-- place it gives 8", and as S2 shows, nothing up to that cack was retired
abbrev pub sending : List Row
sending =
    row (S 1) (sacks 13 14 1) (refused 17)
    ∷ row HalfOf (sacks 12 14 1) (refused 8)
    ∷ row (S 2) (sacks 9 10 10) (retired 2 9 200 0)
    ∷ row (S 3) (sacks 9 10 10) (retired 0 9 200 0)
    ∷ row (S 4) (Sends (Nack (psn 12) 1)) (done 6 (1 ∷ []) [])
    ∷ row (S 4) (Sends Resend) (done 8 (12 ∷ []) [])
    ∷ row (S 4) (Sends Resend) (refused 9)
    ∷ row (S 5) (sacks 11 12 0) (retired 1 11 100 0)
    ∷ row Late (sacks 9 12 1) (retired 1 13 0 0)
    ∷ []

-- a SACK with one set bit, bit j of its block, which lies d ahead of cack
abbrev pub bit : ℕ → ℕ → ℕ → Line → Row
bit cack d j told = row (Bit d) (sacks cack (after cack (turn + d - j)) (2 ^ j)) told

-- 02, No. 3, on each side of each edge: cack, cack + 1 and cack - 1 are refused and cack + 2 is not; cack + half is behind cack, and
-- cack + half - 1 is ahead of it, where it names unsent unless it is behind place + 1. Then late, with nothing outstanding, and for a cack
-- that is unsent itself; 5 comes before, and where no bit is set there is nothing to refuse
abbrev pub contradicting : List Row
contradicting =
    bit 9 0 0 (refused 17)
    ∷ bit 9 0 63 (refused 17)
    ∷ bit 9 1 0 (refused 17)
    ∷ bit 9 1 63 (refused 17)
    ∷ bit 9 (turn - 1) 0 (refused 17)
    ∷ bit 9 (turn - 1) 63 (refused 17)
    ∷ bit 9 half 0 (refused 17)
    ∷ bit 9 half 63 (refused 17)
    ∷ bit 9 (half - 1) 0 (refused 8)
    ∷ bit 9 (half - 1) 63 (refused 8)
    ∷ row (Bit 1) (sacks 9 10 3) (refused 17)
    ∷ bit 9 2 63 (retired 1 9 300 0)
    ∷ bit 12 half 0 (refused 17)
    ∷ bit 12 (half - 1) 0 (retired 2 12 100 0)
    ∷ bit 9 1 0 (refused 17)
    ∷ bit 9 4 0 (retired 1 13 0 0)
    ∷ bit 9 0 0 (refused 17)
    ∷ bit 13 1 0 (refused 17)
    ∷ bit 13 2 0 (refused 8)
    ∷ bit 20 1 0 (refused 17)
    ∷ bit 20 2 0 (refused 8)
    ∷ row (Bit 0) (sacks turn 0 1) (refused 5)
    ∷ row (Bit 1) (sacks 13 (turn + 14) 1) (refused 5)
    ∷ row Late (sacks 13 13 0) (retired 0 13 0 0)
    ∷ []

-- 02, No. 8, after four sends. None is marked; one is marked and retired by cack; one by a bit, and neither the same SACK again nor a cack
-- that passes over it counts it twice. A SACK that names a PSN by cack and by a bit is refused with 17. Then: marked, resent, retired;
-- marked, resent, marked again, retired; marked and still outstanding, and then retired; three at once, of which two were marked
abbrev pub alarming : List Row
alarming =
    row (Alarms 0) (sacks 10 11 0) (retired 1 10 300 0)
    ∷ nacks 11
    ∷ row (Alarms 1) (sacks 11 12 0) (retired 1 11 200 1)
    ∷ expires 13
    ∷ row (Alarms 1) (sacks 11 12 2) (retired 1 11 100 1)
    ∷ row (Alarms 0) (sacks 11 12 2) (retired 0 11 100 0)
    ∷ nacks 12
    ∷ row (Bit 0) (sacks 12 12 1) (refused 17)
    ∷ resends 12
    ∷ row (Alarms 0) (sacks 13 14 0) (retired 1 13 0 0)
    ∷ sends 14
    ∷ expires 14
    ∷ resends 14
    ∷ nacks 14
    ∷ row (Alarms 1) (sacks 14 15 0) (retired 1 14 0 1)
    ∷ sends 15
    ∷ sends 16
    ∷ nacks 16
    ∷ row (Alarms 0) (sacks 15 16 0) (retired 1 15 100 0)
    ∷ row (Alarms 1) (sacks 16 17 0) (retired 1 16 0 1)
    ∷ sends 17
    ∷ sends 18
    ∷ sends 19
    ∷ sends 20
    ∷ expires 17
    ∷ nacks 20
    ∷ row (Alarms 2) (sacks 17 18 6) (retired 3 17 100 2)
    ∷ []

-- L
abbrev pub log_L : List ℕ
log_L =
    0x4D ∷ 0x52 ∷ 0x01 ∷ 0x00 ∷ 0x00 ∷ 0x40 ∷ 0x00 ∷ 0x00 ∷ 0x0A ∷ 0x00 ∷ 0x40 ∷ 0x00 ∷ 0x00 ∷ 0x0A
    ∷ 0x4D ∷ 0x52 ∷ 0x03 ∷ 0x00 ∷ 0x00 ∷ 0x64
    ∷ 0x4D ∷ 0x52 ∷ 0x04 ∷ 0x00 ∷ 0x00 ∷ 0x00 ∷ 0x0A ∷ 0x00 ∷ 0x64 ∷ 0x00 ∷ 0x00 ∷ 0x00 ∷ 0x00 ∷ 0x07 ∷ []

-- its reading: the event's kind, the place after the record, the slot, the event's fields; then the end
abbrev pub reading_L : List Line
reading_L =
    done 1 (1 ∷ 14 ∷ 0 ∷ 64 ∷ 10 ∷ 64 ∷ 10 ∷ []) []
    ∷ done 3 (3 ∷ 20 ∷ 0 ∷ 100 ∷ []) []
    ∷ done 4 (4 ∷ 34 ∷ 0 ∷ 10 ∷ 100 ∷ 0 ∷ 7 ∷ []) []
    ∷ refused 0
    ∷ []

-- its answers, and N of `end N`
abbrev pub answers_L : List Line
answers_L = done 1 [] [] ∷ done 3 (10 ∷ []) [] ∷ acked 0 10 11 0 0 ∷ done 0 (3 ∷ []) [] ∷ []

abbrev pub cases : List Case
cases =
    Events receiving ∷ Events reasons ∷ Events (four_sends ++ sending) ∷ Events (four_sends ++ contradicting)
    ∷ Events (four_sends ++ alarming) ∷ Records log_L reading_L ∷ Answers log_L answers_L ∷ []

-- a receiver whose count is the last before "a 32-bit count of bytes that wraps"
abbrev pub nearly_wrapped : Receiver
nearly_wrapped = record { expected = 0; window = replicate 64 false; count = 4294967295 }

-- the count that 100 bytes leave there
abbrev pub wrapped : ℕ → ℕ
wrapped p = (left nearly_wrapped (arrive nearly_wrapped (record { psn = psn p; size = 100; flags = 0; entropy = 7 }))).count

-- a sender with one packet outstanding, 10, which is marked; and what it reports of cack 10 with the bit for 10 set. A SACK that says so is
-- refused with 17 before it is reported (02, No. 3), so no event shows it
abbrev pub one_marked : Sender
one_marked = record { room = 64; place = 9; entries = record { size = 100; retired = false; marked = true } ∷ [] }

abbrev pub named_twice : Report
named_twice = report one_marked 10 (record { base = psn 10; bitmap = 1 })

-- the one claim: each case is answered as it says. "Whole lengths: 14, 4, 6, 14, 18, 8, 7, 4" stands beside it, and the wrap of the
-- count by a fresh packet and by a known one, and that a packet which cack and a bit name is counted once; and rooms and slots
-- at their limits (02, No. 6).
pub record Starred : Type 0 where
  pub as_worked : map told cases ≡ map expected cases
  pub count_wraps : map wrapped (0 ∷ 16777215 ∷ []) ≡ 99 ∷ 99 ∷ []
  pub counted_once : named_twice ≡ record { newly = 1; place = psn 10; held = 0; alarms = 1 }
  pub limits : Limits
  pub lengths : map whole (1 ∷ 2 ∷ 3 ∷ 4 ∷ 5 ∷ 6 ∷ 7 ∷ 8 ∷ []) ≡ 14 ∷ 4 ∷ 6 ∷ 14 ∷ 18 ∷ 8 ∷ 7 ∷ 4 ∷ []
