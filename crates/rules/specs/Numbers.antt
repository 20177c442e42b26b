-- 01, Numbers of the trade, and which numbers an event may carry. Packet numbers themselves are those of the crate psn.
use Rattle.std.specs.Prelude.{Bool, not, ◌&&◌, ℕ, ◌+◌, ◌/◌, ◌%◌, ◌^◌, leb, ltb, eqb}
use Rattle.word.specs.Word.{bit_at}
pub use Rattle.psn.specs.Psn.{turn, half, before, behind}
unfoldable pub use Rattle.psn.specs.Psn.{after, distance}
use Rattle.psn.specs.declared.Psn.{Psn}

-- "5: a PSN above 16,777,215"
abbrev pub psn_ok : Psn → Bool
psn_ok p = ltb p.0 turn

-- a packet number as the code holds it
abbrev pub psn : ℕ → Psn
psn n = record { 0 = n }

-- "Room: .. 64 to 512, a multiple of 64"; 02, No. 6: "Raise the largest room to 2,048, still a multiple of 64"
abbrev pub least_room : ℕ
least_room = 64

abbrev pub largest_room : ℕ
largest_room = 2048

-- words of 64 PSNs enough for the largest room, from any bit of the first word on
abbrev pub words : ℕ
words = largest_room / 64 + 1

unfoldable pub room_ok : ℕ → Bool
room_ok r = leb least_room r && leb r largest_room && eqb (r % least_room) 0

-- "Packet size: .. Accepted from 48 to 9,216"
abbrev pub least_size : ℕ
least_size = 48

abbrev pub largest_size : ℕ
largest_size = 9216

unfoldable pub size_ok : ℕ → Bool
size_ok z = leb least_size z && leb z largest_size

-- 01, The receiving side: "bit 0 ECN mark, bit 1 RTX, bit 2 trimmed, bit 3 trimmed at last hop, bit 4 no buffer"
abbrev pub ecn : ℕ → Bool
ecn f = bit_at f 0

abbrev pub rtx : ℕ → Bool
rtx f = bit_at f 1

abbrev pub trimmed : ℕ → Bool
trimmed f = bit_at f 2

abbrev pub trimmed_last_hop : ℕ → Bool
trimmed_last_hop f = bit_at f 3

abbrev pub no_buffer : ℕ → Bool
no_buffer f = bit_at f 4

-- "14: any of flag bits 5 to 7 set, or bits 2 and 3 both"
unfoldable pub flags_ok : ℕ → Bool
flags_ok f = ltb f (2 ^ 5) && not (trimmed f && trimmed_last_hop f)

-- "15: NACK reason not 1 to 6"
unfoldable pub reason_ok : ℕ → Bool
reason_ok n = leb 1 n && leb n 6

-- 01, What the card keeps: "of which the first 16 slots at most are used"
abbrev pub slots : ℕ
slots = 16

-- 02, No. 6: "The replay program keeps 4 slots"
abbrev pub program_slots : ℕ
program_slots = 4

-- "A log is at most 32,768 bytes"
abbrev pub longest_log : ℕ
longest_log = 32768

-- "Each record begins with the two bytes 4D 52, then kind, then slot (one byte)"
abbrev pub record_head : ℕ
record_head = 4
