-- 02, No. 6 on the bench: rooms and slots on either side of their limits.
use Rattle.std.specs.Prelude.{◌≡◌, List, [], ◌∷◌, map, ℕ, replicate}
use Rattle.rules.specs.Numbers.{slots, program_slots, psn}
use Rattle.rules.specs.Connection.{empty}
use Rattle.rules.specs.Kinds.{plain}
use Rattle.promise.specs.Outcome.{on_paper}
use Rattle.rules.specs.Table.{on}
use Rattle.rules.specs.Paper.{paper, reply_line}
use Rattle.rules.specs.Replay.{Replied, replay}
use Rattle.rules.specs.declared.Event.TheVariants as event

-- the number that a start with these two rooms gets in a slot of a table of so many, all empty
abbrev pub started : ℕ → ℕ → ℕ → ℕ → ℕ
started many slot send receive = (on_paper paper (on (replicate many empty) slot (event.Start (record {
  sending = record { room = send; first = psn 10 };
  receiving = record { room = receive; first = psn 10 };
  options = plain;
})))).number

abbrev pub with_send_room : ℕ → ℕ
with_send_room room = started slots 0 room 64

abbrev pub with_receive_room : ℕ → ℕ
with_receive_room room = started slots 0 64 room

-- in a table as long as the program's, of 16 slots, and of 17
abbrev pub in_program : ℕ → ℕ
in_program slot = started program_slots slot 64 64

abbrev pub in_sixteen : ℕ → ℕ
in_sixteen slot = started 16 slot 64 64

abbrev pub in_seventeen : ℕ → ℕ
in_seventeen slot = started 17 slot 64 64

-- "Raise the largest room to 2,048, still a multiple of 64"
abbrev pub rooms : List ℕ
rooms = 64 ∷ 512 ∷ 576 ∷ 2048 ∷ 2047 ∷ 2049 ∷ 2112 ∷ 65535 ∷ []

abbrev pub at_slots : List ℕ
at_slots = 3 ∷ 4 ∷ 15 ∷ 16 ∷ []

-- a log that closes these slots, and the numbers that the program answers
abbrev pub log_slots : List ℕ
log_slots = 0x4D ∷ 0x52 ∷ 2 ∷ 3 ∷ 0x4D ∷ 0x52 ∷ 2 ∷ 4 ∷ 0x4D ∷ 0x52 ∷ 2 ∷ 15 ∷ 0x4D ∷ 0x52 ∷ 2 ∷ 16 ∷ []

abbrev pub replied_number : Replied → ℕ
replied_number l = (reply_line l.answer).number

-- "Refusal 4 moves accordingly"; "The replay program keeps 4 slots .. and answers 1 for slot 4 and above; the library still allows 16"
pub record Limits : Type 0 where
  pub send_rooms : map with_send_room rooms ≡ 0 ∷ 0 ∷ 0 ∷ 0 ∷ 4 ∷ 4 ∷ 4 ∷ 4 ∷ []
  pub receive_rooms : map with_receive_room rooms ≡ 0 ∷ 0 ∷ 0 ∷ 0 ∷ 4 ∷ 4 ∷ 4 ∷ 4 ∷ []
  pub program : map in_program at_slots ≡ 0 ∷ 1 ∷ 1 ∷ 1 ∷ []
  pub sixteen : map in_sixteen at_slots ≡ 0 ∷ 0 ∷ 0 ∷ 1 ∷ []
  pub seventeen : map in_seventeen at_slots ≡ 0 ∷ 0 ∷ 0 ∷ 1 ∷ []
  pub replayed : map replied_number (replay log_slots).lines ≡ 2 ∷ 1 ∷ 1 ∷ 1 ∷ []
