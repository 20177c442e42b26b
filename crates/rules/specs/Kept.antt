-- 01, What the card keeps: "A record is empty (all zero) or comes from a start and the events after it". What such a record always has.
use Rattle.std.specs.Prelude.{◌≡◌, true, false, ◌&&◌, List, map, ◌⊎◌, ℕ, ◌^◌, ◌≤◌, ◌<◌, get_or}
use Rattle.rules.specs.Numbers.{turn, room_ok, size_ok}
use Rattle.rules.specs.Receiver.{Receiver, room}
use Rattle.rules.specs.Sender.{Entry, Sender, outstanding}
use Rattle.rules.specs.Retire.{is_retired}
use Rattle.lists.specs.Lists.{All}
use Rattle.rules.specs.Connection.{Connection, empty}
use Rattle.rules.specs.Table.{at}

-- "E to E + room - 1 are accepted" or not, and E itself is not
pub record Receives (r : Receiver) : Type 0 where
  pub room_good : room_ok (room r) ≡ true
  pub expected_low : r.expected < turn
  pub expected_open : get_or r.window 0 false ≡ false
  pub count_low : r.count < 2 ^ 32

-- an entry's size is one that a send takes, and it is not both retired and marked
pub record Good (e : Entry) : Type 0 where
  pub size_good : size_ok e.size ≡ true
  pub not_both : (e.retired && e.marked) ≡ false

-- no more is outstanding than the room, and place + 1 is not retired
pub record Sends (x : Sender) : Type 0 where
  pub room_good : room_ok x.room ≡ true
  pub place_low : x.place < turn
  pub room_left : outstanding x ≤ x.room
  pub first_open : get_or (map is_retired x.entries) 0 false ≡ false
  pub entries_good : All Good x.entries

pub record Runs (c : Connection) : Type 0 where
  pub sends : Sends c.sender
  pub receives : Receives c.receiver

-- empty, or in use on both sides
abbrev pub Whole : Connection → Type 0
Whole c = (c ≡ empty) ⊎ Runs c

abbrev pub AllWhole : List Connection → Type 0
AllWhole t = (slot : ℕ) → Whole (at t slot)
