-- What a turn of a replay is, and what any run of turns amounts to.
use Rattle.std.specs.Prelude.{◌≡◌, List, [], ◌∷◌, ℕ, ◌+◌, ◌≤◌, length, replicate}
use Rattle.rules.specs.Numbers.{program_slots}
use Rattle.rules.specs.Log.{read}
use Rattle.rules.specs.Replay.{Replied, Last, stop}
use Rattle.rules.specs.declared.Event.{Event}
use Rattle.rules.specs.Outcomes.{Record, Nothing}
use Rattle.connection.specs.Record.{empty}
use Rattle.table.specs.Slots.{AllSound, On}
use Rattle.player.specs.declared.State.{State}

-- every slot is empty, and nothing is read
abbrev pub begin : State
begin = record { slots = replicate program_slots empty; place = 0; count = 0 }

-- the program's slots, each empty or one that comes from a start and events; and no more records are read than bytes
pub record Sound (x : State) : Type 0 where
  pub many : length x.slots ≡ program_slots
  pub slots_sound : AllSound x.slots
  pub count_low : x.count ≤ x.place

-- "a line per record: kind, answer": what is read at the place is a record. Its line has its kind and an answer that the table's promise allows;
-- the slots are then those that it leaves, the place is the one after the record, and one record more is read.
pub record Turned (log : List ℕ) (x : State) (l : Replied) (y : State) : Type 0 where
  pub slot : ℕ
  pub event : Event
  pub read_is : read log x.place ≡ Record slot event l.kind y.place
  pub answer_meets : On x.slots slot event l.answer y.slots
  pub count_is : y.count ≡ x.count + 1
  pub sound : Sound y

-- the lines and the last line of turn after turn, until nothing is read: then the number that is read instead ends the log
pub data Plays (log : List ℕ) : State → List Replied → Last → Type 0 where
  stops : {x : State} (n : ℕ) → read log x.place ≡ Nothing n → Plays log x [] (stop n x.place x.count)
  goes_on : {x y : State} {l : Replied} {rest : List Replied} {last : Last} → Turned log x l y → Plays log y rest last → Plays log x (l ∷ rest) last
