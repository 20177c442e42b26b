-- 01, The event log: what the program makes of a log, in numbers. Its text is that of `crates/text`.
use Rattle.std.specs.Prelude.{cond, List, [], ◌∷◌, ℕ, zero, suc, eqb, length, replicate}
use Rattle.rules.specs.Numbers.{program_slots, longest_log}
use Rattle.promise.specs.Outcome.{left}
use Rattle.rules.specs.Connection.{Connection, empty}
use Rattle.rules.specs.Table.{on}
use Rattle.rules.specs.Paper.{Reply, reply_line, answered}
use Rattle.rules.specs.Log.{read}
use Rattle.rules.specs.Outcomes.{Reading, Record, Nothing}

-- "a line per record: kind, answer and, if 0, values"
pub record Replied : Type 0 where
  pub kind : ℕ
  pub answer : Reply

unfoldable pub line : Replied → List ℕ
line l = l.kind ∷ (reply_line l.answer).number ∷ (reply_line l.answer).values

-- "Last `end N`, N the records read, or instead `log R at O`, R the refusal, with O the offset of the bad record's first byte"
pub data Last : Type 0 where
  End : ℕ → Last
  Log : ℕ → ℕ → Last

pub record Replayed : Type 0 where
  pub lines : List Replied
  pub last : Last

-- nothing is read at the place: "32768 for 13, where no record is replayed"
unfoldable pub stop : ℕ → ℕ → ℕ → Last
stop zero place n = End n
stop (suc r) place n = Log (suc r) (cond (eqb (suc r) 13) longest_log place)

unfoldable pub then : Replied → Replayed → Replayed
then l r = record { lines = l ∷ r.lines; last = r.last }

-- what is read at the place, after n records: one is answered, and the rest follows from the place after it
unfoldable pub replied : (List Connection → ℕ → Replayed) → List Connection → ℕ → ℕ → Reading → Replayed
replied rest t place n (Record slot e kind next) = then (record { kind = kind; answer = answered (on t slot e) }) (rest (left t (on t slot e)) next)
replied rest t place n (Nothing r) = record { lines = []; last = stop r place n }

-- at most so many records from a place on. As many as the log has bytes are enough (`enough` of Replays).
unfoldable pub replay_from : ℕ → List ℕ → List Connection → ℕ → ℕ → Replayed
replay_from zero log t place n = record { lines = []; last = End n }
replay_from (suc most) log t place n = replied (λ u next. replay_from most log u next (suc n)) t place n (read log place)

-- "The program keeps 16 slots, empty at first"; 02, No. 6: 4 of them
unfoldable pub replay : List ℕ → Replayed
replay log = replay_from (suc (length log)) log (replicate program_slots empty) 0 0
