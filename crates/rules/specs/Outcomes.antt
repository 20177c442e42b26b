-- 01, The event log: what the rules of reading and of writing give.
use Rattle.std.specs.Prelude.{ℕ}
use Rattle.rules.specs.declared.Event.{Event}

pub data Reading : Type 0 where
  -- a record: its slot, its event, the event's kind, and the place after it
  Record : ℕ → Event → ℕ → ℕ → Reading
  -- none: the number of the refusal, 0 at the log's end
  Nothing : ℕ → Reading

pub data Writing : Type 0 where
  -- the number of the refusal
  NotWritten : ℕ → Writing
  -- the record's length
  Length : ℕ → Writing
