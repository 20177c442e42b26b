-- A table of connections: what it means, and which there are.
use Rattle.std.specs.Prelude.{◌≡◌, List, map, ◌≢◌, ℕ, get_or, replicate}
use Rattle.promise.specs.Promise.{Meets}
use Rattle.rules.specs.Numbered.{number}
use Rattle.rules.specs.Paper.{paper, Reply}
use Rattle.rules.specs.Connection as rule
use Rattle.rules.specs.Table.{on}
use Rattle.rules.specs.declared.Event.{Event}
use Rattle.connection.specs.declared.Connection.{Connection}
use Rattle.connection.specs.Record.{empty, Sound}
use Rattle.connection.specs.Record as connection

unfoldable pub meaning : List Connection → List rule.Connection
meaning t = map connection.meaning t

-- each slot is empty or comes from a start and the events after it
abbrev pub AllSound : List Connection → Type 0
AllSound t = (slot : ℕ) → Sound (get_or t slot empty)

-- an event on a slot of the table t may answer r and leave the table u
pub record On (t : List Connection) (slot : ℕ) (e : Event) (r : Reply) (u : List Connection) : Type 0 where
  pub meets : Meets paper number AllSound meaning t (on (meaning t) slot e) r u
  -- every other slot is the very record that it was
  pub elsewhere : (i : ℕ) → i ≢ slot → get_or u i empty ≡ get_or t i empty

-- "a call of its own first empties every slot lent": the tables that it and any events after it leave
pub data Reached : List Connection → Type 0 where
  emptied : (n : ℕ) → Reached (replicate n empty)
  after_event : {t : List Connection} → Reached t → (slot : ℕ) (e : Event) (r : Reply) (u : List Connection)
      → On t slot e r u
      → Reached u
