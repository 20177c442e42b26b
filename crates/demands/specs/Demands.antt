-- The customer's three demands, a record each and a line or more for each sentence. What is said of a call is said of whatever its contract
-- allows: `On` is that of `table::event`, `Reads` that of `event_log::read`, `Writes` that of `event_log::write`. Each of these functions is
-- proved to return, and to meet its contract, for any value of its types; `Wide` and `Bytes` say what the types hold an event and bytes to.
use Rattle.std.specs.Prelude.{◌≡◌, Some, Ok, List, ◌++◌, ◌≢◌, ℕ, ◌-◌, ◌≤◌, length, get_or, take, drop, replicate}
use Rattle.fields.specs.Fields.{Bytes}
use Rattle.promise.specs.Outcome.{left, first_of}
use Rattle.rules.specs.Numbers.{longest_log}
use Rattle.rules.specs.Table as rule
use Rattle.rules.specs.Kinds.{kind_of, Wide}
use Rattle.rules.specs.Numbered.{kind_of_number}
use Rattle.rules.specs.Paper.{Reply, answered, reply_line, Found, found, found_line, Wrote, wrote, wrote_line}
use Rattle.rules.specs.Log.{read, write, written}
use Rattle.rules.specs.Refusals.{event_refusals, read_refusals, write_refusals}
use Rattle.rules.specs.Replay.{replay}
use Rattle.rules.specs.Bench.{Starred}
use Rattle.rules.specs.declared.Event.{Event}
use Rattle.rules.specs.declared.Record.{Record}
use Rattle.connection.specs.declared.Connection.{Connection}
use Rattle.connection.specs.Record.{empty}
use Rattle.table.specs.Slots.{AllSound, Reached, On, meaning}
use Rattle.event_log.specs.Parts.{Reads, Writes}
use Rattle.text.specs.Text.{head_text, text_of}
use Rattle.player.specs.Play.{begin}
use Rattle.player.specs.Piece as piece
use Rattle.delivery.specs.Promise.{Delivers}
use Rattle.delivery.specs.Sense.{NeverContradicts}
use Rattle.delivery.specs.Progress.{DoesEnd, Settles, GoesOn}
use Rattle.bridge.specs.Engines.{EnginesKeep}
use Rattle.bridge.specs.Connections.{ConnectionsKeep}
use Rattle.bridge.specs.Tables.{TablesKeep}

-- "Any packet field, event or log bytes are met with an answer and never a fault."
pub record Demand1 : Type 0 where
  -- "The caller need not have looked first": the one premise of an event is met by every table that a host can have, emptied once and then
  -- given any events; reading and writing have none
  pub ready : {t : List Connection} → Reached t → AllSound t
  -- "Bad input is turned away by the number that document 01 gives, exactly when it says": an answer's number is that of the first refusal
  -- that applies, and 0 where none does
  pub event_number : {t : List Connection} {slot : ℕ} {e : Event} {r : Reply} {u : List Connection} → On t slot e r u
      → (reply_line r).number ≡ first_of (event_refusals (meaning t) slot e)
  pub read_number : (log : List ℕ) (place : ℕ) (x : Found) → Reads log place x → (found_line x).number ≡ first_of (read_refusals log place)
  pub write_number : {slot : ℕ} {e : Event} {before : List ℕ} {r : Wrote} {after : List ℕ} → Writes slot e before r after
      → (wrote_line r).number ≡ first_of (write_refusals e (length before))
  -- "and a refused call changes no record and no byte"; the reader is lent its log to read alone
  pub event_keeps : {t : List Connection} {slot : ℕ} {e : Event} {r : Reply} {u : List Connection} → On t slot e r u → (reply_line r).number ≢ 0 → u ≡ t
  pub write_keeps : {slot : ℕ} {e : Event} {before : List ℕ} {r : Wrote} {after : List ℕ} → Writes slot e before r after
      → (wrote_line r).number ≢ 0 → after ≡ before

pub record Demand2 : Type 0 where
  -- "Every answer and the record after it are those of the rules in document 01": of an event, in the table and in every slot that it does
  -- not name; of emptying a table; of the reader and the writer; of the program's text, in whatever pieces it is written
  pub event_answers : {t : List Connection} {slot : ℕ} {e : Event} {r : Reply} {u : List Connection} → On t slot e r u
      → (r ≡ answered (rule.on (meaning t) slot e)) × (meaning u ≡ left (meaning t) (rule.on (meaning t) slot e))
  pub elsewhere : {t : List Connection} {slot : ℕ} {e : Event} {r : Reply} {u : List Connection} → On t slot e r u
      → (i : ℕ) → i ≢ slot → get_or u i empty ≡ get_or t i empty
  pub empties : (t : List Connection) → meaning (replicate (length t) empty) ≡ rule.emptied (meaning t)
  pub reads : (log : List ℕ) (place : ℕ) (x : Found) → Reads log place x → x ≡ found (read log place)
  pub writes : {slot : ℕ} {e : Event} {before : List ℕ} {r : Wrote} {after : List ℕ} → Writes slot e before r after
      → (r ≡ wrote (write e (length before))) × (after ≡ written slot e before (write e (length before)))
  pub prints : (log text : List ℕ) → piece.Writes log begin head_text text → text ≡ text_of (replay log)
  -- the rules themselves give what the customer worked by hand
  pub bench : Starred
  -- "A log record written is read back as the same event", from a buffer that is no longer than a log
  pub written_read : {slot : ℕ} {e : Event} {before after : List ℕ} {n : ℕ} (x : Found) → Wide e → length before ≤ longest_log
      → Writes slot e before (Ok n) after → Reads after 0 x → x ≡ Ok (Some (record { slot = slot; event = e; kind = kind_of_number (kind_of e); next = n }))
  -- "and read then written gives the same bytes", into a buffer that has room for them
  pub read_written : (log : List ℕ) (place : ℕ) (x : Record) {before : List ℕ} {r : Wrote} {after : List ℕ}
      → Bytes log → Reads log place (Ok (Some x)) → x.next - place ≤ length before → Writes x.slot x.event before r after
      → (r ≡ Ok (x.next - place)) × (after ≡ take (x.next - place) (drop place log) ++ drop (x.next - place) before)

-- Its premises are `Start` and `Run` of delivery's Network and Wire, its conclusions `Promise` of delivery's Promise; 02, No. 4 amends them:
-- the receiver's count is not compared, and is the sum over the arrivals that a SACK answered. 02, No. 3 adds what "should follow".
pub record Demand3 : Type 0 where
  -- of the rules' own sender and receiver, in every run
  pub rules : Delivers
  -- "no reply of its runs is answered 17" (02, No. 3); of the card's own records it is `consistent` of what they keep
  pub never_contradicts : NeverContradicts
  -- of the engines by value, of two connections by value, and of two sides in tables while anything else happens there
  pub engines : EnginesKeep
  pub connections : ConnectionsKeep
  pub tables : TablesKeep
  -- and the run comes to its end, where the host is diligent and the network fair; such courses there are
  pub ends : DoesEnd
  pub settles : Settles
  pub goes_on : GoesOn
