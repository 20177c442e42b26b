-- The three demands hold, each from the theorems of the crates that it speaks of. Assumes nothing.
use mathlib.Core.Path.{◌≡◌, refl, ap, ◌∙◌}
use mathlib.Core.List.{List}
use mathlib.Core.Logic.{◌≢◌}
use Prim.Native.Nat.{ℕ}
use lib.ListN.{length}
use Rattle.promise.specs.Line.{Line}
use Rattle.std.specs.Prelude.{Some, Ok}
use Rattle.rules.specs.Paper.{Reply, reply_line, Wrote, wrote_line}
use Rattle.rules.specs.Log.{read, write}
use Rattle.rules.specs.declared.Event.{Event}
use Rattle.rules.proofs.Numbered.{event_splits, number_first, numbered_refuses, read_first, write_first, refused_written}
use Rattle.rules.proofs.Settled.{answer_is_rule}
use Rattle.rules.proofs.Apart.{found_is_rule, wrote_is_rule}
use Rattle.rules.proofs.Starred.{starred}
use Rattle.connection.specs.declared.Connection.{Connection}
use Rattle.table.specs.Slots.{On, meaning}
use Rattle.table.proofs.Slots.{reached_sound, empties}
use Rattle.event_log.specs.Parts.{Writes}
use Rattle.event_log.proofs.RoundTrip.{written_read, read_written}
use Rattle.player.proofs.Writing.{writes_replay}
use Rattle.delivery.proofs.Theorem.{delivers}
use Rattle.delivery.proofs.Never.{never_contradicts}
use Rattle.delivery.proofs.DoesEnd.{does_end, settles}
use Rattle.delivery.proofs.Fair.{goes_on}
use Rattle.bridge.proofs.Engines.{engines_keep}
use Rattle.bridge.proofs.Connections.{connections_keep}
use Rattle.bridge.proofs.Tables.{tables_keep}
use Rattle.demands.specs.Demands.{Demand1, Demand2, Demand3}

abbrev number : Line → ℕ
number l = l.number

event_keeps : {t : List Connection} {slot : ℕ} {e : Event} {r : Reply} {u : List Connection} → On t slot e r u → (reply_line r).number ≢ 0 → u ≡ t
event_keeps {t} {slot} {e} m h =
    let refused = numbered_refuses (event_splits (meaning t) slot e) (λ z. h (ap number m.meets.answer_is ∙ z)) in
    m.meets.untouched refused.0 refused.1

write_keeps : {slot : ℕ} {e : Event} {before : List ℕ} {r : Wrote} {after : List ℕ} → Writes slot e before r after
    → (wrote_line r).number ≢ 0 → after ≡ before
write_keeps {slot} {e} {before} m h =
    m.bytes_are ∙ refused_written slot e before (write e (length before)) (λ z. h (ap number m.answer_is ∙ z))

pub demand_1 : Demand1
demand_1 = record {
  ready = reached_sound;
  event_number = λ {t} {slot} {e} m. ap number m.meets.answer_is ∙ number_first (event_splits (meaning t) slot e);
  read_number = λ log place x h. ap number h ∙ read_first log place;
  write_number = λ {slot} {e} {before} m. ap number m.answer_is ∙ write_first e (length before);
  event_keeps = event_keeps;
  write_keeps = write_keeps;
}

pub demand_2 : Demand2
demand_2 = record {
  event_answers = λ m. (answer_is_rule m.meets, m.meets.record_is);
  elsewhere = λ m. m.elsewhere;
  empties = empties;
  reads = λ log place x h. found_is_rule (read log place) x h;
  writes = λ {slot} {e} {before} {r} m. (wrote_is_rule (write e (length before)) r m.answer_is, m.bytes_are);
  prints = writes_replay;
  bench = starred;
  written_read = λ {slot} {e} {before} {after} {n} x w l m h. written_read slot e before after (Ok n) n x m refl w l h;
  read_written = λ log place x {before} {r} {after} b h l m.
      read_written log place x.slot x.event x.kind x.next b (Ok (Some x)) before after r h refl m l;
}

pub demand_3 : Demand3
demand_3 = record {
  rules = delivers;
  never_contradicts = never_contradicts;
  engines = engines_keep;
  connections = connections_keep;
  tables = tables_keep;
  ends = does_end;
  settles = settles;
  goes_on = goes_on;
}
