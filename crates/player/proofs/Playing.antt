-- Turn after turn, from an empty table on, a log is replayed as the rules say, whatever the promise of a table's event allows. Assumes nothing.
use mathlib.Core.Path.{◌≡◌, sym, ap, ap₂, ◌∙◌}
use mathlib.Core.List.{List}
use Prim.Native.Nat.{ℕ, zero, suc, ◌-◌, ◌<◌}
use native.Mathlib.Numerals.{add-one}
use native.Mathlib.Omega.{arith}
use lib.ListN.{length}
use Rattle.rules.specs.Connection as rule
use Rattle.rules.specs.Replay.{Replied, Last, Replayed, then, replied, replay_from, replay}
use Rattle.rules.proofs.Settled.{answer_is_rule}
use Rattle.connection.specs.Record as connection
use Rattle.sending.specs.Lent as rows
use Rattle.receiving.specs.Lent as lent
use Rattle.lists.specs.Index.{table}
use Rattle.table.specs.Slots.{meaning}
use Rattle.player.specs.declared.State.{State}
use Rattle.player.specs.Play.{begin, Plays, stops, goes_on}
use Rattle.player.proofs.Turning.{turn_further}

abbrev made : List Replied → Last → Replayed
made l last = record { lines = l; last = last }

-- what is left of the log
abbrev to_go : List ℕ → State → ℕ
to_go log x = length log - x.place

module _ (log : List ℕ) where
  plays_from : (most : ℕ) {x : State} {l : List Replied} {last : Last} → Plays log x l last → to_go log x < most
      → made l last ≡ replay_from most log (meaning x.slots) x.place x.count
  unfolding replay_from replied then
  plays_from zero p h = absurd (omega arith)
  plays_from (suc most) (stops {x = x} n e) h =
      sym (ap (replied (λ u next. replay_from most log u next (suc x.count)) (meaning x.slots) x.place x.count) e)
  plays_from (suc most) (goes_on {x = x} {y = y} {l = l} t p) h =
      let rest : List rule.Connection → ℕ → Replayed = λ u next. replay_from most log u next (suc x.count) in
      let further = turn_further t in
      let answer_is = answer_is_rule t.answer_meets.meets in
      ap₂ then (λ i. record { kind = l.kind; answer = answer_is i })
      (plays_from most p (omega arith)
      ∙ ap₂ (λ u n. replay_from most log u y.place n) t.answer_meets.meets.record_is (t.count_is ∙ add-one x.count))
      ∙ sym (ap (replied rest (meaning x.slots) x.place x.count) t.read_is)

-- the program's lines and its last line are those of the rules' replay
pub plays_replay : (log : List ℕ) (l : List Replied) (last : Last) → Plays log begin l last → made l last ≡ replay log
unfolding replay meaning connection.meaning rows.meaning lent.meaning table
plays_replay log l last p = plays_from log (suc (length log)) p (omega arith)
