-- A start of a record that is not in use is a start of none, and what it gives is what the slot gives. Assumes nothing.
use mathlib.Core.Path.{◌≡◌, sym, subst}
use mathlib.Core.Bool.{false, not}
use mathlib.Core.Logic.{⊎_elim}
use borrow.Author.Tests.{eqb-true, not-false}
use Rattle.promise.proofs.Refusing.{Past, test, past, none_left}
use Rattle.rules.specs.Connection.{start, unused}
use Rattle.rules.specs.Paper.{Reply}
use Rattle.rules.specs.Table.{taken_refusals, in_slot}
use Rattle.rules.specs.declared.Event.TheVariants as event
use Rattle.rules.specs.declared.Start.{Start}
use Rattle.sending.specs.Lent as rows
use Rattle.connection.specs.declared.Connection.{Connection}
use Rattle.connection.specs.Record.{meaning, empty, Sound, Steps}
use Rattle.connection.proofs.Sides.{not_zero}

module _ (x : Connection) (s : Start) (sound : Sound x) (free : not (unused (meaning x)) ≡ false) where
  is_empty : x ≡ empty
  unfolding meaning rows.meaning
  is_empty =
      ⊎_elim (λ e. e) (λ t. absurd (not_zero x.sender.head.room t.sends.room_good (eqb-true x.sender.head.room 0 (not-false (unused (meaning x)) free)))) sound

  -- what the empty record's start gives is what the slot gives
  pub begun : (r : Reply) (y : Connection) → Steps empty (start s) r y → Steps x (in_slot (meaning x) (event.Start s)) r y
  unfolding in_slot taken_refusals test Past
  begun r y m =
      rw (none_left (taken_refusals (meaning x)) (start s) (past (taken_refusals (meaning x)) 0 tt free))
      (subst (λ (z : Connection). Steps z (start s) r y) (sym is_empty) m)
