-- 01, What the card keeps: the table of connections.
use Rattle.std.specs.Prelude.{Bool, not, ◌||◌, List, [], ◌∷◌, ℕ, leb, length, get_or, set, replicate}
use Rattle.promise.specs.Outcome.{Outcome, Refusals, unless, within}
use Rattle.rules.specs.Numbers.{slots}
use Rattle.rules.specs.Connection.{Connection, empty, unused, start, step}
use Rattle.rules.specs.declared.Answer.{Answer}
use Rattle.rules.specs.declared.Event.{Event}
use Rattle.rules.specs.declared.Event.TheVariants as event

-- "1: slot is 16 or more, or not below the table's length"
unfoldable pub outside : List Connection → ℕ → Bool
outside t slot = leb slots slot || leb (length t) slot

-- the connection in a slot
abbrev pub at : List Connection → ℕ → Connection
at t slot = get_or t slot empty

-- refusal 3: "start of a slot in use"
unfoldable pub taken_refusals : Connection → Refusals
taken_refusals c = (not (unused c), 3) ∷ []

-- an event on the record of a slot: "Order: 1, 2 or 3, 4, .."
unfoldable pub in_slot : Connection → Event → Outcome Answer Connection
in_slot c (event.Start s) = unless (taken_refusals c) (start s)
in_slot c (event.Use u) = step c u

-- refusal 1
unfoldable pub on_refusals : List Connection → ℕ → Refusals
on_refusals t slot = (outside t slot, 1) ∷ []

-- "An event names a slot, and only that slot's record may change"
unfoldable pub on : List Connection → ℕ → Event → Outcome Answer (List Connection)
on t slot e = unless (on_refusals t slot) (within (set t slot) (in_slot (at t slot) e))

-- "a call of its own first empties every slot lent"
unfoldable pub emptied : List Connection → List Connection
emptied t = replicate (length t) empty
