-- 01, When the card says no: all that may refuse a call as one list, in its order. The first whose test passes is given (`first_of`).
use Rattle.std.specs.Prelude.{not, List, [], ◌∷◌, ◌++◌, ℕ, leb, ltb, length, get_or, drop}
use Rattle.promise.specs.Outcome.{Refusals}
use Rattle.rules.specs.Numbers.{longest_log}
use Rattle.rules.specs.Receiving.{arrive_refusals}
use Rattle.rules.specs.Sending.{step_refusals}
use Rattle.rules.specs.Connection.{Connection, start_refusals, close_refusals}
use Rattle.rules.specs.Table.{at, taken_refusals, on_refusals}
use Rattle.rules.specs.Kinds.{kind_of, fields_of, layout, kind_ok}
use Rattle.rules.specs.Log.{whole, has_mark, high_psn}
use Rattle.rules.specs.declared.Use.{Use}
use Rattle.rules.specs.declared.Use.TheVariants as use-of
use Rattle.rules.specs.declared.Event.{Event}
use Rattle.rules.specs.declared.Event.TheVariants as event

-- what befalls a connection in use
unfoldable pub use_refusals : Connection → Use → Refusals
use_refusals c use-of.Close = close_refusals c
use_refusals c (use-of.Sends e) = step_refusals c.sender e
use_refusals c (use-of.Receives a) = arrive_refusals c.receiver a

-- an event on a slot: "Order: 1, 2 or 3, 4, 5, 6, 14, 15, then 7, 8 or 9", with 17 "after 5 and before 8" (02, No. 3)
unfoldable pub event_refusals : List Connection → ℕ → Event → Refusals
event_refusals t slot (event.Start s) = on_refusals t slot ++ (taken_refusals (at t slot) ++ start_refusals s)
event_refusals t slot (event.Use u) = on_refusals t slot ++ use_refusals (at t slot) u

-- reading a log at a place: "13, then with 1 or 2 bytes left 10, then 11, 12, 10. With none left, or a place past the end, the log is at its
-- end, no refusal"
unfoldable pub read_refusals : List ℕ → ℕ → Refusals
read_refusals log place =
    let l = drop place log in
    let kind = get_or l 2 0 in
    (ltb longest_log (length log), 13) ∷ (leb (length log) place, 0)
    ∷ (ltb (length l) 3, 10) ∷ (not (has_mark l), 11) ∷ (not (kind_ok kind), 12) ∷ (ltb (length l) (whole kind), 10) ∷ []

-- writing an event's record to a buffer of n bytes: "5, then 16"
unfoldable pub write_refusals : Event → ℕ → Refusals
write_refusals e n = (high_psn (layout (kind_of e)) (fields_of e), 5) ∷ (ltb n (whole (kind_of e)), 16) ∷ []
