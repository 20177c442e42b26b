-- 01, The sending side: marks for resending. A NACK or a timer sets one, a resend takes one.
use Rattle.std.specs.Prelude.{Bool, true, false, not, cond, ◌&&◌, map, ℕ, leb, get_or}
use Rattle.rules.specs.Numbers.{psn}
use Rattle.lists.specs.Lists.{lead, update}
use Rattle.promise.specs.Outcome.{Outcome, Done}
use Rattle.rules.specs.Sender.{Entry, Sender, nth, index, with_entries}
use Rattle.rules.specs.declared.Answer.{Answer}
use Rattle.rules.specs.declared.Answer.TheVariants as answer

-- ---- NACK and timer: "marks an outstanding, unretired PSN"
abbrev pub with_mark : Bool → Entry → Entry
with_mark b e = record { size = e.size; retired = e.retired; marked = b }

abbrev pub markable : Entry → Bool
markable e = not e.retired && not e.marked

-- "The answer is how many became marked, 0 or 1. Behind place + 1, retired or already marked: 0"
unfoldable pub mark : (ℕ → Answer) → Sender → ℕ → Outcome Answer Sender
mark tell x p =
    cond (get_or (map markable x.entries) (index x p) false)
    (Done (with_entries x (update (with_mark true) x.entries (index x p))) (tell 1))
    (Done x (tell 0))

-- "Reason 5 PSNE and 6 GERR answer 0 and mark nothing"
unfoldable pub nacked : Sender → ℕ → ℕ → Outcome Answer Sender
nacked x p reason = cond (leb reason 4) (mark answer.Marked x p) (Done x (answer.Marked 0))

-- ---- "Resend: hands out the marked PSN nearest after the place and clears its mark"
abbrev pub unmarked : Entry → Bool
unmarked e = not e.marked

-- how many entries stand before the first marked one
unfoldable pub nearest : Sender → ℕ
nearest x = lead (map unmarked x.entries)

unfoldable pub resent : Sender → Outcome Answer Sender
resent x = Done (with_entries x (update (with_mark false) x.entries (nearest x))) (answer.Resent (psn (nth x (nearest x))))
