-- 01, The sending side: its record, its start, and what a send adds.
use Rattle.std.specs.Prelude.{Bool, false, not, cond, ◌&&◌, List, [], ◌∷◌, ◌++◌, map, ℕ, ◌+◌, leb, eqb, length}
use Rattle.rules.specs.Numbers.{before, behind, after, distance, psn, psn_ok, room_ok}
use Rattle.lists.specs.Lists.{sum}
use Rattle.promise.specs.Outcome.{Outcome, Done, Refusals, unless}
use Rattle.rules.specs.declared.Answer.{Answer}
use Rattle.rules.specs.declared.Answer.TheVariants as answer
use Rattle.rules.specs.declared.Opening.{Opening}

-- "for each PSN from place + 1 to next - 1 its size, whether retired, whether marked for resending"
pub record Entry : Type 0 where
  pub size : ℕ
  pub retired : Bool
  pub marked : Bool

-- "It holds its room, its place .., the next PSN", which is as far on as there are entries. Entry i is that of place + 1 + i.
pub record Sender : Type 0 where
  pub room : ℕ
  pub place : ℕ
  pub entries : List Entry

-- how many PSNs are outstanding: next - 1 - place
abbrev pub outstanding : Sender → ℕ
outstanding x = length x.entries

-- the PSN of entry i
abbrev pub nth : Sender → ℕ → ℕ
nth x i = after x.place (1 + i)

unfoldable pub next : Sender → ℕ
next x = nth x (outstanding x)

-- "Held bytes are the sum of sizes not retired"
unfoldable pub size_held : Entry → ℕ
size_held e = cond e.retired 0 e.size

unfoldable pub held : Sender → ℕ
held x = sum (map size_held x.entries)

-- "A record is empty (all zero)"
abbrev pub empty : Sender
empty = record { room = 0; place = 0; entries = [] }

abbrev pub unused : Sender → Bool
unused x = eqb x.room 0

-- "its place (.. at first the first PSN - 1)"
unfoldable pub fresh : ℕ → ℕ → Sender
fresh n first = record { room = n; place = before first; entries = [] }

-- refusals 4, 5
unfoldable pub start_refusals : Opening → Refusals
start_refusals s = (not (room_ok s.room), 4) ∷ (not (psn_ok s.first), 5) ∷ []

unfoldable pub start : Opening → Outcome Answer Sender
start s = unless (start_refusals s) (Done (fresh s.room s.first.0) answer.Started)

unfoldable pub with_entries : Sender → List Entry → Sender
with_entries x l = record { room = x.room; place = x.place; entries = l }

-- ---- "Send: gives the next PSN unless it would pass place + room"
abbrev pub new : ℕ → Entry
new size = record { size = size; retired = false; marked = false }

unfoldable pub sent : Sender → ℕ → Outcome Answer Sender
sent x size = Done (with_entries x (x.entries ++ (new size ∷ []))) (answer.Sent (psn (next x)))

-- ---- which PSNs are unsent
-- from place + 1 to a PSN
unfoldable pub index : Sender → ℕ → ℕ
index x p = distance (nth x 0) p

-- neither outstanding nor behind place + 1
unfoldable pub unsent : Sender → ℕ → Bool
unsent x p = leb (outstanding x) (index x p) && not (behind (nth x 0) p)
