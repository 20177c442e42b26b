-- The number of a reply and the values of its line, in the code's array.
use Rattle.std.specs.Prelude.{List, ◌++◌, ℕ, length, take, replicate}
use Rattle.rules.specs.Paper.{Reply, reply_line}
use Rattle.paper.specs.declared.Shown.{Shown}

-- the most values that a line has: those of a SACK
abbrev pub most : ℕ
most = 8

-- 01, When the card says no: "every value beside it is 0", and so is every place behind a line's last value
abbrev pub filled : ℕ → List ℕ → Shown
filled n l = record { number = n; many = length l; values = take most (l ++ replicate most 0) }

-- what a reply's line shows
abbrev pub shown : Reply → Shown
shown r = filled (reply_line r).number (reply_line r).values
