-- A receiver's head over the words lent to it: what they mean, which there are, and what an arrival owes.
use Rattle.std.specs.Prelude.{Ok, ◌≡◌, ℕ, ◌+◌, ◌*◌, ◌%◌, ◌<◌, ◌≤◌, Bool, true, false, ◌⊎◌, List, length, replicate}
use Rattle.lists.specs.Index.{table}
use Rattle.row.specs.Row.{at}
use Rattle.rules.specs.Numbers.{turn, psn, room_ok}
use Rattle.promise.specs.Promise.{Meets}
use Rattle.rules.specs.Receiver.{Receiver, accept, counted, sack_of}
use Rattle.rules.specs.Receiving.{arrive}
use Rattle.rules.specs.Numbered.{number}
use Rattle.rules.specs.Paper.{paper, Reply}
use Rattle.rules.specs.declared.Arrival.{Arrival}
use Rattle.rules.specs.declared.Verdict.{Verdict}
use Rattle.rules.specs.declared.Answer.TheVariants as answer
use Rattle.receiving.specs.declared.Head.{Head}

pub record Lent : Type 0 where
  pub head : Head
  pub words : List ℕ

abbrev pub lent : Head → List ℕ → Lent
lent h ws = record { head = h; words = ws }

-- the bit of E in the first word
abbrev pub offset : Lent → ℕ
offset x = x.head.expected.0 % 64

-- whether E + o is accepted
abbrev pub accepted : Lent → ℕ → Bool
accepted x o = at x.words (offset x + o)

unfoldable pub meaning : Lent → Receiver
meaning x = record { expected = x.head.expected.0; window = table x.head.room (accepted x); count = x.head.count }

-- a receiver that was started, over words enough for its room
pub record Started (x : Lent) : Type 0 where
  pub room_good : room_ok x.head.room ≡ true
  pub expected_low : x.head.expected.0 < turn
  pub enough : x.head.room + 64 ≤ 64 * length x.words
  -- all before E are accepted, E itself is not, and nothing past the window is
  pub before : (p : ℕ) → p < offset x → at x.words p ≡ true
  pub expected_open : at x.words (offset x) ≡ false
  pub past : (p : ℕ) → offset x + x.head.room ≤ p → at x.words p ≡ false

-- the record of no connection over n words: all zero
abbrev pub empty : ℕ → Lent
empty n = lent (record { room = 0; expected = psn 0; count = 0 }) (replicate n 0)

abbrev pub Empty : Lent → Type 0
Empty x = x ≡ empty (length x.words)

-- "A record is empty (all zero) or comes from a start and the events after it"
abbrev pub Sound : Lent → Type 0
Sound x = Empty x ⊎ Started x

-- an arrival that is fresh is accepted as the rule says
pub record Accepts (x : Lent) (a : Arrival) (y : Lent) : Type 0 where
  pub started : Started y
  pub accepted_is : meaning y ≡ accept (meaning x) a

-- an arrival judged v, fresh or known, is counted and answered r as the rule says, and leaves the head h over the same words
pub record Acks (x : Lent) (v : Verdict) (a : Arrival) (r : Reply) (h : Head) : Type 0 where
  pub started : Started (lent h x.words)
  pub counted_is : meaning (lent h x.words) ≡ counted (meaning x) a
  pub answer_is : r ≡ Ok (answer.Acked v (sack_of (counted (meaning x) a) a))

-- an arrival is answered r, and leaves the head h over the words ws
pub record Arrives (x : Lent) (a : Arrival) (r : Reply) (h : Head) (ws : List ℕ) : Type 0 where
  pub meets : Meets paper number Sound meaning x (arrive (meaning x) a) r (lent h ws)
  -- the words are as many as before
  pub long : length ws ≡ length x.words
