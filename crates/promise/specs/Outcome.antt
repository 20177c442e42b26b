-- 01, When the card says no: what a rule gives, with answers of any type A on records of any type S.
use Rattle.std.specs.Prelude.{Bool, cond, List, [], ◌∷◌, ℕ}
use Rattle.promise.specs.Line.{Line, refused}

-- a refusal with its number, or the next record with the answer
pub data Outcome (A S : Type 0) : Type 0 where
  Refused : ℕ → Outcome A S
  Done : S → A → Outcome A S

-- an event's refusals: a test and its number each, in document 01's order
abbrev pub Refusals : Type 0
Refusals = List (Bool × ℕ)

-- the first test that passes refuses; where none does, the outcome is o
unfoldable pub unless : {A S : Type 0} → Refusals → Outcome A S → Outcome A S
unless [] o = o
unless (r ∷ l) o = cond r.0 (Refused r.1) (unless l o)

-- the number of the first whose test passes; where none does, "0 is done"
unfoldable pub first_of : Refusals → ℕ
first_of [] = 0
first_of (r ∷ l) = cond r.0 r.1 (first_of l)

-- "records .. keep their contents": the record after an event on x
unfoldable pub left : {A S : Type 0} → S → Outcome A S → S
left x (Refused n) = x
left x (Done y a) = y

-- "A refusal carries its number only": the outcome on paper, where `line` is the paper of an answer
unfoldable pub on_paper : {A S : Type 0} → (A → Line) → Outcome A S → Line
on_paper line (Refused n) = refused n
on_paper line (Done y a) = line a

-- the outcome on a part, as the outcome on the whole
unfoldable pub within : {A S T : Type 0} → (S → T) → Outcome A S → Outcome A T
within whole (Refused n) = Refused n
within whole (Done y a) = Done (whole y) a
