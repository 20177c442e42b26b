-- 01, Pinning every answer down: what each event of each engine owes, in the same words for any answer and any record.
use Rattle.std.specs.Prelude.{◌≡◌, ℕ, Result, Ok, Err}
use Rattle.promise.specs.Line.{Line, refused}
use Rattle.promise.specs.Outcome.{Outcome, Refused, left, on_paper}

-- what an engine gives on paper: `line` is the paper of an answer, and of a refusal there is its number only
unfoldable pub told : {A E : Type 0} → (A → Line) → (E → ℕ) → Result A E → Line
told line number (Ok a) = line a
told line number (Err e) = refused (number e)

-- An engine's record x means the rules' record `meaning x`. An event whose rule gives the outcome o gives r, an answer or a refusal, and leaves
-- the record y.
pub record Meets {A E R S : Type 0} (line : A → Line) (number : E → ℕ) (Sound : R → Type 0) (meaning : R → S) (x : R) (o : Outcome A S)
    (r : Result A E) (y : R) : Type 0 where
  -- the rule's answer, on paper
  pub answer_is : told line number r ≡ on_paper line o
  -- the rule's next record
  pub record_is : meaning y ≡ left (meaning x) o
  -- "a refused call changes no record", not even what a record does not list
  pub untouched : (n : ℕ) → o ≡ Refused n → y ≡ x
  -- the one premise, again
  pub sound : Sound y
