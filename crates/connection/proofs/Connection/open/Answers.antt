-- `Connection::open` meets its contract: a return by one of the four tests is the rule's refusal, and where none is taken both sides are
-- started. Assumes nothing.
use Rattle.std.proofs.Common.{◌≡◌, refl, sym, ap, ◌∙◌, Bool, true, false, not, cond, length, inl, rules}
use Rattle.std.specs.Prelude.{Ok, Err}
use Rattle.promise.specs.Outcome.{unless}
use Rattle.promise.proofs.Refusing.{Past}
use Rattle.rules.specs.Connection.{start, start_refusals}
use Rattle.rules.specs.Numbered.{number}
use Rattle.rules.specs.declared.Refusal.{Refusal}
use Rattle.rules.specs.declared.Refusal.TheVariants.{BadRoom, BadPsn}
use Rattle.connection.proofs.Starting.{not_begun, starts}
use Rattle.connection.proofs.Connection.open.Goals as goal
use Rattle.connection.proofs.Connection.open.Goals.{After-start}

pub returns-in_err-unless : goal.returns-in_err-unless
unfolding start start_refusals unless number
returns-in_err-unless c = not_begun _ _ BadRoom _ (inl c.requires) (search rules) (search rules)

pub returns-in_err-unless-2 : goal.returns-in_err-unless-2
unfolding start start_refusals unless number
returns-in_err-unless-2 c = not_begun _ _ BadRoom _ (inl c.requires) (search rules) (search rules)

pub returns-in_err-unless-3 : goal.returns-in_err-unless-3
unfolding start start_refusals unless number
returns-in_err-unless-3 c = not_begun _ _ BadPsn _ (inl c.requires) (search rules) (search rules)

pub returns-in_err-unless-4 : goal.returns-in_err-unless-4
unfolding start start_refusals unless number
returns-in_err-unless-4 c = not_begun _ _ BadPsn _ (inl c.requires) (search rules) (search rules)

-- no test refuses
held : {u : Unit {0}} (b : Bool) (e : Refusal) → Ok u ≡ cond b (Ok tt) (Err e) → not b ≡ false
held true e h = refl
held false e h = absurd (search rules)

passed : (c : After-start) → Past (start_refusals c.args.opening) (length (start_refusals c.args.opening))
unfolding start_refusals Past
passed c = (
  ap not (sym c.room_ok.ensures) ∙ held _ _ c.in_ok-unless.ensures,
  (
    ap not (sym c.room_ok-2.ensures) ∙ held _ _ c.in_ok-unless-2.ensures,
    (ap not (sym c.psn_ok.ensures) ∙ held _ _ c.in_ok-unless-3.ensures, (ap not (sym c.psn_ok-2.ensures) ∙ held _ _ c.in_ok-unless-4.ensures, tt)),
  ),
)

pub returns : goal.returns
returns c = rw c.requires (starts c.args.opening (passed (goal.at.returns c).After-start) _ _ _ _ c.start.ensures c.start-2.ensures)
