-- What `Meets` allows is settled for the card's replies: their lines tell them apart. Assumes nothing.
use mathlib.Core.Path.{◌≡◌, sym, ap, ◌∙◌}
use mathlib.Core.Bool.{false≢true}
use Prim.Native.Nat.{ℕ}
use lib.Dec.{eqb}
use Rattle.std.specs.Prelude.{Ok, Err}
use Rattle.promise.specs.Line.{Line, refused}
use Rattle.promise.specs.Outcome.{Outcome, Refused, Done, on_paper}
use Rattle.promise.specs.Promise.{told, Meets}
use Rattle.promise.proofs.Settled as any
use Rattle.rules.specs.Numbered.{number, refusal}
use Rattle.rules.specs.Paper.{paper, Reply, reply_line, answered}
use Rattle.rules.specs.declared.Answer.{Answer}
use Rattle.rules.proofs.Apart.{answer_kind, refusal_back, replies_apart}

module _ {R S : Type 0} {Sound : R → Type 0} {meaning : R → S} {x : R} {o : Outcome Answer S} where
  -- any two outcomes that the promise allows are equal, the records by what document 01 lists
  pub settled : (r q : Reply) (y z : R) → Meets paper number Sound meaning x o r y → Meets paper number Sound meaning x o q z
      → (r ≡ q) × (meaning y ≡ meaning z)
  settled = any.settled replies_apart

-- a reply with the line of an outcome is the outcome's
of_refused : (r : Reply) (n : ℕ) → reply_line r ≡ refused n → r ≡ Err (refusal n)
unfolding told
of_refused (Err e) n h = ap Err (sym (refusal_back e) ∙ ap refusal (ap (λ (l : Line). l.number) h))
of_refused (Ok a) n h = absurd (false≢true (sym (answer_kind a) ∙ ap (λ (l : Line). eqb l.kind 0) h))

pub answered_is : {S : Type 0} (o : Outcome Answer S) (r : Reply) → reply_line r ≡ on_paper paper o → r ≡ answered o
unfolding on_paper answered told
answered_is (Refused n) r h = of_refused r n h
answered_is (Done s a) r h = replies_apart r (Ok a) h

module _ {R S : Type 0} {Sound : R → Type 0} {meaning : R → S} {x : R} {o : Outcome Answer S} where
  -- the reply is the rule's own
  pub answer_is_rule : {r : Reply} {y : R} → Meets paper number Sound meaning x o r y → r ≡ answered o
  answer_is_rule {r} m = answered_is o r m.answer_is
