-- The engines follow the rules: each answer is the rule's, and each record means the rule's next. Assumes nothing.
use mathlib.Core.Path.{◌≡◌, refl, ap, ◌∙◌}
use Rattle.promise.specs.Outcome.{Outcome, left}
use Rattle.promise.specs.Promise.{Meets}
use Rattle.rules.specs.Numbered.{number}
use Rattle.rules.specs.Paper.{paper, Reply, answered}
use Rattle.rules.specs.declared.Answer.{Answer}
use Rattle.rules.proofs.Settled.{answer_is_rule}
use Rattle.sender.specs.Record as sender
use Rattle.receiver.specs.Record as receiver
use Rattle.delivery.specs.Rules.{Gives, given, rules}
use Rattle.delivery.proofs.Begins.{sender_begins, receiver_begins}
use Rattle.delivery.proofs.Following.{Follows, keeps}
use Rattle.bridge.specs.Engines.{engines, EnginesKeep}

-- the rule's own answer and record
pub gives : {S : Type 0} (x : S) (o : Outcome Answer S) (a : Reply) (y : S) → a ≡ answered o → y ≡ left x o → Gives x o a y
gives x o a y p q = rw (p, q) given

-- what a promise gives
meets_gives : {R S : Type 0} {Sound : R → Type 0} {meaning : R → S} (x : R) (o : Outcome Answer S) (a : Reply) (y : R)
    → Meets paper number Sound meaning x o a y → Gives (meaning x) o a (meaning y)
meets_gives {meaning = meaning} x o a y m = gives (meaning x) o a (meaning y) (answer_is_rule m) m.record_is

unfoldable sender_follows : Follows engines.sender rules.sender
unfolding left
sender_follows = record {
  meaning = sender.meaning;
  Kept = λ x. Unit {0};
  places = λ x. refl;
  begins = λ o x good low b. (b.1.record_is ∙ ap (left (sender.meaning sender.empty)) (sender_begins o good low), tt);
  steps = λ x e a y k m. (meets_gives x _ a y m, tt);
  beside = λ x y k b. absurd b;
}

unfoldable receiver_follows : Follows engines.receiver rules.receiver
unfolding left
receiver_follows = record {
  meaning = receiver.meaning;
  Kept = λ r. Unit {0};
  places = λ r. refl;
  begins = λ o r good low b. (b.1.record_is ∙ ap (left (receiver.meaning receiver.empty)) (receiver_begins o good low), tt);
  steps = λ r e a q k m. (meets_gives r _ a q m, tt);
  beside = λ r q k b. absurd b;
}

pub engines_keep : EnginesKeep
unfolding sender_follows receiver_follows
engines_keep = keeps (record { sender = sender_follows; receiver = receiver_follows })
