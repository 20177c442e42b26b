-- `Kind::number` meets its contract: case by case. Assumes nothing.
use Rattle.std.proofs.Common.{◌≡◌, refl, ◌+◌}
use denote.Enum.Declared.{tag_of}
use Rattle.rules.specs.Numbered.{kind_number}
use Rattle.rules.specs.contracts.Kind.{the_type}
use Rattle.rules.specs.declared.Kind.{Kind}
use Rattle.rules.specs.declared.Kind.TheVariants as kind
use Rattle.rules.proofs.Kind.number.Goals as goal

by_tag : (k : Kind) → tag_of the_type k + 1 ≡ kind_number k
unfolding kind_number
by_tag kind.Start = refl
by_tag kind.Close = refl
by_tag kind.Send = refl
by_tag kind.Arrive = refl
by_tag kind.Sack = refl
by_tag kind.Nack = refl
by_tag kind.Timer = refl
by_tag kind.Resend = refl

pub returns : goal.returns
returns c = by_tag c.args.self
