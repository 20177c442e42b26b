-- `Refusal::number` meets its contract: case by case. Assumes nothing.
use Rattle.std.proofs.Common.{◌≡◌, refl, ◌+◌}
use denote.Enum.Declared.{tag_of}
use Rattle.rules.specs.Numbered.{number}
use Rattle.rules.specs.contracts.Refusal.{the_type}
use Rattle.rules.specs.declared.Refusal.{Refusal}
use Rattle.rules.specs.declared.Refusal.TheVariants as refused
use Rattle.rules.proofs.Refusal.number.Goals as goal

by_tag : (e : Refusal) → tag_of the_type e + 1 ≡ number e
unfolding number
by_tag refused.NoSuchSlot = refl
by_tag refused.NotInUse = refl
by_tag refused.InUse = refl
by_tag refused.BadRoom = refl
by_tag refused.BadPsn = refl
by_tag refused.BadSize = refl
by_tag refused.RoomFull = refl
by_tag refused.NeverSent = refl
by_tag refused.NothingMarked = refl
by_tag refused.CutShort = refl
by_tag refused.NoMark = refl
by_tag refused.UnknownKind = refl
by_tag refused.LogTooLong = refl
by_tag refused.BadFlags = refl
by_tag refused.BadReason = refl
by_tag refused.BufferTooShort = refl
by_tag refused.Contradiction = refl

pub returns : goal.returns
returns c = by_tag c.args.self
