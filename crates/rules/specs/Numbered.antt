-- 01, When the card says no, and The event log: the refusals and the kinds of an event by their numbers.
use Rattle.std.specs.Prelude.{[], ◌∷◌, ℕ, get_or}
use Rattle.rules.specs.declared.Kind.{Kind}
use Rattle.rules.specs.declared.Kind.TheVariants as kind
use Rattle.rules.specs.declared.Refusal.{Refusal}
use Rattle.rules.specs.declared.Refusal.TheVariants.{NoSuchSlot, NotInUse, InUse, BadRoom, BadPsn, BadSize, RoomFull, NeverSent, NothingMarked, CutShort, NoMark, UnknownKind, LogTooLong, BadFlags, BadReason, BufferTooShort, Contradiction}

unfoldable pub number : Refusal → ℕ
number NoSuchSlot = 1
number NotInUse = 2
number InUse = 3
number BadRoom = 4
number BadPsn = 5
number BadSize = 6
number RoomFull = 7
number NeverSent = 8
number NothingMarked = 9
number CutShort = 10
number NoMark = 11
number UnknownKind = 12
number LogTooLong = 13
number BadFlags = 14
number BadReason = 15
number BufferTooShort = 16
number Contradiction = 17

-- the refusal of a number; there is none but 1 to 17
unfoldable pub refusal : ℕ → Refusal
refusal n =
    get_or
    (NoSuchSlot
    ∷ NoSuchSlot
    ∷ NotInUse
    ∷ InUse
    ∷ BadRoom
    ∷ BadPsn
    ∷ BadSize
    ∷ RoomFull
    ∷ NeverSent
    ∷ NothingMarked
    ∷ CutShort
    ∷ NoMark
    ∷ UnknownKind
    ∷ LogTooLong
    ∷ BadFlags
    ∷ BadReason
    ∷ BufferTooShort
    ∷ Contradiction
    ∷ [])
    n NoSuchSlot

-- ---- the kinds of an event, by their numbers in a record
unfoldable pub kind_number : Kind → ℕ
kind_number kind.Start = 1
kind_number kind.Close = 2
kind_number kind.Send = 3
kind_number kind.Arrive = 4
kind_number kind.Sack = 5
kind_number kind.Nack = 6
kind_number kind.Timer = 7
kind_number kind.Resend = 8

-- the kind of a number; there is none but 1 to 8
unfoldable pub kind_of_number : ℕ → Kind
kind_of_number n = get_or (kind.Start ∷ kind.Start ∷ kind.Close ∷ kind.Send ∷ kind.Arrive ∷ kind.Sack ∷ kind.Nack ∷ kind.Timer ∷ kind.Resend ∷ []) n kind.Start
