-- `room_ok` meets its contract: each return by the tests that led there. Assumes nothing.
use borrow.Author.Tests.{le-leb, lt-leb}
use Rattle.rules.specs.Numbers.{room_ok}
use Rattle.allowed.proofs.room_ok.Goals as goal

pub returns-then-room-lt-LEAST_ROOM : goal.returns-then-room-lt-LEAST_ROOM
unfolding room_ok
returns-then-room-lt-LEAST_ROOM c = simp (lt-leb _ _ c.if-room-lt-LEAST_ROOM.true)

pub returns-then-room-gt-LARGEST_ROOM : goal.returns-then-room-gt-LARGEST_ROOM
unfolding room_ok
returns-then-room-gt-LARGEST_ROOM c = simp (le-leb _ _ c.if-room-lt-LEAST_ROOM.false, lt-leb _ _ c.if-room-gt-LARGEST_ROOM.true)

pub returns : goal.returns
unfolding room_ok
returns c = simp (le-leb _ _ c.if-room-lt-LEAST_ROOM.false, le-leb _ _ c.if-room-gt-LARGEST_ROOM.false)
