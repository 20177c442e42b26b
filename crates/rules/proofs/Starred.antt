-- The bench's table holds: both sides of each case compute to the same lines. Assumes nothing.
use mathlib.Core.Path.{refl}
use Rattle.rules.specs.Bench.{lines, bench, records, ends, answers, told, expected, Starred}
use Rattle.rules.specs.Limits.{Limits}
use Rattle.rules.proofs.Unfold.{rules}

limits : Limits
unfolding rules
limits = record { send_rooms = refl; receive_rooms = refl; program = refl; sixteen = refl; seventeen = refl; replayed = refl }

pub starred : Starred
unfolding rules lines bench records ends answers told expected
starred = record { as_worked = refl; count_wraps = refl; counted_once = refl; limits = limits; lengths = refl }
