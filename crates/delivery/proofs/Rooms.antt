-- What a run asks of a room, from the definition of a good one: it is not 0, and it is below half. Assumes nothing.
use mathlib.Core.Path.{◌≡◌}
use mathlib.Core.Bool.{true, false}
use Prim.Native.Nat.{ℕ, ◌<◌}
use native.Mathlib.Omega.{arith}
use lib.Dec.{eqb}
use borrow.Author.Tests.{ne_eqb}
use Rattle.rules.specs.Numbers.{half, largest_room, room_ok}
use Rattle.rules.proofs.Allowed.{Room, room_numbers}

-- how large the largest room may be
pub largest_fits : largest_room < half
largest_fits = omega arith

module _ (n : ℕ) (good : room_ok n ≡ true) where
  numbers : Room n
  numbers = room_numbers n good

  pub room_some : 0 < n
  room_some = omega (arith, numbers)

  pub room_few : n < half
  room_few = omega (arith, numbers, largest_fits)

  -- so it is not an empty record's
  pub room_used : eqb n 0 ≡ false
  room_used = ne_eqb n 0 (omega (arith, room_some))
