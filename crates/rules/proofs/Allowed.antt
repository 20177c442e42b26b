-- A room that is allowed, by its numbers: what each of the three tests tells. Assumes nothing.
use mathlib.Core.Path.{◌≡◌}
use mathlib.Core.Bool.{true, ◌&&◌}
use Prim.Native.Nat.{ℕ, ◌%◌, ◌≤◌}
use lib.Dec.{leb, eqb}
use borrow.Author.Tests.{leb-true, eqb-true}
use Rattle.rules.specs.Numbers.{least_room, largest_room, room_ok}
use Rattle.lists.proofs.Joined.{and_true_each}

pub record Room (n : ℕ) : Type 0 where
  pub least : least_room ≤ n
  pub most : n ≤ largest_room
  pub whole : n % least_room ≡ 0

pub room_numbers : (n : ℕ) → room_ok n ≡ true → Room n
unfolding room_ok
room_numbers n h =
    let p = and_true_each (leb least_room n && leb n largest_room) (eqb (n % least_room) 0) h in
    let q = and_true_each (leb least_room n) (leb n largest_room) p.0 in
    record { least = leb-true least_room n q.0; most = leb-true n largest_room q.1; whole = eqb-true (n % least_room) 0 p.1 }
