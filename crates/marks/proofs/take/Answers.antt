-- `marks::take` meets its contract: what the search finds, and its bit cleared, or the row as it was. Assumes nothing.
use mathlib.Core.Path.{◌≡◌, refl, sym, ap, subst, ◌∙◌}
use Prim.Native.Nat.{ℕ, ◌+◌}
use native.Mathlib.Omega.{arith}
use Rattle.psn.specs.Psn.{after, distance}
use Rattle.psn.proofs.Circle.{distance_lt}
use Rattle.row.specs.Row.{at, Becomes, without_bit}
use Rattle.marks.specs.Marks.{offset, left_after}
use Rattle.std.specs.Prelude.{Option}
use Rattle.psn.specs.declared.Psn.{Psn}
use Rattle.marks.proofs.take.Goals.{After-distance}
use Rattle.marks.proofs.take.Goals as goal

-- the index of the packet number that was found
index_is : (c : After-distance) → c.distance.result ≡ distance (after c.args.place.0 1) c.in-Some.psn.0
index_is c = c.distance.ensures ∙ ap (λ (a : ℕ). distance a c.in-Some.psn.0) c.after.ensures

pub overflow_add-place-in-Some : goal.overflow_add-place-in-Some
overflow_add-place-in-Some c =
    omega (arith, index_is (goal.at.overflow_add-place-in-Some c).After-distance, distance_lt (after c.args.place.0 1) c.in-Some.psn.0)

pub returns-in-Some : goal.returns-in-Some
unfolding left_after
returns-in-Some c =
    let ws = c.args.marked.now in
    let place = c.args.place.0 in
    let i_is = index_is (goal.at.returns-in-Some c).After-distance in
    let cleared = subst (λ (k : ℕ). Becomes ws c.clear.new.ws (without_bit ws (offset place + k))) i_is c.clear.ensures in
    record { finds = c.in-Some.ensures; marked_are = cleared }

pub returns-in_default : goal.returns-in_default
unfolding left_after
returns-in_default c =
    let ws = c.args.marked.now in
    let kept : Becomes ws ws (at ws) = record { long = refl; bits_are = λ p. refl } in
    let left = subst (λ (r : Option Psn). Becomes ws ws (left_after ws c.args.place.0 r)) (sym c.in_default.is) kept in
    record { finds = c.nearest-found.ensures; marked_are = left }
