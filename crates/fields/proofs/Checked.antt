-- A layout by one test, which is computed where the widths are given. Assumes nothing.
use mathlib.Core.Path.{◌≡◌}
use mathlib.Core.Bool.{Bool, true, ◌&&◌}
use mathlib.Core.List.{List, [], ◌∷◌}
use Prim.Native.Nat.{ℕ, zero, suc, ◌%◌, ◌^◌, ◌≤◌}
use native.Mathlib.Omega.{arith}
use lib.Dec.{leb, ltb, eqb}
use lib.ListN.{get_or}
use borrow.Author.Tests.{leb-true, ltb-true, eqb-true}
use Rattle.lists.specs.Lists.{sum}
use Rattle.lists.proofs.Joined.{and_true_each}
use Rattle.fields.specs.Fields.{Layout}

-- none is above 64
unfoldable pub narrow : List ℕ → Bool
narrow [] = true
narrow (w ∷ ws) = leb w 64 && narrow ws

narrow_each : (ws : List ℕ) → narrow ws ≡ true → (i : ℕ) → get_or ws i 0 ≤ 64
unfolding narrow
narrow_each [] h i = omega arith
narrow_each (w ∷ ws) h zero = leb-true w 64 (and_true_each (leb w 64) (narrow ws) h).0
narrow_each (w ∷ ws) h (suc i) = narrow_each ws (and_true_each (leb w 64) (narrow ws) h).1 i

-- they fill whole bytes, and none is above 64
unfoldable pub fine : List ℕ → Bool
fine ws = eqb (sum ws % 8) 0 && (ltb (sum ws) (2 ^ 32) && narrow ws)

pub checked : (ws : List ℕ) → fine ws ≡ true → Layout ws
unfolding fine
checked ws h =
    let p = and_true_each (eqb (sum ws % 8) 0) (ltb (sum ws) (2 ^ 32) && narrow ws) h in
    let q = and_true_each (ltb (sum ws) (2 ^ 32)) (narrow ws) p.1 in
    record { whole = eqb-true (sum ws % 8) 0 p.0; narrow = narrow_each ws q.1; short = ltb-true (sum ws) (2 ^ 32) q.0 }
