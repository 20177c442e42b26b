-- A place that is known by its number: the PSNs after it, and how far it moves. By the laws of the circle. Assumes nothing.
use mathlib.Core.Path.{◌≡◌, sym, ap, ap₂, ◌∙◌}
use Prim.Native.Nat.{ℕ, ◌+◌, ◌-◌, ◌<◌}
use native.Mathlib.Omega.{arith}
use Rattle.psn.proofs.Circle.{ahead, after_after, after_turn, distance_same}
use Rattle.rules.specs.Numbers.{turn, after, before, distance}

-- one step after the place before it, and more steps
pub past_before : (first i k : ℕ) → after (before (after first i)) (1 + k) ≡ after first (i + k)
past_before first i k =
    after_after (after first i) (turn - 1) (1 + k) ∙ after_after first i (turn - 1 + (1 + k)) ∙ ap (after first) (omega arith) ∙ after_turn first (i + k)

pub past_one : (first i : ℕ) → after (before (after first i)) 1 ≡ after first i
past_one first i = past_before first i 0 ∙ ap (after first) (omega arith)

-- the place moves with its number
pub before_on : (first i k : ℕ) → after (before (after first i)) k ≡ before (after first (i + k))
before_on first i k =
    after_after (after first i) (turn - 1) k ∙ after_after first i (turn - 1 + k) ∙ ap (after first) (omega arith) ∙ sym (after_after first (i + k) (turn - 1))

pub moved : (first i k p q : ℕ) → p ≡ after first i → q ≡ after first (i + k) → k < turn → distance p q ≡ k
moved first i k p q e f h = ap₂ distance e f ∙ ahead first i (i + k) (omega arith) (omega arith) ∙ omega arith

pub place_moved : (first i k p q : ℕ) → p ≡ before (after first i) → q ≡ before (after first (i + k)) → k < turn → distance p q ≡ k
place_moved first i k p q e f h =
    moved first (i + (turn - 1)) k p q (e ∙ after_after first i (turn - 1)) (f ∙ after_after first (i + k) (turn - 1) ∙ ap (after first) (omega arith)) h

pub stays : (m p q : ℕ) → q ≡ p → m + distance p q ≡ m
stays m p q e = let z : distance p q ≡ 0 = ap (distance p) e ∙ distance_same p in omega arith
