-- Laws of `after` and `distance`: `after s i` is the number of packet i of a run that began at s. Assumes nothing.
use mathlib.Core.Path.{◌≡◌, sym, ap, ◌∙◌}
use Prim.Native.Nat.{ℕ, ◌+◌, ◌-◌, ◌%◌, ◌≤◌, ◌<◌}
use native.Mathlib.Omega.{arith}
use Rattle.psn.specs.Psn.{turn, after, distance}

pub after_lt : (p k : ℕ) → after p k < turn
unfolding after
after_lt p k = omega arith

pub distance_lt : (a b : ℕ) → distance a b < turn
unfolding distance
distance_lt a b = omega arith

pub after_after : (s i k : ℕ) → after (after s i) k ≡ after s (i + k)
unfolding after
after_after s i k = omega arith

-- a number of the circle, and the one a whole turn on
pub after_zero : (s : ℕ) → s < turn → after s 0 ≡ s
unfolding after
after_zero s h = omega arith

pub after_turn : (s i : ℕ) → after s (i + turn) ≡ after s i
unfolding after
after_turn s i = omega arith

wrapped : (n : ℕ) → n % turn % turn ≡ n % turn
wrapped n = omega arith

between : (s i j : ℕ) → distance (after s i) (after s j) ≡ ((s + j) % turn + (turn - (s + i) % turn)) % turn
unfolding distance after
between s i j = ap (λ (x : ℕ). ((s + j) % turn + (turn - x)) % turn) (wrapped (s + i))

-- the distance between two packets of a run, ahead and back
pub ahead : (s i j : ℕ) → i ≤ j → j < i + turn → distance (after s i) (after s j) ≡ j - i
ahead s i j h k = between s i j ∙ omega arith

pub back : (s i j : ℕ) → j < i → i < j + turn → distance (after s i) (after s j) ≡ turn + j - i
back s i j h k = between s i j ∙ omega arith

-- where the distance is known, so is the packet
pub lands : (s i j d : ℕ) → distance (after s i) (after s j) ≡ d → i + d < j + turn → j < i + d + turn → j ≡ i + d
lands s i j d e p q = omega (arith, between s i j)

-- one packet number from another, by the distance
pub distance_after : (a b : ℕ) → b < turn → after a (distance a b) ≡ b
unfolding after distance
distance_after a b h = omega arith

pub distance_same : (a : ℕ) → distance a a ≡ 0
unfolding distance
distance_same a = omega arith

-- from a number to p, and k on
turned : (a k : ℕ) → (a % turn + k) % turn ≡ (a + k) % turn
turned a k = omega arith

pub distance_on : (a p k : ℕ) → (distance a p + k) % turn ≡ distance a (after p k)
unfolding distance after
distance_on a p k =
    let z = turn - a % turn in
    let e : p + z + k ≡ p + k + z = omega arith in
    turned (p + z) k ∙ ap (λ (x : ℕ). x % turn) e ∙ sym (turned (p + k) z)

-- from a number to another, and back
returned : (b a : ℕ) → after b (distance b a) ≡ a % turn
unfolding after distance
returned b a = omega arith

round : (a : ℕ) → distance a (a % turn) ≡ 0
unfolding distance
round a = omega arith

pub distance_back : (a b : ℕ) → (distance a b + distance b a) % turn ≡ 0
distance_back a b = distance_on a b (distance b a) ∙ ap (distance a) (returned b a) ∙ round a

-- from the number after a
pub distance_next : (a b : ℕ) → distance a b ≡ (distance (after a 1) b + 1) % turn
unfolding after distance
distance_next a b = omega arith
