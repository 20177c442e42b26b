-- 01, Numbers of the trade: packet numbers and the distance between them.
use Rattle.std.specs.Prelude.{Bool, ℕ, ◌+◌, ◌-◌, ◌%◌, leb}

-- "A packet number (PSN) is 0 to 16,777,215 and wraps to 0": as many as there are
abbrev pub turn : ℕ
turn = 16777216

-- "Half: 8,388,608"
abbrev pub half : ℕ
half = 8388608

-- the packet number k after p
unfoldable pub after : ℕ → ℕ → ℕ
after p k = (p + k) % turn

-- the packet number before p
abbrev pub before : ℕ → ℕ
before p = after p (turn - 1)

-- "The distance from a to b is (b - a) modulo 16,777,216"
unfoldable pub distance : ℕ → ℕ → ℕ
distance a b = (b + (turn - a % turn)) % turn

-- "At half or more, b is behind a"
abbrev pub behind : ℕ → ℕ → Bool
behind a b = leb half (distance a b)
