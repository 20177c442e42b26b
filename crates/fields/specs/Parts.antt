-- What the functions promise one another: bits taken out of a number and put into one.
use Rattle.std.specs.Prelude.{◌≡◌, List, ℕ, ◌+◌, ◌-◌, ◌*◌, ◌/◌, ◌%◌, ◌^◌, ◌≤◌, ◌<◌, length}
use Rattle.fields.specs.Fields.{number}

-- the w bits of n above its t lowest
unfoldable pub cut : ℕ → ℕ → ℕ → ℕ
cut t w n = n / 2 ^ t % 2 ^ w

-- n with these bits made the w lowest of v
unfoldable pub placed : ℕ → ℕ → ℕ → ℕ → ℕ
placed t w v n = (n / 2 ^ (t + w) * 2 ^ w + v % 2 ^ w) * 2 ^ t + n % 2 ^ t

-- a field of so many bits that so many bytes hold
pub record InBytes (from width bytes : ℕ) : Type 0 where
  pub within : from + width ≤ 8 * bytes
  pub narrow : width ≤ 64
  pub short : from + width < 2 ^ 32

-- width bits of v stand from bit `from` on, and all other bits of l stay
abbrev pub Puts : ℕ → ℕ → ℕ → List ℕ → List ℕ → Type 0
Puts from width v l after = number after ≡ placed (8 * length l - (from + width)) width v (number l)
