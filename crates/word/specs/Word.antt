-- A number's bits, and what the operations on one 64-bit word do to each of them.
use Rattle.std.specs.Prelude.{◌≡◌, Bool, not, cond, ◌&&◌, ℕ, ◌-◌, ◌/◌, ◌%◌, ◌^◌, ◌<◌, ltb, leb, eqb}

-- bit i of n: the digit that is worth 2^i
unfoldable pub bit_at : ℕ → ℕ → Bool
bit_at n i = eqb (n / 2 ^ i % 2) 1

-- the bits of the word w are those of f
abbrev pub Bits : ℕ → (ℕ → Bool) → Type 0
Bits w f = (i : ℕ) → i < 64 → bit_at w i ≡ f i

-- from a up to, and not with, b
abbrev pub in_range : ℕ → ℕ → ℕ → Bool
in_range a b i = leb a i && ltb i b

-- bit p of two words, the second behind the first
abbrev pub bit_of_two : ℕ → ℕ → ℕ → Bool
bit_of_two low high p = cond (ltb p 64) (bit_at low p) (bit_at high (p - 64))

-- set in v and clear in w
abbrev pub only_in : ℕ → ℕ → ℕ → Bool
only_in v w i = bit_at v i && not (bit_at w i)
