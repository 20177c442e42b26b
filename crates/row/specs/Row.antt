-- A row of 64-bit words by its bits, the lowest 64 in the first word.
use Rattle.std.specs.Prelude.{◌≡◌, Bool, not, ◌&&◌, ◌||◌, List, ℕ, ◌*◌, ◌/◌, ◌%◌, eqb, ltb, length, get_or}
use Rattle.word.specs.Word.{bit_at}

-- bit p of the row; past its end none is set
unfoldable pub at : List ℕ → ℕ → Bool
at ws p = bit_at (get_or ws (p / 64) 0) (p % 64)

-- how many bits it has
abbrev pub bits : List ℕ → ℕ
bits ws = 64 * length ws

-- the bits of the row ws are those of f
abbrev pub Row : List ℕ → (ℕ → Bool) → Type 0
Row ws f = (p : ℕ) → at ws p ≡ f p

-- a lent row after a call: as long as before, with the bits of f
pub record Becomes (before after : List ℕ) (f : ℕ → Bool) : Type 0 where
  pub long : length after ≡ length before
  pub bits_are : Row after f

-- with bit p set, if the row has one
abbrev pub with_bit : List ℕ → ℕ → ℕ → Bool
with_bit ws p k = at ws k || (eqb k p && ltb k (bits ws))

-- with bit p clear
abbrev pub without_bit : List ℕ → ℕ → ℕ → Bool
without_bit ws p k = at ws k && not (eqb k p)

abbrev pub is_clear : List ℕ → ℕ → Bool
is_clear ws p = not (at ws p)

-- so many words that the position of each bit fits 32 bits
abbrev pub longest : ℕ
longest = 33554432
