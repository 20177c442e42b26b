-- Big-endian fields, each so many bits wide, over bytes. A list of bytes is one number, its first byte the highest; a list of values
-- with their widths is one number too, its first field the highest; and the two numbers are the same.
use Rattle.std.specs.Prelude.{◌≡◌, List, [], ◌∷◌, ◌++◌, ℕ, zero, suc, ◌+◌, ◌*◌, ◌/◌, ◌%◌, ◌^◌, ◌≤◌, ◌<◌, length, get_or, take, drop}
use Rattle.lists.specs.Lists.{sum}

-- ---- bytes
-- every element is a byte
abbrev pub Bytes : List ℕ → Type 0
Bytes l = (i : ℕ) → get_or l i 0 < 256

-- the number that bytes spell, the highest first
unfoldable pub number : List ℕ → ℕ
number [] = 0
number (b ∷ l) = b * 256 ^ length l + number l

-- the n low bytes of v, the highest first
unfoldable pub spell : ℕ → ℕ → List ℕ
spell zero v = []
spell (suc n) v = v / 256 ^ n % 256 ∷ spell n v

-- ---- fields
-- the number that values make, each in its width: of a value that is wider, its low bits
unfoldable pub joined : List ℕ → List ℕ → ℕ
joined [] vs = 0
joined (w ∷ ws) [] = joined ws []
joined (w ∷ ws) (v ∷ vs) = v % 2 ^ w * 2 ^ sum ws + joined ws vs

-- the values that a number is made of
unfoldable pub parted : List ℕ → ℕ → List ℕ
parted [] n = []
parted (w ∷ ws) n = n / 2 ^ sum ws % 2 ^ w ∷ parted ws n

-- how many bytes fields of these widths take
abbrev pub size : List ℕ → ℕ
size ws = sum ws / 8

-- the bytes of fields with these values
unfoldable pub encode : List ℕ → List ℕ → List ℕ
encode ws vs = spell (size ws) (joined ws vs)

-- the values of the fields that bytes begin with
unfoldable pub decode : List ℕ → List ℕ → List ℕ
decode ws l = parted ws (number (take (size ws) l))

-- the bytes l with those fields at their front: later bytes stay
abbrev pub written : List ℕ → List ℕ → List ℕ → List ℕ
written ws vs l = encode ws vs ++ drop (size ws) l

-- a value for each width, and each fits
unfoldable pub Fits : List ℕ → List ℕ → Type 0
Fits [] vs = vs ≡ []
Fits (w ∷ ws) [] = ⊥
Fits (w ∷ ws) (v ∷ vs) = (v < 2 ^ w) × Fits ws vs

-- ---- what reading and writing ask
-- widths that fill whole bytes, none above 64
pub record Layout (ws : List ℕ) : Type 0 where
  pub whole : sum ws % 8 ≡ 0
  pub narrow : (i : ℕ) → get_or ws i 0 ≤ 64
  pub short : sum ws < 2 ^ 32

-- such widths, with so many bytes and so many values
pub record Laid (ws : List ℕ) (bytes values : ℕ) : Type 0 where
  pub layout : Layout ws
  pub enough : size ws ≤ bytes
  pub each : values ≡ length ws
