-- A number in decimal, and what putting bytes into a buffer leaves there.
use Rattle.std.specs.Prelude.{◌≡◌, cond, List, [], ◌∷◌, ◌++◌, ℕ, zero, suc, ◌+◌, ◌/◌, ◌%◌, ltb, length, set}
use Rattle.lines.specs.declared.Page.{Page}

-- the decimal digits of n in ASCII, of which a number of 64 bits has 20 at the most
unfoldable pub digits_of : ℕ → ℕ → List ℕ
digits_of zero n = []
digits_of (suc most) n = cond (ltb n 10) ((48 + n) ∷ []) (digits_of most (n / 10) ++ ((48 + n % 10) ∷ []))

unfoldable pub decimal : ℕ → List ℕ
decimal n = digits_of 20 n

-- the index after a byte at an index of n bytes: the same where there is no room
unfoldable pub next : ℕ → ℕ → ℕ
next n at = cond (ltb at n) (at + 1) at

-- bytes put into a buffer one after the other, from an index on, as long as there is room: the buffer, and the index after them
unfoldable pub put : List ℕ → ℕ → List ℕ → List ℕ
put out at [] = out
put out at (b ∷ t) = put (set out at b) (next (length out) at) t

unfoldable pub past : ℕ → ℕ → List ℕ → ℕ
past n at [] = at
past n at (b ∷ t) = past n (next n at) t

pub record Puts (before : List ℕ) (at : ℕ) (text after : List ℕ) (r : ℕ) : Type 0 where
  pub bytes_are : after ≡ put before at text
  pub index_is : r ≡ past (length before) at text

-- a text put on a page: into its buffer, from its index on
abbrev pub PutsOn : Page → List ℕ → Page → Type 0
PutsOn before text after = Puts before.bytes.now before.at text after.bytes.now after.at
