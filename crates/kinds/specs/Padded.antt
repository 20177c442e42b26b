-- The fields of a kind in the code's arrays.
use Rattle.std.specs.Prelude.{List, ℕ, ◌<◌, ◌^◌, get_or}
use Rattle.lists.specs.Index.{table}
use Rattle.rules.specs.declared.Cell.{Cell}
use Rattle.rules.specs.declared.Cell.TheVariants.{Bits}

-- the most fields that a kind has
abbrev pub most : ℕ
most = 4

-- as many fields as the code has room for, 0 past the last
unfoldable pub padded : List ℕ → List ℕ
padded l = table most (λ i. get_or l i 0)

-- and of no bits
unfoldable pub padded_cells : List Cell → List Cell
padded_cells l = table most (λ i. get_or l i (Bits 0))

-- each field fits its width
abbrev pub FitsAll : List ℕ → List ℕ → Type 0
FitsAll ws vs = (i : ℕ) → get_or vs i 0 < 2 ^ get_or ws i 0
