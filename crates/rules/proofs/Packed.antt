-- A list of bits as one number: its bits are the entries, and it has no more of them. By halves. Assumes nothing.
use mathlib.Core.Path.{◌≡◌, ap, ◌∙◌}
use mathlib.Core.Bool.{Bool, true, false, cond}
use mathlib.Core.List.{List, [], ◌∷◌}
use Prim.Native.Nat.{ℕ, zero, suc, ◌+◌, ◌*◌, ◌/◌, ◌^◌, ◌<◌}
use native.Mathlib.Omega.{arith}
use native.Mathlib.Nat.{pow-suc}
use lib.ListN.{length, get_or}
use Rattle.lists.specs.Index.{table}
use Rattle.word.specs.Word.{bit_at, Bits}
use Rattle.lists.proofs.Index.{length_table, get_or_table}
use Rattle.word.proofs.Bits.{bit_none, bit_even, bit_odd, bit_suc}
use Rattle.lists.specs.Lists.{pack}

pub pack_lt : (l : List Bool) → pack l < 2 ^ length l
unfolding pack
pack_lt [] = omega arith
pack_lt (true ∷ l) = omega (arith, pack_lt l, pow-suc 2 (length l))
pack_lt (false ∷ l) = omega (arith, pack_lt l, pow-suc 2 (length l))

-- bit i is entry i
pub bit_pack : (l : List Bool) (i : ℕ) → bit_at (pack l) i ≡ get_or l i false
unfolding pack
bit_pack [] i = bit_none i
bit_pack (true ∷ l) zero = bit_odd (1 + 2 * pack l) (omega arith)
bit_pack (false ∷ l) zero = bit_even (0 + 2 * pack l) (omega arith)
bit_pack (b ∷ l) (suc i) = bit_suc (cond b 1 0 + 2 * pack l) i ∙ ap (λ (n : ℕ). bit_at n i) (half b) ∙ bit_pack l i
  where
    half : (b : Bool) → (cond b 1 0 + 2 * pack l) / 2 ≡ pack l
    half true = omega arith
    half false = omega arith

-- the number of a table of 64 bits
pub pack_table : (f : ℕ → Bool) → Bits (pack (table 64 f)) f
pack_table f i h = bit_pack (table 64 f) i ∙ get_or_table 64 f i false h

pub pack_table_lt : (f : ℕ → Bool) → pack (table 64 f) < 2 ^ 64
pack_table_lt f = rw (length_table 64 f) at (pack_lt (table 64 f))
