-- What a lent row becomes is settled: two rows of 64-bit words that are as long and have the same bits are one. Assumes nothing.
use mathlib.Core.Path.{◌≡◌, sym, ◌∙◌}
use mathlib.Core.Bool.{Bool}
use mathlib.Core.List.{List}
use Prim.Native.Nat.{ℕ, ◌+◌, ◌*◌, ◌^◌, ◌<◌}
use native.Mathlib.Omega.{arith}
use lib.ListN.{length, get_or}
use lib.Seq.{ext_get_or}
use Rattle.word.proofs.Bits.{bits_one}
use Rattle.row.specs.Row.{Becomes}
use Rattle.row.proofs.Rows.{row_word}

abbrev pub Words : List ℕ → Type 0
Words ws = (j : ℕ) → j < length ws → get_or ws j 0 < 2 ^ 64

pub becomes_settled : (before vs ws : List ℕ) (f : ℕ → Bool) → Words vs → Words ws → Becomes before vs f → Becomes before ws f → vs ≡ ws
becomes_settled before vs ws f small small' p q =
    let long : length vs ≡ length ws = p.long ∙ sym q.long in
    ext_get_or 0 vs ws long
    (λ j l. bits_one (get_or vs j 0) (get_or ws j 0) (λ b. f (64 * j + b)) (small j l) (small' j (omega (arith, long)))
    (row_word vs f p.bits_are j) (row_word ws f q.bits_are j))
