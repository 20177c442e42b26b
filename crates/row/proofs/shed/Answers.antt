-- `shed` meets its contract: at the end each word stands where it goes, and past the end there is none. Assumes nothing.
use mathlib.Core.Path.{◌≡◌, sym, ap, ◌∙◌}
use mathlib.Core.List.{List}
use Prim.Native.Nat.{ℕ, ◌+◌, ◌*◌, ◌≤◌, ◌<◌}
use native.Mathlib.Omega.{arith}
use native.Mathlib.Decide.{dec_lt}
use lib.ListN.{length, get_or, get_or-eq_default}
use Rattle.word.specs.Word.{bit_at}
use Rattle.row.specs.Row.{at, Row}
use Rattle.row.proofs.Rows.{at_word, row_words}
use Rattle.row.proofs.shed.Invariants.{Moved}
use Rattle.row.proofs.shed.Goals as goal

all_moved : (ws₀ : List ℕ) (q : ℕ) (ws : List ℕ) (i : ℕ) → Moved ws₀ q ws i → length ws₀ ≤ i → Row ws (λ p. at ws₀ (64 * q + p))
all_moved ws₀ q ws i m e =
    row_words ws (λ p. at ws₀ (64 * q + p))
    (λ j b l. ap (λ (w : ℕ). bit_at w b) (word j (dec_lt j (length ws₀))) ∙ sym (at_word ws₀ (q + j) b l) ∙ ap (at ws₀) (place j b))
  where
    word : (j : ℕ) → Dec (j < length ws₀) → get_or ws j 0 ≡ get_or ws₀ (q + j) 0
    word j (yes h) = m.moved j (omega arith)
    word j (no h) = get_or-eq_default ws 0 (omega (arith, m.long)) ∙ sym (get_or-eq_default ws₀ 0 (omega arith))

    place : (j b : ℕ) → 64 * (q + j) + b ≡ 64 * q + (64 * j + b)
    place j b = omega arith

pub returns : goal.returns
returns c =
    let m = c.loop-i.invariant in
    record { long = m.long; bits_are = all_moved c.args.ws.now c.args.q c.loop-i.ws c.loop-i.i m (omega arith) }
