-- `clear` meets its contract: one word loses one bit; past the end every bit is clear. Assumes nothing.
use mathlib.Core.Path.{◌≡◌, ◌∙◌}
use mathlib.Core.Bool.{not, ◌&&◌, and-true}
use mathlib.Core.List.{List}
use Prim.Native.Nat.{ℕ}
use native.Mathlib.Omega.{arith}
use native.Mathlib.Decide.{dec_lt}
use lib.Dec.{eqb, ltb}
use borrow.Author.Tests.{lt-ltb}
use Rattle.std.proofs.Common.{rules}
use Rattle.row.specs.Row.{at, bits}
use Rattle.row.proofs.Rows.{at_past, row_changed}
use Rattle.row.proofs.clear.Goals as goal

-- past the end it does not matter which bit is cleared
anywhere : (ws : List ℕ) (p k : ℕ) → (at ws k && not (eqb k p && ltb k (bits ws))) ≡ (at ws k && not (eqb k p))
anywhere ws p k = elim (dec_lt k (bits ws)) [
  | yes h ↦ rw (lt-ltb k (bits ws) h, and-true (eqb k p))
  | no h ↦ rw (at_past ws k (omega arith))
]

pub returns : goal.returns
returns c =
    let ws = c.args.ws.now in
    let change = c.change.ensures in
    let m = row_changed (λ a b. a && not b) and-true ws c.change.new.ws c.args.p (λ h. let u = change.within h in (u.0, search rules, u.2)) change.past in
    record { long = m.long; bits_are = λ k. m.bits_are k ∙ anywhere ws c.args.p k }
