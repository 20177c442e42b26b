-- `run` meets its contract: the first clear bit from p on is the lowest set one of the word at p, flipped. Assumes nothing.
use mathlib.Core.Path.{◌≡◌, refl, ◌∙◌}
use mathlib.Core.Bool.{false}
use mathlib.Core.List.{List}
use Prim.Native.Nat.{ℕ, ◌+◌, ◌-◌, ◌/◌, ◌%◌, ◌^◌, ◌<◌}
use native.Mathlib.Omega.{arith}
use lib.ListN.{get_or}
use Rattle.lists.specs.Index.{First}
use Rattle.lists.proofs.Index.{first_here, first_end}
use Rattle.word.specs.Word.{bit_at}
use Rattle.row.specs.Row.{is_clear}
use Rattle.row.proofs.Rows.{flipped, none_stride}
use Rattle.row.proofs.run.Goals as goal

-- w is the word at p, a word's first bit, and t its lowest clear bit: none below p is clear, nor any below p + t
so_far : (ws : List ℕ) (p w t : ℕ) → p % 64 ≡ 0 → w ≡ get_or ws (p / 64) 0 → w < 2 ^ 64 → First (bit_at ((2 ^ 64 - 1) - w)) 64 t
    → ((i : ℕ) → i < p → is_clear ws i ≡ false) → (i : ℕ) → i < p + t → is_clear ws i ≡ false
so_far ws p w t first read small lowest set =
    none_stride (is_clear ws) (bit_at ((2 ^ 64 - 1) - w)) p t (λ b l. flipped ws p w b first read small l) set lowest

pub returns-then-n-p : goal.returns-then-n-p
returns-then-n-p c =
    let at = c.loop-p.invariant in
    let set = so_far c.args.ws.now c.loop-p.p c.word_at.result c.lowest-t.result at.first c.word_at.ensures c.word_at.type_inv c.lowest-t.ensures at.set in
    first_end (is_clear c.args.ws.now) c.args.n (λ i h. set i (omega arith)) c.args.n refl

pub returns-then-t-lt64 : goal.returns-then-t-lt64
returns-then-t-lt64 c =
    let ws = c.args.ws.now in
    let p = c.loop-p.p in
    let t = c.lowest-t.result in
    let at = c.loop-p.invariant in
    let within : t < 64 = omega arith in
    first_here (is_clear ws) (p + t) (so_far ws p c.word_at.result t at.first c.word_at.ensures c.word_at.type_inv c.lowest-t.ensures at.set) c.args.n (omega arith)
    (flipped ws p c.word_at.result t at.first c.word_at.ensures c.word_at.type_inv within ∙ c.lowest-t.ensures.here within)

pub loop-p-preserved : goal.loop-p-preserved
loop-p-preserved c =
    let at = c.loop-p.invariant in
    record {
      within = omega arith;
      first = omega arith;
      set = λ i h. so_far c.args.ws.now c.loop-p.p c.word_at.result c.lowest-t.result at.first c.word_at.ensures c.word_at.type_inv c.lowest-t.ensures at.set i (omega (arith, c.lowest-t.ensures.within));
    }
