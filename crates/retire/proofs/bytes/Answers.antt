-- `bytes` meets its contract: the lowest set bit goes and its size is added, until none is left. Assumes nothing.
use mathlib.Core.Path.{◌≡◌, ap, ◌∙◌}
use mathlib.Core.Bool.{Bool, cond}
use Prim.Native.Nat.{ℕ, ◌+◌, ◌%◌, ◌≤◌}
use native.Mathlib.Omega.{arith}
use lib.ListN.{get_or}
use Rattle.lists.specs.Index.{weigh}
use Rattle.lists.proofs.Index.{total_same, total_none}
use Rattle.word.specs.Word.{bit_at}
use Rattle.word.proofs.Bits.{bit_none}
use Rattle.rules.specs.Numbers.{largest_room}
use Rattle.retire.specs.Rows.{size_by}
use Rattle.retire.proofs.Naming.{size_low}
use Rattle.retire.proofs.Walk.{walk_goes}
use Rattle.retire.proofs.Words.{weigh_le}
use Rattle.retire.proofs.bytes.Goals.{After-without_lowest-left}
use Rattle.retire.proofs.bytes.Goals as goal

-- whatever the bits weigh
goes : (c : After-without_lowest-left) (g : ℕ → ℕ)
    → g c.lowest.result + weigh 64 (bit_at c.without_lowest-left.result) g ≡ weigh 64 (bit_at c.loop-left.left) g
goes c =
    let l = c.loop-left in
    let low = c.lowest in
    walk_goes l.left low.result c.without_lowest-left.result l.invariant.0 c.loop-left-test.true low.ensures (c.without_lowest-left.ensures low.result low.ensures)

pub overflow_add-sum : goal.overflow_add-sum
overflow_add-sum c =
    let small : (k : ℕ) → get_or c.args.sizes.now k 0 ≤ 65535 = λ k. omega (arith, c.type_inv.sizes k) in
    let start = c.args.first.0 % largest_room in
    omega (arith, small ((start + c.lowest.result) % largest_room), weigh_le 64 65535 (bit_at c.args.word) (size_by c.args.sizes.now start) (λ i. small _), c.loop-left.invariant.1)

pub loop-left-smaller : goal.loop-left-smaller
loop-left-smaller c = omega (arith, goes (goal.at.loop-left-smaller c).After-without_lowest-left (λ i. 1))

pub loop-left-preserved : goal.loop-left-preserved
loop-left-preserved c =
    let size = size_by c.args.sizes.now (c.args.first.0 % largest_room) in
    (c.without_lowest-left.type_inv, omega (arith, goes (goal.at.loop-left-preserved c).After-without_lowest-left size, c.loop-left.invariant.1))

pub returns : goal.returns
returns c =
    let word = c.args.word in
    let sizes = c.args.sizes.now in
    let first = c.args.first.0 in
    let g = size_by sizes (first % largest_room) in
    let clear : weigh 64 (bit_at c.loop-left.left) g ≡ 0 =
    total_none 64 _ (λ i h. ap (λ (b : Bool). cond b (g i) 0) (ap (λ (w : ℕ). bit_at w i) c.loop-left-test.false ∙ bit_none i)) in
    let all : c.loop-left.sum ≡ weigh 64 (bit_at word) g = omega (arith, clear, c.loop-left.invariant.1) in
    all ∙ total_same 64 _ _ (λ i h. ap (λ (k : ℕ). cond (bit_at word i) (get_or sizes k 0) 0) (size_low first i))
