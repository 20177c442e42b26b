-- `fields::over` meets its contract: the byte is put together from above down, and no shift loses a bit. Assumes nothing.
use Rattle.std.proofs.Common.{◌≡◌, ℕ, ◌+◌, ◌*◌, ◌/◌, ◌%◌, ◌^◌, ◌≤◌, ◌<◌, ap, ◌∙◌, arith}
use native.Mathlib.Nat.{le-mul_of_pos_right, mod-eq_of_lt}
use lib.Pow.{pow_pos}
use Rattle.fields.specs.Parts.{placed}
use Rattle.fields.proofs.Cuts.{placed_lt}
use Rattle.fields.proofs.over.Goals as goal

-- shifts to the left that keep all bits of the byte
placed_by_shifts : (below many v b : ℕ) → below + many ≤ 8 → b < 2 ^ 8
    → ((b / 2 ^ (below + many) * 2 ^ many % 2 ^ 64 + v % 2 ^ many) * 2 ^ below % 2 ^ 64 + b % 2 ^ below ≡ placed below many v b) × (placed below many v b < 2 ^ 8)
unfolding placed
placed_by_shifts below many v b h b_lt =
    let above = b / 2 ^ (below + many) * 2 ^ many in
    let upper = above + v % 2 ^ many in
    let all_lt : upper * 2 ^ below + b % 2 ^ below < 2 ^ 8 = placed_lt below many 8 v b h b_lt in
    let upper_lt : upper < 2 ^ 8 = omega (arith, le-mul_of_pos_right upper (pow_pos below)) in
    let whole : above % 2 ^ 64 ≡ above = mod-eq_of_lt (omega arith) in
    let lifted : upper * 2 ^ below % 2 ^ 64 ≡ upper * 2 ^ below = mod-eq_of_lt (omega arith) in
    (ap (λ (x : ℕ). (x + v % 2 ^ many) * 2 ^ below % 2 ^ 64 + b % 2 ^ below) whole ∙ ap (λ (x : ℕ). x + b % 2 ^ below) lifted, all_lt)

pub overflow_cast-result : goal.overflow_cast-result
overflow_cast-result c =
    let a = c.args in
    let p = placed_by_shifts a.below a.many a.v a.byte c.requires c.ranges.byte.fits in
    grind arith

pub returns : goal.returns
returns c =
    let a = c.args in
    let p = placed_by_shifts a.below a.many a.v a.byte c.requires c.ranges.byte.fits in
    cc
