-- `retire` meets its contract: the loop has retired what cack names below word j, and then the block names the rest. Assumes nothing.
use mathlib.Core.Path.{◌≡◌, refl, sym, ap}
use mathlib.Core.Bool.{Bool, ◌||◌}
use Prim.Native.Nat.{◌+◌}
use native.Mathlib.Omega.{arith}
use borrow.Author.Rules.{rules}
use Rattle.retire.specs.Rows.{added, names, named_by_block, nothing, Retires}
use Rattle.retire.specs.declared.Sum.{Sum}
use Rattle.retire.proofs.Words.{retires_nothing, retires_added, retires_fits}
use Rattle.retire.proofs.Reached.{below, below_none, below_more, below_all}
use Rattle.retire.proofs.retire.Goals.{After-in_word, After-by_block}
use Rattle.retire.proofs.retire.Goals as goal

-- one word more of what cack names
more : (c : After-in_word) (r : Sum) → r ≡ added c.loop-j.sum c.in_word.result → let a = c.args in
    Retires a.retired.now a.marked.now a.sizes.now a.first.0 (below a.upto (c.loop-j.j + 1)) c.in_word.new.retired c.in_word.new.marked r
more c r =
    let a = c.args in
    retires_added a.retired.now a.marked.now a.sizes.now a.first.0 _ _ _ _ _ _ _ _ c.loop-j.invariant c.in_word.ensures (below a.upto (c.loop-j.j + 1)) r
    c.requires.0.marked_long (λ p l. below_more a.upto c.loop-j.j c.range.result p c.range.ensures)

-- and then what the block does
all : (c : After-by_block) (r : Sum) → r ≡ added c.loop-j.sum c.by_block.result → let a = c.args in
    Retires a.retired.now a.marked.now a.sizes.now a.first.0 (names a.first.0 a.upto a.block) c.by_block.new.retired c.by_block.new.marked r
unfolding names
all c r =
    let a = c.args in
    retires_added a.retired.now a.marked.now a.sizes.now a.first.0 _ _ _ _ _ _ _ _ c.loop-j.invariant c.by_block.ensures (names a.first.0 a.upto a.block) r
    c.requires.0.marked_long (λ p l. ap (λ (t : Bool). t || named_by_block a.first.0 a.block p) (below_all a.upto c.loop-j.j p (omega arith)))

pub loop-j-init : goal.loop-j-init
loop-j-init c =
    let a = c.args in
    let nothing_is : c.default-sum.result ≡ nothing = search rules in
    retires_nothing a.retired.now a.marked.now a.sizes.now a.first.0 (below a.upto 0) c.default-sum.result c.requires.0.marked_long
    (λ p l. sym (below_none a.upto p)) nothing_is

pub add_assign-requires : goal.add_assign-requires
add_assign-requires c =
    let a = c.args in
    retires_fits a.retired.now a.marked.now a.sizes.now a.first.0 _ _ _ _ c.requires.0.retired_long (λ k. omega (arith, c.type_inv.sizes k))
    (more (goal.at.add_assign-requires c).After-in_word _ refl)

pub loop-j-preserved : goal.loop-j-preserved
loop-j-preserved c = more (goal.at.loop-j-preserved c).After-in_word _ c.add_assign.ensures.after

pub add_assign-requires-2 : goal.add_assign-requires-2
add_assign-requires-2 c =
    let a = c.args in
    retires_fits a.retired.now a.marked.now a.sizes.now a.first.0 _ _ _ _ c.requires.0.retired_long (λ k. omega (arith, c.type_inv.sizes k))
    (all (goal.at.add_assign-requires-2 c).After-by_block _ refl)

pub returns : goal.returns
returns c = all (goal.at.returns c).After-by_block _ c.add_assign-2.ensures.after
