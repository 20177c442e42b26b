-- `by_block` meets its contract: the block's two words, one after the other, or the first alone where the second has no bit of it. Assumes nothing.
use mathlib.Core.Path.{◌≡◌, refl, sym}
use native.Mathlib.Omega.{arith}
use borrow.Author.Rules.{rules}
use Rattle.retire.specs.Rows.{added, named_by_block, nothing, Retires}
use Rattle.retire.specs.declared.Sum.{Sum}
use Rattle.retire.proofs.Words.{retires_nothing, retires_same, retires_added, retires_fits}
use Rattle.retire.proofs.Blocks.{no_bits, one_word, two_words}
use Rattle.retire.proofs.by_block.Goals.{After-in_word}
use Rattle.retire.proofs.by_block.Goals as goal

-- both words
both : (c : After-in_word) (r : Sum) → r ≡ added c.in_word-sum.result c.in_word.result → let a = c.args in
    Retires a.retired.now a.marked.now a.sizes.now a.first.0 (named_by_block a.first.0 a.block) c.in_word.new.retired c.in_word.new.marked r
both c r =
    let a = c.args in
    retires_added a.retired.now a.marked.now a.sizes.now a.first.0 _ _ _ _ _ _ _ _ c.in_word-sum.ensures c.in_word.ensures (named_by_block a.first.0 a.block) r
    c.requires.marked_long
    (λ p l. sym (two_words a.first.0 a.block c.distance-o.result c.distance-o.ensures (omega arith) p (omega (arith, c.requires.retired_long))))

pub returns-then-bitmap-eq0 : goal.returns-then-bitmap-eq0
returns-then-bitmap-eq0 c =
    let a = c.args in
    let nothing_is : c.default.result ≡ nothing = search rules in
    retires_nothing a.retired.now a.marked.now a.sizes.now a.first.0 _ c.default.result c.requires.marked_long
    (λ p l. no_bits a.first.0 a.block p c.if-bitmap-eq0.true) nothing_is

pub add_assign-requires : goal.add_assign-requires
add_assign-requires c =
    let a = c.args in
    retires_fits a.retired.now a.marked.now a.sizes.now a.first.0 _ _ _ _ c.requires.retired_long (λ k. omega (arith, c.type_inv.sizes k))
    (both (goal.at.add_assign-requires c).After-in_word _ refl)

pub returns-then-rest-ne0 : goal.returns-then-rest-ne0
returns-then-rest-ne0 c = both (goal.at.returns-then-rest-ne0 c).After-in_word _ c.add_assign.ensures.after

pub returns-else-rest-ne0 : goal.returns-else-rest-ne0
returns-else-rest-ne0 c =
    let a = c.args in
    retires_same a.retired.now a.marked.now a.sizes.now a.first.0 _ _ _ _ _ c.requires.marked_long
    (λ p l. sym (one_word a.first.0 a.block c.distance-o.result c.distance-o.ensures (omega arith) p (omega (arith, c.requires.retired_long)) c.if-rest-ne0.false))
    c.in_word-sum.ensures
