-- `in_word` meets its contract: one word is retired as `one` says and its new bits weighed, or the rows have no such word. Assumes nothing.
use mathlib.Core.Path.{◌≡◌}
use native.Mathlib.Omega.{arith}
use borrow.Author.Rules.{rules}
use Rattle.retire.specs.Rows.{in_word, nothing}
use Rattle.retire.proofs.Words.{in_word_else, retires_nothing, retires_word}
use Rattle.retire.proofs.in_word.Goals as goal

pub returns-then-retired-j : goal.returns-then-retired-j
returns-then-retired-j c =
    let a = c.args in
    let nothing_is : c.default.result ≡ nothing = search rules in
    retires_nothing a.retired.now a.marked.now a.sizes.now a.first.0 (in_word a.j a.named) c.default.result c.requires.marked_long
    (λ p l. in_word_else a.j a.named p (λ e. omega (arith, c.if-retired-j.true))) nothing_is

pub returns : goal.returns
returns c =
    let a = c.args in
    let out = c.one-out in
    retires_word a.retired.now a.marked.now a.sizes.now a.first.0 c.requires.marked_long a.j a.named c.if-retired-j.false out.result out.ensures
    c.after.result.0 c.bytes.result c.after.ensures c.bytes.ensures
