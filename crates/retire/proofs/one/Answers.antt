-- `one` meets its contract: each of its parts does to every bit what the contract says. Assumes nothing.
use mathlib.Core.Path.{ap, ◌∙◌}
use mathlib.Core.Bool.{Bool, ◌&&◌}
use Rattle.lists.proofs.Index.{weigh_same, tally_both}
use Rattle.word.specs.Word.{bit_at, only_in}
use Rattle.word.proofs.Bits.{bit_at_and, bit_at_or}
use Rattle.retire.proofs.one.Goals as goal

pub returns : goal.returns
returns c =
    let a = c.args in
    let fresh = c.without-fresh.ensures in
    record {
      retired_are = λ i h. bit_at_or a.retired a.named i;
      marked_are = c.without.ensures;
      fresh_are = fresh;
      counted = c.ones.ensures ∙ weigh_same 64 _ _ _ fresh;
      alarmed =
          c.ones-2.ensures
          ∙ weigh_same 64 _ _ _ (λ i h. bit_at_and _ a.marked i ∙ ap (λ (t : Bool). t && bit_at a.marked i) (fresh i h))
          ∙ tally_both 64 (only_in a.named a.retired) (bit_at a.marked);
    }
