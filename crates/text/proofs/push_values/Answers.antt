-- `push_values` meets its contract: after some turns the values of these turns are put. Assumes nothing.
use Rattle.std.proofs.Common.{refl, ◌∙◌}
use Rattle.std.proofs.lemmas.List.{map-append}
use Rattle.std.proofs.lemmas.Iterator.{YieldsList-from_slice, YieldsList-from_take}
use Rattle.std.proofs.lemmas.Iterator.Consumers.{YieldsList-end}
use Rattle.lines.specs.Text.{put, past}
use Rattle.lines.proofs.Putting.{puts_more}
use Rattle.text.specs.Text.{spaced}
use Rattle.text.proofs.Telling.{spaced_more, spaced_one}
use Rattle.text.proofs.push_values.Goals as goal

pub loop-v-init : goal.loop-v-init
unfolding spaced put past
loop-v-init c = record { same = refl; puts = record { bytes_are = refl; index_is = refl } }

pub loop-v-preserved : goal.loop-v-preserved
loop-v-preserved c = record {
  same = c.push_next.ensures.same_reference ∙ c.loop-v.invariant.same;
  puts = rw (map-append, spaced_more, spaced_one) (puts_more c.loop-v.invariant.puts c.push_next.ensures.puts);
}

pub returns-clause-puts : goal.returns-clause-puts
returns-clause-puts c =
    let s = c.args.s in
    let chain = YieldsList-from_take s.many (YieldsList-from_slice s.values (cc)) (cc) in
    let all = YieldsList-end chain c.loop-v.yielded _ c.loop-v.yielded_by _ _ c.in-None.is c.next.ensures.steps in
    rw all.0 at c.loop-v.invariant.puts
