-- `push_bytes` meets its contract: after some turns the bytes of the text before the index are put. Assumes nothing.
use Rattle.std.proofs.Common.{length, ◌<◌, refl, ◌∙◌, add-one, arith}
use lib.Seq.{take-suc}
use Rattle.lines.specs.Text.{put, past}
use Rattle.lines.proofs.Putting.{puts_more}
use Rattle.lines.proofs.Page.push_bytes.Goals as goal

pub loop-b-init : goal.loop-b-init
unfolding put past
loop-b-init c = record { same = refl; puts = record { bytes_are = refl; index_is = refl } }

pub loop-b-preserved : goal.loop-b-preserved
loop-b-preserved c =
    let turn = c.loop-b in
    let text = c.args.text.now in
    let within : turn.b-index < length text = omega arith in
    let more = puts_more turn.invariant.puts c.push.ensures.puts in
    record {
      same = c.push.ensures.same_reference ∙ turn.invariant.same;
      puts = rw (add-one turn.b-index, take-suc text turn.b-index 0 within) more;
    }
