-- `fill` meets its contract: after some turns their lines stand in the buffer, and what is left of the log falls. Assumes nothing.
use Rattle.std.proofs.Common.{◌≡◌, refl, sym, ◌∙◌, arith, rules}
use Rattle.rules.specs.Numbered.{kind_number}
use Rattle.rules.specs.Paper.{found_line}
use Rattle.rules.specs.Log.{read}
use Rattle.rules.specs.Outcomes.{Record, Nothing}
use Rattle.rules.proofs.Apart.{reads_apart}
use Rattle.player.proofs.Turning.{read_further, turned}
use Rattle.player.proofs.Filling.{filled_none, filled_more, filled_goes_on, filled_ends}
use Rattle.player.proofs.State.fill.Goals.{In-Ok-Some, in-Ok-None, in-Err}
use Rattle.player.proofs.State.fill.Goals as goal

-- where a record is found, the rules read it
reads : (k : In-Ok-Some)
    → read k.args.log.now k.loop-page.self.place
    ≡ Record k.in-Ok-Some.record.slot k.in-Ok-Some.record.event (kind_number k.in-Ok-Some.record.kind) k.in-Ok-Some.record.next
unfolding found_line
reads k = sym (reads_apart _ _ (rw k.in-Ok-Some.field-0-is at k.in-Ok-Some.ensures))

pub loop-page-init : goal.loop-page-init
loop-page-init c = record {
  same = refl;
  filled = filled_none c.args.log.now c.args.self.now c.args.from c.args.out.now _ c.requires c.min-at.ensures;
}

pub overflow_add-self : goal.overflow_add-self
overflow_add-self c =
    let inv = c.loop-page.invariant.filled in
    let k = (goal.at.overflow_add-self c).In-Ok-Some in
    record { fits = omega (arith, c.well_formed, inv.sound.count_low, read_further _ _ _ _ _ _ (reads k)) }

pub loop-page-smaller : goal.loop-page-smaller
loop-page-smaller c = omega (arith, read_further _ _ _ _ _ _ (reads (goal.at.loop-page-smaller c).In-Ok-Some))

pub loop-page-preserved : goal.loop-page-preserved
loop-page-preserved c =
    let inv = c.loop-page.invariant in
    let here = reads (goal.at.loop-page-preserved c).In-Ok-Some in
    let turn = turned _ _ _ _ _ _ (record { kind = c.number.result; answer = c.event-reply.result }) _ inv.filled.sound here c.number.ensures
    c.event-reply.ensures (search rules) in
    record {
      same = c.push_line.ensures.same_reference ∙ inv.same;
      filled = filled_more inv.filled turn c.loop-page-test.true c.push_line.ensures.puts;
    }

pub returns-in-loop-page : goal.returns-in-loop-page
unfolding found_line
returns-in-loop-page c =
    let log = c.args.log.now in
    let place = c.loop-page.self.place in
    let nothing : read log place ≡ Nothing c.match-read.stop =
    elim c.match-read.branch [
      | in-Ok-None w ↦ rw w.stop-is (sym (reads_apart _ _ (rw w.in-Ok-None.field-0-is at w.in-Ok-None.ensures)))
      | in-Err w ↦ rw (w.stop-is, w.number-stop.ensures) (sym (reads_apart _ _ w.in-Err.ensures))
    ] in
    search (rules, filled_ends c.loop-page.invariant.filled nothing c.loop-page-test.true c.push_last.ensures.puts)

pub returns : goal.returns
returns c = search (rules, filled_goes_on c.loop-page.invariant.filled c.loop-page-test.false)
