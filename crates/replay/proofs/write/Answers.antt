-- `write` meets its contract: what is written so far is the start of a run of pieces, and what is left of the log falls. Assumes nothing.
use borrow.Author.Rules.{rules}
use borrow.Author.Tests.{not-true, not-false}
use mathlib.Core.Path.{sym}
use Prim.Native.Nat.{ℕ}
use native.Mathlib.Omega.{arith}
use lib.ListN.{length-replicate, length-take}
use lib.Seq.{length-take-le}
use Rattle.replay.proofs.Written.{buffer, written_none, written_more, written_ends}
use Rattle.replay.proofs.write.Goals as goal

pub loop-out-init : goal.loop-out-init
loop-out-init c =
    let log = c.args.log.now in
    let start = written_none log (length-replicate {A = ℕ} buffer 0) c.head.ensures.puts c.begin-state.ensures in
    search (rules, start)

pub slice_bounds-fill-end : goal.slice_bounds-fill-end
slice_bounds-fill-end c = sym c.loop-out.invariant.long

pub fill-piece-requires : goal.fill-piece-requires
fill-piece-requires c = c.loop-out.invariant.sound

pub slice_bounds-print-end : goal.slice_bounds-print-end
slice_bounds-print-end c = simp length-take (omega (arith, c.fill-piece.ensures.fits))

pub overflow_add-total : goal.overflow_add-total
overflow_add-total c =
    let inv = c.loop-out.invariant in
    let piece = c.fill-piece.ensures in
    let all = length-take-le c.fill-piece.result.length c.fill-piece.new.out piece.fits in
    record { fits = omega (arith, inv.few, inv.within, inv.long, piece.fits, piece.long, all, c.print-total.ensures, c.requires) }

pub returns-then-not-piece : goal.returns-then-not-piece
returns-then-not-piece c = written_ends c.loop-out.invariant c.fill-piece.ensures c.print-total.ensures (not-true _ c.if-not-piece.true)

pub loop-out-smaller : goal.loop-out-smaller
loop-out-smaller c = let further = c.fill-piece.ensures.further (not-false _ c.if-not-piece.false) c.loop-out.invariant.low in omega (arith, further)

pub loop-out-preserved : goal.loop-out-preserved
loop-out-preserved c = written_more c.loop-out.invariant c.fill-piece.ensures c.print-total.ensures (not-false _ c.if-not-piece.false)
