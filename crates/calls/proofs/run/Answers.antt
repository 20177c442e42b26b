-- `run` is safe: every slot stays empty or one that comes from a start and events. Assumes nothing.
use Rattle.std.proofs.Common.{replicate, sym, subst}
use Rattle.connection.specs.declared.Connection.{Connection}
use Rattle.table.specs.Slots.{AllSound}
use Rattle.table.proofs.Slots.{empty_sound}
use Rattle.calls.proofs.run.Goals as goal

pub loop-init : goal.loop-init
loop-init c = subst (λ (d : Connection). AllSound (replicate 20 d)) (sym c.empty-none.ensures) (empty_sound 20)
