-- The loop of `retire` has retired what cack names below word j.
use Rattle.retire.specs.Rows.{Retires}
use Rattle.retire.proofs.Reached.{below}
use Rattle.retire.proofs.retire.Given as goal

abbrev pub invariant-loop-j : goal.invariant-loop-j
invariant-loop-j l = Retires l.initial.retired l.initial.marked l.sizes l.first.0 (below l.upto l.j) l.retired l.marked l.sum
