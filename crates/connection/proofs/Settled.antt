-- Each public method's promise settles its outcome: any two results that it allows are equal in reply and meaning. Assumes nothing.
use mathlib.Core.Path.{◌≡◌, sym, ◌∙◌}
use Rattle.rules.specs.Connection.{start, close, step}
use Rattle.rules.specs.Paper.{Reply}
use Rattle.rules.specs.declared.Start.{Start}
use Rattle.rules.specs.declared.Use.{Use}
use Rattle.rules.proofs.Settled.{settled}
use Rattle.connection.specs.declared.Connection.{Connection}
use Rattle.connection.specs.Record.{empty, meaning, Steps}

-- two replies, and two records after them
abbrev pub Same : Reply → Reply → Connection → Connection → Type 0
Same r s c d = (r ≡ s) × (meaning c ≡ meaning d)

pub empty_settled : (c d : Connection) → c ≡ empty → d ≡ empty → c ≡ d
empty_settled c d p q = p ∙ sym q

pub start_settled : (o : Start) (r s : Reply) (c d : Connection) → Steps empty (start o) r c → Steps empty (start o) s d → Same r s c d
start_settled o = settled

pub close_settled : (b : Connection) (r s : Reply) (c d : Connection) → Steps b (close (meaning b)) r c → Steps b (close (meaning b)) s d → Same r s c d
close_settled b = settled

pub step_settled : (b : Connection) (u : Use) (r s : Reply) (c d : Connection) → Steps b (step (meaning b) u) r c → Steps b (step (meaning b) u) s d
    → Same r s c d
step_settled b u = settled
