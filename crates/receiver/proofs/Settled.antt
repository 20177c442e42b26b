-- Each public function's promise settles its outcome: any two results that it allows are equal in reply and meaning. Assumes nothing.
use mathlib.Core.Path.{◌≡◌, sym, ◌∙◌}
use Rattle.rules.specs.Receiver.{start}
use Rattle.rules.specs.Receiving.{Receiving, arrive, step}
use Rattle.rules.specs.Paper.{Reply}
use Rattle.rules.specs.declared.Arrival.{Arrival}
use Rattle.rules.specs.declared.Opening.{Opening}
use Rattle.rules.proofs.Settled.{settled}
use Rattle.receiver.specs.declared.Receiver.{Receiver}
use Rattle.receiver.specs.Record.{empty, meaning, Steps}

-- two replies, and two records after them
abbrev pub Same : Reply → Reply → Receiver → Receiver → Type 0
Same r s y z = (r ≡ s) × (meaning y ≡ meaning z)

pub empty_settled : (x y : Receiver) → x ≡ empty → y ≡ empty → x ≡ y
empty_settled x y p q = p ∙ sym q

pub start_settled : (o : Opening) (r s : Reply) (y z : Receiver) → Steps empty (start o) r y → Steps empty (start o) s z → Same r s y z
start_settled o = settled

pub arrive_settled : (x : Receiver) (a : Arrival) (r s : Reply) (y z : Receiver) → Steps x (arrive (meaning x) a) r y
    → Steps x (arrive (meaning x) a) s z → Same r s y z
arrive_settled x a = settled

pub step_settled : (x : Receiver) (e : Receiving) (r s : Reply) (y z : Receiver) → Steps x (step (meaning x) e) r y
    → Steps x (step (meaning x) e) s z → Same r s y z
step_settled x e = settled
