-- `push_counted` is safe: a receiver that was started is one with any count. Assumes nothing.
use Rattle.std.proofs.Common.{◌≡◌, ℕ, ap, inr, ⊎_elim}
use Rattle.receiver.specs.declared.Receiver.{Receiver}
use Rattle.receiver.specs.Record.{lent_of, Sound}
use Rattle.receiving.specs.Lent.{Started}
use Rattle.receiving.proofs.Counting.{with_count, with_count_started}
use Rattle.calls.proofs.push_counted.Goals as goal

counted : (x : Receiver) (n : ℕ) → Sound x → (x.head.room ≡ 0 → ⊥) → Started (with_count (lent_of x) n)
counted x n s used = ⊎_elim (λ e. absurd (used (ap (λ (y : Receiver). y.head.room) e))) (with_count_started (lent_of x) n) s

pub push_lent-requires : goal.push_lent-requires
push_lent-requires c = inr (counted _ _ c.start-begun.ensures.sound c.if-r-eq0.false)

pub push_arrived-requires : goal.push_arrived-requires
push_arrived-requires c = inr (counted _ _ c.start-begun.ensures.sound c.if-r-eq0.false)
