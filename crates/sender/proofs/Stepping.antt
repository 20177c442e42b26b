-- An event on a head over its rows is one on the record that has them: both are sound, and the record after it is sound. Assumes nothing.
use mathlib.Core.Path.{◌≡◌, sym, ap, ◌∙◌}
use mathlib.Core.Logic.{inl, inr}
use mathlib.Core.List.{List}
use Prim.Native.Nat.{ℕ}
use native.Mathlib.Omega.{arith}
use lib.ListN.{length}
use Rattle.rules.specs.Numbers.{words}
use Rattle.rules.specs.Paper.{Reply}
use Rattle.rules.specs.declared.Sending.{Sending}
use Rattle.rules.specs.Sending.{step}
use Rattle.sending.specs.Lent.{Lent}
use Rattle.sending.specs.Lent as lent
use Rattle.sending.specs.declared.Head.{Head}
use Rattle.sender.specs.declared.Sender.{Sender}
use Rattle.sender.specs.Record.{lent_of, Sound, Steps, meaning}

-- a head over its rows, as a record
abbrev joined : Lent → Sender
joined x = record { head = x.head; sizes = x.sizes; retired = x.retired; marked = x.marked }

-- both are sound
pub lent_sound : (x : Sender) → Sound x → lent.Sound (lent_of x)
lent_sound x (inl e) = inl (ap lent_of e ∙ ap (λ (y : Sender). lent.empty (length y.retired)) (sym e))
lent_sound x (inr s) = inr s

joined_sound : (x : Lent) → length x.retired ≡ words → lent.Sound x → Sound (joined x)
joined_sound x n (inl e) = inl (ap joined (e ∙ ap lent.empty n))
joined_sound x n (inr s) = inr s

pub step_meets : (x : Sender) (e : Sending) (r : Reply) (h : Head) (ss rs ms : List ℕ) → length x.retired ≡ words → lent.Steps (lent_of x) e r h ss rs ms
    → Steps x (step (meaning x) e) r (record { head = h; sizes = ss; retired = rs; marked = ms })
step_meets x e r h ss rs ms long steps = record {
  answer_is = steps.meets.answer_is;
  record_is = steps.meets.record_is;
  untouched = λ n e. ap joined (steps.meets.untouched n e);
  sound = joined_sound _ (omega (arith, steps.retired_long)) steps.meets.sound;
}
