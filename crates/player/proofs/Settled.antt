-- A turn is settled: any two that may be made of one state have the same line, and leave the same place, count and meaning of the slots. Assumes nothing.
use mathlib.Core.Path.{◌≡◌, sym, ap, subst, ◌∙◌}
use mathlib.Core.List.{List}
use Prim.Native.Nat.{ℕ}
use Rattle.rules.specs.Replay.{Replied}
use Rattle.rules.specs.declared.Event.{Event}
use Rattle.rules.specs.Outcomes.{Reading, Record, Nothing}
use Rattle.table.specs.Slots.{On, meaning}
use Rattle.table.proofs.Settled.{event_settled}
use Rattle.player.specs.declared.State.{State}
use Rattle.player.specs.Play.{begin, Turned}

pub record Same (l m : Replied) (y z : State) : Type 0 where
  pub line_same : l ≡ m
  pub place_same : y.place ≡ z.place
  pub count_same : y.count ≡ z.count
  pub slots_same : meaning y.slots ≡ meaning z.slots

-- what a record that is read has
abbrev slot_in : ℕ → Reading → ℕ
slot_in d (Record slot e kind next) = slot
slot_in d (Nothing n) = d

abbrev event_in : Event → Reading → Event
event_in d (Record slot e kind next) = e
event_in d (Nothing n) = d

abbrev kind_in : Reading → ℕ
kind_in (Record slot e kind next) = kind
kind_in (Nothing n) = 0

abbrev next_in : Reading → ℕ
next_in (Record slot e kind next) = next
next_in (Nothing n) = 0

pub turn_settled : (log : List ℕ) (x y z : State) (l m : Replied) → Turned log x l y → Turned log x m z → Same l m y z
turn_settled log x y z l m p q =
    let same = sym q.read_is ∙ p.read_is in
    let here = subst (λ (e : Event). On x.slots p.slot e m.answer z.slots) (ap (event_in p.event) same)
    (subst (λ (i : ℕ). On x.slots i q.event m.answer z.slots) (ap (slot_in 0) same) q.answer_meets) in
    let both = event_settled x.slots p.slot p.event l.answer m.answer y.slots z.slots p.answer_meets here in
    record {
      line_same = λ i. record { kind = sym (ap kind_in same) i; answer = both.answer_same i };
      place_same = sym (ap next_in same);
      count_same = p.count_is ∙ sym q.count_is;
      slots_same = both.means_same;
    }

pub begin_settled : (x y : State) → x ≡ begin → y ≡ begin → x ≡ y
begin_settled x y p q = p ∙ sym q
