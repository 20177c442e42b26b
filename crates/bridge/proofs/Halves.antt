-- What an event does to the two halves of a connection, whichever side it is of, by value and in a table's slot: that half goes by its own
-- rule, and the other stays. Assumes nothing.
use mathlib.Core.Path.{◌≡◌, refl, ap, ◌∙◌}
use mathlib.Core.Bool.{false}
use mathlib.Core.List.{List}
use Prim.Native.Nat.{ℕ, ◌<◌}
use lib.ListN.{length, set}
use lib.Seq.{get_or-set_same}
use Rattle.promise.specs.Outcome.{Outcome, Refused, Done, left, within}
use Rattle.promise.proofs.Refusing.{Past, none_left}
use Rattle.rules.specs.Receiver.{Receiver}
use Rattle.rules.specs.Receiving.{Receiving}
use Rattle.rules.specs.Receiving as receiving
use Rattle.rules.specs.Sender.{Sender}
use Rattle.rules.specs.Sending as sending
use Rattle.rules.specs.Connection.{Connection, empty, step, with_sender, with_receiver}
use Rattle.rules.specs.Table.{at, outside, in_slot, on_refusals, on}
use Rattle.rules.specs.Paper.{answered}
use Rattle.rules.specs.declared.Answer.{Answer}
use Rattle.rules.specs.declared.Sending.{Sending}
use Rattle.rules.specs.declared.Use.{Use}
use Rattle.rules.specs.declared.Use.TheVariants.{Sends, Receives}
use Rattle.rules.specs.declared.Event.{Event}
use Rattle.rules.specs.declared.Event.TheVariants as event
use Rattle.rules.proofs.Runs.{inside}
use Rattle.rules.proofs.Slots.{elsewhere}

-- one side of a connection beside the other, with its events and its rule
pub record Half (P Q E : Type 0) : Type 0 where
  pub mine : Connection → P
  pub other : Connection → Q
  pub with_mine : Connection → P → Connection
  pub has_mine : (c : Connection) (x : P) → mine (with_mine c x) ≡ x
  pub has_other : (c : Connection) (x : P) → other (with_mine c x) ≡ other c
  pub event_of : E → Use
  pub law : P → E → Outcome Answer P
  pub by_law : (c : Connection) (e : E) → step c (event_of e) ≡ within (with_mine c) (law (mine c) e)

unfoldable pub sending_half : Half Sender Receiver Sending
unfolding step
sending_half = record {
  mine = λ c. c.sender;
  other = λ c. c.receiver;
  with_mine = with_sender;
  has_mine = λ c x. refl;
  has_other = λ c x. refl;
  event_of = Sends;
  law = sending.step;
  by_law = λ c e. refl;
}

unfoldable pub receiving_half : Half Receiver Sender Receiving
unfolding step
receiving_half = record {
  mine = λ c. c.receiver;
  other = λ c. c.sender;
  with_mine = with_receiver;
  has_mine = λ c x. refl;
  has_other = λ c x. refl;
  event_of = Receives;
  law = receiving.step;
  by_law = λ c e. refl;
}

pub answered_within : {S T : Type 0} (whole : S → T) (o : Outcome Answer S) → answered (within whole o) ≡ answered o
unfolding answered within
answered_within whole (Refused n) = refl
answered_within whole (Done y a) = refl

-- ---- an event of a half, on a connection
module _ {P Q E : Type 0} (H : Half P Q E) (c : Connection) (e : E) where
  -- what the law leaves in one half leaves the other
  left_half : (o : Outcome Answer P)
      → (H.mine (left c (within (H.with_mine c) o)) ≡ left (H.mine c) o) × (H.other (left c (within (H.with_mine c) o)) ≡ H.other c)
  unfolding left within
  left_half (Refused n) = (refl, refl)
  left_half (Done x a) = (H.has_mine c x, H.has_other c x)

  pub step_answer : answered (step c (H.event_of e)) ≡ answered (H.law (H.mine c) e)
  step_answer = ap answered (H.by_law c e) ∙ answered_within (H.with_mine c) (H.law (H.mine c) e)

  pub step_next : H.mine (left c (step c (H.event_of e))) ≡ left (H.mine c) (H.law (H.mine c) e)
  step_next = ap (λ (o : Outcome Answer Connection). H.mine (left c o)) (H.by_law c e) ∙ (left_half (H.law (H.mine c) e)).0

  pub step_same : H.other (left c (step c (H.event_of e))) ≡ H.other c
  step_same = ap (λ (o : Outcome Answer Connection). H.other (left c o)) (H.by_law c e) ∙ (left_half (H.law (H.mine c) e)).1

-- ---- and in a table
pub at_left : (t : List Connection) (slot : ℕ) (o : Outcome Answer Connection) → slot < length t
    → at (left t (within (set t slot) o)) slot ≡ left (at t slot) o
unfolding left within
at_left t slot (Refused n) h = refl
at_left t slot (Done c a) h = get_or-set_same t slot c empty h

-- in a slot of the table an event is one on its connection
module _ (t : List Connection) (slot : ℕ) (e : Event) (here : outside t slot ≡ false) where
  goes : on t slot e ≡ within (set t slot) (in_slot (at t slot) e)
  unfolding on on_refusals Past
  goes = none_left (on_refusals t slot) _ (here, tt)

  pub goes_answer : answered (on t slot e) ≡ answered (in_slot (at t slot) e)
  goes_answer = ap answered goes ∙ answered_within (set t slot) (in_slot (at t slot) e)

  pub goes_record : at (left t (on t slot e)) slot ≡ left (at t slot) (in_slot (at t slot) e)
  goes_record =
      ap (λ (o : Outcome Answer (List Connection)). at (left t o) slot) goes ∙ at_left t slot (in_slot (at t slot) e) (inside t slot here)

-- a table keeps its length, so a slot of it stays one
pub still_here : (t : List Connection) (slot : ℕ) (e : Event) (i : ℕ) → outside t i ≡ false → outside (left t (on t slot e)) i ≡ false
unfolding outside
still_here t slot e i h = rw (elsewhere t slot e).holds.long h

-- in a slot of the table, likewise
module _ {P Q E : Type 0} (H : Half P Q E) (t : List Connection) (i : ℕ) (here : outside t i ≡ false) (e : E) where
  abbrev named : Event
  named = event.Use (H.event_of e)

  pub half_answer : answered (on t i named) ≡ answered (H.law (H.mine (at t i)) e)
  unfolding in_slot
  half_answer = goes_answer t i named here ∙ step_answer H (at t i) e

  pub half_next : H.mine (at (left t (on t i named)) i) ≡ left (H.mine (at t i)) (H.law (H.mine (at t i)) e)
  unfolding in_slot
  half_next = ap H.mine (goes_record t i named here) ∙ step_next H (at t i) e

  pub half_same : H.other (at (left t (on t i named)) i) ≡ H.other (at t i)
  unfolding in_slot
  half_same = ap H.other (goes_record t i named here) ∙ step_same H (at t i) e
