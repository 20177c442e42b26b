-- A connection is empty on both sides or in use on both, whatever the event: an empty one refuses all but a start, and any other event
-- touches one side. So is every slot of a table. Assumes nothing.
use mathlib.Core.Path.{◌≡◌, refl, sym, subst}
use mathlib.Core.Bool.{false}
use mathlib.Core.List.{List}
use mathlib.Core.Logic.{inl, inr}
use Prim.Native.Nat.{ℕ, ◌<◌}
use lib.Dec.{leb}
use lib.ListN.{length, set}
use borrow.Author.Tests.{leb-false, ltb-true, not-false}
use Rattle.promise.specs.Outcome.{unless, within}
use Rattle.promise.proofs.Refusing.{Past}
use Rattle.promise.proofs.Outcomes.{After, after_unless, after_refused, after_done, after_within}
use Rattle.lists.proofs.Lists.{all_set}
use Rattle.lists.proofs.Joined.{or_false_each}
use Rattle.rules.specs.Numbers.{turn, slots}
use Rattle.rules.specs.Connection.{Connection, empty, fresh, start, start_refusals, step, close, close_refusals, with_sender, with_receiver}
use Rattle.rules.specs.Table.{at, outside, taken_refusals, in_slot, on, on_refusals}
use Rattle.rules.specs.Kept.{Receives, Sends, Runs, Whole, AllWhole}
use Rattle.rules.specs.declared.Start.{Start}
use Rattle.rules.specs.declared.Use.{Use}
use Rattle.rules.specs.declared.Use.TheVariants as use-of
use Rattle.rules.specs.declared.Event.{Event}
use Rattle.rules.specs.declared.Event.TheVariants as event
use Rattle.rules.proofs.Receives.{receives_fresh, receives_step}
use Rattle.rules.proofs.Sends.{sends_fresh, sends_step}
use Rattle.rules.proofs.Rooms.{unused_sending, unused_receiving}

-- a start, on whatever stood there
pub whole_start : (c : Connection) (s : Start) → Whole c → After Whole c (start s)
unfolding start start_refusals fresh Past
whole_start c s w =
    after_unless Whole c (start_refusals s) _ w λ p.
    after_done Whole c _ _ (inr (record {
      sends = sends_fresh s.sending.room s.sending.first.0 (not-false _ p.0);
      receives = receives_fresh s.receiving.room s.receiving.first.0 (not-false _ p.1.0)
          (ltb-true s.receiving.first.0 turn (not-false _ p.1.1.1.0));
    }))

-- an empty connection refuses all else
empty_step : (u : Use) → After Whole empty (step empty u)
unfolding step close close_refusals unless within
empty_step use-of.Close = after_refused Whole empty 2 (inl refl)
empty_step (use-of.Sends e) = rw (unused_sending empty.sender e refl) (after_refused Whole empty 2 (inl refl))
empty_step (use-of.Receives e) = rw (unused_receiving empty.receiver e refl) (after_refused Whole empty 2 (inl refl))

-- an event on one side of a connection in use leaves the other
runs_step : (c : Connection) (u : Use) → Runs c → After Whole c (step c u)
unfolding step close
runs_step c use-of.Close k = after_unless Whole c (close_refusals c) _ (inr k) λ _. after_done Whole c _ _ (inl refl)
runs_step c (use-of.Sends e) k =
    after_within (with_sender c) Sends Whole c.sender c _ (sends_step c.sender e k.sends) (inr k)
    (λ x s. inr (record { sends = s; receives = k.receives }))
runs_step c (use-of.Receives e) k =
    after_within (with_receiver c) Receives Whole c.receiver c _ (receives_step c.receiver e k.receives) (inr k)
    (λ r s. inr (record { sends = k.sends; receives = s }))

pub whole_step : (c : Connection) (u : Use) → Whole c → After Whole c (step c u)
whole_step c u (inl h) = subst (λ (d : Connection). After Whole d (step d u)) (sym h) (empty_step u)
whole_step c u (inr k) = runs_step c u k

pub whole_in_slot : (c : Connection) (e : Event) → Whole c → After Whole c (in_slot c e)
unfolding in_slot
whole_in_slot c (event.Start s) w = after_unless Whole c (taken_refusals c) _ w λ _. whole_start c s w
whole_in_slot c (event.Use u) w = whole_step c u w

-- ---- the table
pub inside : (t : List Connection) (slot : ℕ) → outside t slot ≡ false → slot < length t
unfolding outside
inside t slot h = leb-false (length t) slot (or_false_each (leb slots slot) (leb (length t) slot) h).1

pub whole_on : (t : List Connection) (slot : ℕ) (e : Event) → AllWhole t → After AllWhole t (on t slot e)
unfolding on
whole_on t slot e w =
    after_unless AllWhole t (on_refusals t slot) _ w λ _.
    after_within (set t slot) Whole AllWhole (at t slot) t _ (whole_in_slot (at t slot) e (w slot)) w (λ c k. all_set Whole empty t slot c w k)
