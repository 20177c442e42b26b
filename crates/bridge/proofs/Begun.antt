-- A start that is done was in a slot of the table, and leaves the two fresh sides there: none of the refusals before it passed. Assumes
-- nothing.
use mathlib.Core.Path.{◌≡◌, refl, sym, ap, ◌∙◌}
use mathlib.Core.Bool.{Bool, true, false, cond}
use mathlib.Core.List.{List, [], ◌∷◌}
use Prim.Native.Nat.{ℕ}
use native.Mathlib.Omega.{arith}
use lib.ListN.{length, set}
use Rattle.std.specs.Prelude.{Ok}
use Rattle.promise.specs.Outcome.{Outcome, Refused, Done, Refusals, unless, left, within}
use Rattle.promise.proofs.Refusing.{Past, none_left}
use Rattle.rules.specs.Connection.{Connection, fresh, start, start_refusals}
use Rattle.rules.specs.Table.{at, outside, taken_refusals, in_slot, on, on_refusals}
use Rattle.rules.specs.Paper.{answered}
use Rattle.rules.specs.declared.Answer.{Answer}
use Rattle.rules.specs.declared.Answer.TheVariants as answer
use Rattle.rules.specs.declared.Start.{Start}
use Rattle.rules.specs.declared.Event.TheVariants as event
use Rattle.bridge.proofs.Halves.{answered_within, goes_record}

-- what is started passed every test
begun : {S : Type 0} (l : Refusals) (o : Outcome Answer S) → answered (unless l o) ≡ Ok answer.Started → Past l (length l) × (answered o ≡ Ok answer.Started)
unfolding unless Past answered
begun [] o h = (tt, h)
begun (t ∷ l) o h = go t.0 refl h (begun l o)
  where
    go : (b : Bool) → t.0 ≡ b → answered (cond b (Refused t.1) (unless l o)) ≡ Ok answer.Started
        → (answered (unless l o) ≡ Ok answer.Started → Past l (length l) × (answered o ≡ Ok answer.Started))
        → ((t.0 ≡ false) × Past l (length l)) × (answered o ≡ Ok answer.Started)
    go true e k more = let z : ◌≡◌ {A = ℕ} 0 1 = cc in absurd (omega arith)
    go false e k more = ((e, (more k).0), (more k).1)

module _ (t : List Connection) (i : ℕ) (s : Start) (h : answered (on t i (event.Start s)) ≡ Ok answer.Started) where
  first : Past (on_refusals t i) (length (on_refusals t i)) × (answered (within (set t i) (in_slot (at t i) (event.Start s))) ≡ Ok answer.Started)
  unfolding on
  first = begun (on_refusals t i) _ h

  second : Past (taken_refusals (at t i)) (length (taken_refusals (at t i))) × (answered (start s) ≡ Ok answer.Started)
  unfolding in_slot
  second = begun (taken_refusals (at t i)) (start s) (sym (answered_within (set t i) (in_slot (at t i) (event.Start s))) ∙ first.1)

  started : start s ≡ Done (fresh s) answer.Started
  unfolding start
  started = none_left (start_refusals s) _ (begun (start_refusals s) (Done (fresh s) answer.Started) second.1).0

  in_slot_started : in_slot (at t i) (event.Start s) ≡ Done (fresh s) answer.Started
  unfolding in_slot
  in_slot_started = none_left (taken_refusals (at t i)) (start s) second.0 ∙ started

  pub start_here : outside t i ≡ false
  unfolding on_refusals Past
  start_here = first.0.0

  pub start_leaves : at (left t (on t i (event.Start s))) i ≡ fresh s
  unfolding left
  start_leaves = goes_record t i (event.Start s) start_here ∙ ap (left (at t i)) in_slot_started
