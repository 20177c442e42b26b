-- An event on a table changes the slot that it names and no other, and a refused one changes nothing: its outcome is a store to one slot or
-- none. Assumes nothing.
use mathlib.Core.Path.{◌≡◌, refl}
use mathlib.Core.List.{List}
use mathlib.Core.Logic.{◌≢◌}
use Prim.Native.Nat.{ℕ}
use lib.ListN.{length, set, length-set, length-replicate}
use lib.Seq.{get_or-set_other}
use Rattle.promise.specs.Outcome.{Outcome, Refused, Done, left, within}
use Rattle.rules.specs.Connection.{Connection, empty}
use Rattle.rules.specs.Table.{at, in_slot, on, on_refusals, emptied}
use Rattle.rules.specs.declared.Event.{Event}
use Rattle.rules.specs.declared.Answer.{Answer}
use Rattle.lists.proofs.Lists.{get_or_alike}
use Rattle.promise.proofs.Outcomes.{refused_keeps, After, after_unless, after_refused, after_done}

-- as long as the table t, and the same in every slot but one
pub record Elsewhere (slot : ℕ) (t u : List Connection) : Type 0 where
  pub long : length u ≡ length t
  pub same : (other : ℕ) → other ≢ slot → at u other ≡ at t other

nowhere : (slot : ℕ) (t : List Connection) → Elsewhere slot t t
nowhere slot t = record { long = refl; same = λ other h. refl }

stored : (t : List Connection) (slot : ℕ) (o : Outcome Answer Connection) → After (Elsewhere slot t) t (within (set t slot) o)
unfolding within
stored t slot (Refused n) = after_refused (Elsewhere slot t) t n (nowhere slot t)
stored t slot (Done c a) =
    after_done (Elsewhere slot t) t _ a (record { long = length-set t slot c; same = λ other h. get_or-set_other t slot other c empty h })

-- "only that slot's record may change"
pub elsewhere : (t : List Connection) (slot : ℕ) (e : Event) → After (Elsewhere slot t) t (on t slot e)
unfolding on
elsewhere t slot e =
    after_unless (Elsewhere slot t) t (on_refusals t slot) _ (nowhere slot t) λ _. stored t slot (in_slot (at t slot) e)

-- "a refused call changes no record", in no slot
pub refused_table : (t : List Connection) (slot : ℕ) (e : Event) (n : ℕ) → on t slot e ≡ Refused n → left t (on t slot e) ≡ t
refused_table t slot e n h = refused_keeps t (on t slot e) n h

-- every slot lent is emptied, past 16 too
pub emptied_long : (t : List Connection) → length (emptied t) ≡ length t
unfolding emptied
emptied_long t = length-replicate (length t) empty

pub emptied_all : (t : List Connection) (slot : ℕ) → at (emptied t) slot ≡ empty
unfolding emptied
emptied_all t slot = get_or_alike empty (length t) slot
