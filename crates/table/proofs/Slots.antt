-- A slot that is outside is refused and leaves the table, and what is stored to one that is not is what the table's rule stores; a table
-- that is emptied is what the rules empty it to; and every table that calls leave meets the premise. Assumes nothing.
use mathlib.Core.Path.{◌≡◌, refl, sym, ap, ◌∙◌, subst}
use mathlib.Core.Bool.{true, false, or-true}
use mathlib.Core.List.{List, map, ◌∷◌}
use mathlib.Core.Logic.{inl}
use Prim.Native.Nat.{ℕ, zero, suc, ◌≤◌, ◌<◌}
use lib.Dec.{leb}
use lib.ListN.{length, get_or, set, replicate, length-map, get_or-map}
use lib.Seq.{get_or-set_same, get_or-set_other, set-get_or}
use borrow.Author.Tests.{le-leb, lt-leb}
use Rattle.std.specs.Prelude.{Err}
use Rattle.promise.specs.Outcome.{within}
use Rattle.promise.proofs.Refusing.{Past, test, number, none_left}
use Rattle.promise.proofs.Meeting.{returns_at, part}
use Rattle.lists.proofs.Lists.{map_set, all_set, get_or_alike}
use Rattle.rules.specs.Numbers.{slots}
use Rattle.rules.specs.Connection as rule
use Rattle.rules.specs.Table.{at, outside, in_slot, on, on_refusals}
use Rattle.rules.specs.Table as rule-table
use Rattle.rules.specs.declared.Event.{Event}
use Rattle.rules.specs.Paper.{Reply}
use Rattle.rules.specs.Numbered as numbered
use Rattle.rules.specs.declared.Refusal.TheVariants.{NoSuchSlot}
use Rattle.connection.specs.declared.Connection.{Connection}
use Rattle.connection.specs.Record.{empty, Sound, Steps}
use Rattle.connection.specs.Record as connection
use Rattle.connection.proofs.Sides.{empty_means}
use Rattle.table.specs.Slots.{AllSound, On, meaning, Reached, emptied, after_event}

-- what stands for a missing element is not asked where none is missing
pub get_or_within : {A : Type 0} (e : A) (l : List A) (i : ℕ) (d : A) → i < length l → get_or l i d ≡ get_or l i e
get_or_within e l i d h = sym (get_or-set_same l i (get_or l i d) e h) ∙ ap (λ m. get_or m i e) (set-get_or l i d)

-- ---- a table as the rules see it
module _ (t : List Connection) where
  pub at_means : (slot : ℕ) → at (meaning t) slot ≡ connection.meaning (get_or t slot empty)
  unfolding meaning
  at_means slot = ap (get_or (map connection.meaning t) slot) (sym empty_means) ∙ get_or-map connection.meaning t slot empty

  long : length (meaning t) ≡ length t
  unfolding meaning
  long = length-map t connection.meaning

-- ---- the promise of an event on the table
module _ (t : List Connection) (slot : ℕ) (e : Event) (all : AllSound t) where
  outside_refuses : outside (meaning t) slot ≡ true → (r : Reply) → r ≡ Err NoSuchSlot → On t slot e r t
  unfolding on on_refusals test number numbered.number Past
  outside_refuses o r said =
      let does = within (set (meaning t) slot) (in_slot (at (meaning t) slot) e) in
      record {
        meets = returns_at (on_refusals (meaning t) slot) does refl 0 tt o NoSuchSlot said refl refl all;
        elsewhere = λ i n. refl;
      }

  pub past_sixteen : slots ≤ slot → (r : Reply) → r ≡ Err NoSuchSlot → On t slot e r t
  unfolding outside
  past_sixteen big = outside_refuses (rw (le-leb slots slot big))

  pub past_end : length t ≤ slot → (r : Reply) → r ≡ Err NoSuchSlot → On t slot e r t
  unfolding outside
  past_end far = outside_refuses (rw (long t, le-leb (length t) slot far) (or-true (leb slots slot)))

  -- in a slot of the table, what its connection does
  pub stored : slot < slots → slot < length t → (r : Reply) (d : Connection)
      → Steps (get_or t slot empty) (in_slot (connection.meaning (get_or t slot empty)) e) r d → On t slot e r (set t slot d)
  unfolding meaning on on_refusals outside Past
  stored small short r d m =
      let c = connection.meaning (get_or t slot empty) in
      let inside : outside (meaning t) slot ≡ false = rw (lt-leb slots slot small, long t, lt-leb (length t) slot short) in
      let here : on (meaning t) slot e ≡ within (set (meaning t) slot) (in_slot c e) =
      none_left (on_refusals (meaning t) slot) _ (inside, tt) ∙ ap (λ b. within (set (meaning t) slot) (in_slot b e)) (at_means t slot) in
      record {
        meets = rw here
            (part (set t slot) (set (meaning t) slot) t (get_or t slot empty) (in_slot c e) r d
            (set-get_or t slot empty) (λ q. map_set connection.meaning t slot q) m (all_set Sound empty t slot d all m.sound));
        elsewhere = λ i n. get_or-set_other t slot i d empty n;
      }

  -- whatever stands for a missing slot, as none is missing
  pub stored_there : slot < slots → slot < length t → (d : Connection) (r : Reply) (x : Connection)
      → Steps (get_or t slot d) (in_slot (connection.meaning (get_or t slot d)) e) r x → On t slot e r (set t slot x)
  stored_there small short d r x m =
      stored small short r x (subst (λ (c : Connection). Steps c (in_slot (connection.meaning c) e) r x) (get_or_within empty t slot d short) m)

-- ---- a table that is emptied
empty_slots : (n : ℕ) → meaning (replicate n empty) ≡ replicate n rule.empty
unfolding meaning
empty_slots zero = refl
empty_slots (suc n) = λ i. empty_means i ∷ empty_slots n i

pub empties : (t : List Connection) → meaning (replicate (length t) empty) ≡ rule-table.emptied (meaning t)
unfolding rule-table.emptied
empties t = empty_slots (length t) ∙ ap (λ (n : ℕ). replicate n rule.empty) (sym (long t))

pub empty_sound : (n : ℕ) → AllSound (replicate n empty)
empty_sound n slot = inl (get_or_alike empty n slot)

-- the one premise of an event is met after any calls
pub reached_sound : {t : List Connection} → Reached t → AllSound t
reached_sound (emptied n) = empty_sound n
reached_sound (after_event before slot e r u m) = m.meets.sound
