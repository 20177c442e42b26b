-- What every head over its rows has, from its fields: its entries are as many as it says, few and of small sizes where it was started, and one
-- in use was started. Assumes nothing.
use mathlib.Core.Path.{◌≡◌, refl, sym, ap, ◌∙◌}
use mathlib.Core.Bool.{Bool, true, false, cond, ◌&&◌}
use mathlib.Core.Logic.{⊎_elim}
use Prim.Native.Nat.{ℕ, zero, suc, ◌+◌, ◌*◌, ◌≤◌, ◌<◌}
use native.Mathlib.Omega.{arith}
use lib.Dec.{leb}
use lib.ListN.{length}
use borrow.Author.Tests.{leb-true, ne_eqb}
use Rattle.lists.specs.Index.{total}
use Rattle.lists.proofs.Index.{length_table, map_table}
use Rattle.row.specs.Row.{at}
use Rattle.rules.specs.Numbers.{after, size_ok, largest_room, least_size, largest_size}
use Rattle.lists.specs.Lists.{sum}
use Rattle.rules.specs.Sender.{Entry, outstanding, unused, next, size_held, held}
use Rattle.rules.specs.Sender as rule
use Rattle.lists.proofs.Joined.{and_true_each}
use Rattle.rules.proofs.Allowed.{room_numbers}
use Rattle.retire.specs.Front.{Stands}
use Rattle.sending.specs.Lent.{Lent, meaning, entry, offset, Started, Sound}
use Rattle.lists.proofs.Tables.{sum_table}

pub same_entry : {s s' : ℕ} {r r' m m' : Bool} → s ≡ s' → r ≡ r' → m ≡ m'
    → ◌≡◌ {A = Entry} (record { size = s; retired = r; marked = m }) (record { size = s'; retired = r'; marked = m' })
same_entry p q u = λ i. record { size = p i; retired = q i; marked = u i }

pub length_entries : (x : Lent) → length (meaning x).entries ≡ x.head.outstanding
unfolding meaning
length_entries x = length_table x.head.outstanding (entry x)

-- what the crate below asks of a record of the rules
pub stands : (x : Lent) → Stands (meaning x) x.head.place.0 x.head.outstanding
unfolding meaning
stands x = record { place_is = refl; outstanding_is = length_entries x }

-- and what it says of every one that stands so holds of this one
pub at_meaning : (x : Lent) → Sound x → (b : Bool) (asks : rule.Sender → Bool)
    → ((y : rule.Sender) → Stands y x.head.place.0 x.head.outstanding → b ≡ asks y) → b ≡ asks (meaning x)
at_meaning x s b asks h = h (meaning x) (stands x)

pub next_is : (x : Lent) → next (meaning x) ≡ after x.head.place.0 (1 + x.head.outstanding)
unfolding next meaning
next_is x = ap (λ (n : ℕ). after x.head.place.0 (1 + n)) (length_entries x)

pub held_total : (x : Lent) → held (meaning x) ≡ total x.head.outstanding (λ i. size_held (entry x i))
unfolding held meaning
held_total x = ap sum (map_table size_held x.head.outstanding (entry x)) ∙ sum_table x.head.outstanding (λ i. size_held (entry x i))

-- ---- bounds
pub size_bound : (z : ℕ) → size_ok z ≡ true → z ≤ largest_size
unfolding size_ok
size_bound z e = leb-true z largest_size (and_true_each (leb least_size z) (leb z largest_size) e).1

size_held_le : (e : Entry) → size_held e ≤ e.size
unfolding size_held
size_held_le e = go e.retired
  where
    go : (b : Bool) → cond b 0 e.size ≤ e.size
    go true = omega arith
    go false = omega arith

total_held : (n : ℕ) (f : ℕ → Entry) → ((i : ℕ) → i < n → size_ok (f i).size ≡ true) → total n (λ i. size_held (f i)) ≤ n * largest_size
unfolding total
total_held zero f h = omega arith
total_held (suc n) f h = omega (arith, total_held n f (λ i l. h i (omega arith)), size_held_le (f n), size_bound (f n).size (h n (omega arith)))

module _ (x : Lent) (h : Started x) where
  pub room_most : x.head.room ≤ largest_room
  room_most = (room_numbers x.head.room h.room_good).most

  pub few : x.head.outstanding ≤ largest_room
  few = omega (arith, h.room_left, room_most)

  pub held_bound : x.head.held ≤ x.head.outstanding * largest_size
  held_bound = omega (arith, h.held_is, total_held x.head.outstanding (entry x) h.sizes_good)

  -- what is retired is not marked
  pub unmarked : (p : ℕ) → p < offset x → at x.marked p ≡ false
  unmarked p l = ap (λ (b : Bool). b && at x.marked p) (sym (h.before p l)) ∙ h.not_both p

-- one in use was started, and one that was started is in use
pub in_use : (x : Lent) → Sound x → (x.head.room ≡ 0 → ⊥) → Started x
in_use x s n = ⊎_elim (λ e. absurd (n (ap (λ (y : Lent). y.head.room) e))) (λ h. h) s

pub used : (x : Lent) → Started x → unused (meaning x) ≡ false
unfolding meaning
used x h = ne_eqb x.head.room 0 (λ e. omega (arith, (room_numbers x.head.room h.room_good).least))
