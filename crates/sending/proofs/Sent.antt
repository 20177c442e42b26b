-- A packet sent: one entry more, whose size stands where no entry's does that is still outstanding. Assumes nothing.
use mathlib.Core.Path.{◌≡◌, refl, sym, ap, ap₂, ◌∙◌}
use mathlib.Core.Bool.{true}
use mathlib.Core.List.{List, [], ◌∷◌, ◌++◌}
use mathlib.Core.Logic.{inr}
use Prim.Native.Nat.{ℕ, ◌+◌, ◌%◌, ◌<◌}
use native.Mathlib.Omega.{arith}
use native.Mathlib.Numerals.{add-one}
use native.Mathlib.Decide.{dec_lt}
use lib.ListN.{set, length-set}
use lib.Seq.{get_or-set_same, get_or-set_other}
use Rattle.std.specs.Prelude.{Ok}
use Rattle.psn.specs.declared.Psn.{Psn}
use Rattle.psn.specs.Psn.{after}
use Rattle.lists.specs.Index.{total, table}
use Rattle.lists.proofs.Index.{total_same, table_same, table_snoc}
use Rattle.promise.proofs.Meeting.{does}
use Rattle.rules.specs.Numbers.{psn, size_ok, largest_room}
use Rattle.rules.specs.Sender.{Entry, size_held, new, with_entries}
use Rattle.rules.specs.Sender as rules
use Rattle.rules.specs.Sending.{step}
use Rattle.rules.specs.declared.Answer.TheVariants as answer
use Rattle.rules.specs.declared.Sending.TheVariants as sending
use Rattle.sending.specs.Lent.{Lent, meaning, entry, size_at, Started, sent_size, sizes_after, Steps}
use Rattle.sending.proofs.Entries.{same_entry, room_most, next_is}

-- two entries that are outstanding at once have places of their own
apart : (a i j : ℕ) → i < j → j < i + largest_room → (a + 1 + i) % largest_room ≡ (a + 1 + j) % largest_room → ⊥
apart a i j h k e = omega arith

-- what is left after a packet of this size was sent
abbrev pub sent : Lent → ℕ → Lent
sent x size = record {
  head = record { room = x.head.room; place = x.head.place; outstanding = x.head.outstanding + 1; held = x.head.held + size };
  sizes = set x.sizes (size_at x x.head.outstanding) size;
  retired = x.retired;
  marked = x.marked;
}

-- its size stands by its packet number
sent_at : (a n : ℕ) → (a + 1 + n) % largest_room ≡ after a (1 + n) % largest_room
unfolding after
sent_at a n = omega arith

new_held : (size : ℕ) → size_held (new size) ≡ size
unfolding size_held
new_held size = refl

total_more : (n : ℕ) (f : ℕ → ℕ) → total (n + 1) f ≡ total n f + f n
unfolding total
total_more n f = ap (λ (m : ℕ). total m f) (add-one n)

module _ (x : Lent) (h : Started x) (size : ℕ) (ok : size_ok size ≡ true) (free : x.head.outstanding < x.head.room) where
  entry_old : (i : ℕ) → i < x.head.outstanding → entry (sent x size) i ≡ entry x i
  unfolding entry
  entry_old i l =
      let n = x.head.outstanding in
      let elsewhere = apart x.head.place.0 i n l (omega (arith, room_most x h)) in
      same_entry (get_or-set_other x.sizes (size_at x n) (size_at x i) size 0 elsewhere) refl refl

  entry_new : entry (sent x size) x.head.outstanding ≡ new size
  unfolding entry
  entry_new =
      same_entry (get_or-set_same x.sizes (size_at x x.head.outstanding) size 0 (omega (arith, h.sizes_long)))
      (h.unsent _ (omega arith)) (h.mark_unsent _ (omega arith))

  entries_are : table (x.head.outstanding + 1) (entry (sent x size)) ≡ table x.head.outstanding (entry x) ++ (new size ∷ [])
  entries_are =
      ap (λ (n : ℕ). table n (entry (sent x size))) (add-one x.head.outstanding) ∙ sym (table_snoc x.head.outstanding (entry (sent x size)))
      ∙ ap₂ (λ (l : List Entry) (e : Entry). l ++ (e ∷ [])) (table_same x.head.outstanding _ _ entry_old) entry_new

  sent_means : meaning (sent x size) ≡ with_entries (meaning x) ((meaning x).entries ++ (new size ∷ []))
  unfolding meaning with_entries
  sent_means = λ i. record { room = x.head.room; place = x.head.place.0; entries = entries_are i }

  sent_started : Started (sent x size)
  sent_started = record {
    room_good = h.room_good;
    place_low = h.place_low;
    room_left = omega arith;
    sizes_long = length-set x.sizes (size_at x x.head.outstanding) size ∙ h.sizes_long;
    enough = h.enough;
    most = h.most;
    marked_long = h.marked_long;
    before = h.before;
    first_open = h.first_open;
    unsent = λ p l. h.unsent p (omega arith);
    not_both = h.not_both;
    mark_unsent = λ p l. h.mark_unsent p (omega arith);
    sizes_good = λ i l. good i (dec_lt i x.head.outstanding) l;
    held_is = ap₂ (λ (a b : ℕ). a + b) (h.held_is ∙ total_same x.head.outstanding _ _ (λ i l. ap size_held (sym (entry_old i l))))
        (sym (ap size_held entry_new ∙ new_held size))
        ∙ sym (total_more x.head.outstanding (λ i. size_held (entry (sent x size) i)));
  }
    where
      good : (i : ℕ) → Dec (i < x.head.outstanding) → i < x.head.outstanding + 1 → size_ok (entry (sent x size) i).size ≡ true
      good i (yes m) l = ap (λ (e : Entry). size_ok e.size) (entry_old i m) ∙ h.sizes_good i m
      good i (no m) l =
          let is : i ≡ x.head.outstanding = omega arith in
          ap (λ (j : ℕ). size_ok (entry (sent x size) j).size) is ∙ ap (λ (e : Entry). size_ok e.size) entry_new ∙ ok

  -- a send whose rule sends, and is given the number p
  pub sends : (p : Psn) → p.0 ≡ after x.head.place.0 (1 + x.head.outstanding) → step (meaning x) (sending.Send size) ≡ rules.sent (meaning x) size
      → Steps x (sending.Send size) (Ok (answer.Sent p)) (sent x size).head (sent x size).sizes x.retired x.marked
  unfolding rules.sent sizes_after sent_size
  sends p is rule = record {
    meets = does _ _ rule (ap (λ (q : ℕ). Ok (answer.Sent (psn q))) (is ∙ sym (next_is x))) sent_means (inr sent_started);
    sizes_are = ap (λ (n : ℕ). set x.sizes n size) (sent_at x.head.place.0 x.head.outstanding ∙ ap (λ (q : ℕ). q % largest_room) (sym is));
    retired_long = refl;
    marked_long = refl;
  }
