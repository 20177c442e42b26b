-- A SACK that names nothing unsent: its rows are retired as the rule retires entries, the run of retired at the front is the rule's lead, and
-- whole words go. Assumes nothing.
use mathlib.Core.Path.{◌≡◌, refl, sym, ap, ap₂, subst, ◌∙◌}
use mathlib.Core.Bool.{Bool, true, false, not, cond, ◌&&◌, ◌||◌, false≢true, or-true, or-false, and-true, and-false}
use mathlib.Core.List.{List, map}
use mathlib.Core.Logic.{inr}
use Prim.Native.Nat.{ℕ, suc, ◌+◌, ◌-◌, ◌%◌, ◌≤◌, ◌<◌}
use native.Mathlib.Omega.{arith}
use native.Mathlib.Decide.{dec_lt}
use lib.Dec.{ltb, leb}
use lib.ListN.{length, get_or, drop}
use borrow.Author.Tests.{lt-ltb, le-ltb, leb-true, lt-leb, ltb-true, not-true, not-false}
use Rattle.std.specs.Prelude.{Ok}
use Rattle.promise.proofs.Meeting.{does}
use Rattle.psn.specs.declared.Psn.{Psn}
use Rattle.psn.specs.Psn.{turn, half, after, distance}
use Rattle.psn.proofs.Circle.{after_lt, after_after, after_turn, distance_after, ahead as ahead_by}
use Rattle.lists.specs.Index.{total, weigh, table}
use Rattle.lists.specs.Lists.{lead}
use Rattle.lists.proofs.Index.{total_same, total_add, total_none, total_both, total_window, table_same, map_table, drop_table}
use Rattle.lists.proofs.Joined.{and_true_each, or_false_each, never_true}
use Rattle.lists.proofs.Lists.{any_some}
use Rattle.lists.proofs.Tables.{lead_table}
use Rattle.word.specs.Word.{bit_at}
use Rattle.word.proofs.Compare.{leb_same}
use Rattle.row.specs.Row.{at, bits}
use Rattle.rules.specs.Numbers.{psn, size_ok, largest_room}
use Rattle.rules.specs.Sender.{Entry, size_held, held, unsent}
use Rattle.rules.specs.Sender as rule
use Rattle.rules.specs.Retire.{any_set, unsent_cack, unsent_bit, names_unsent, up_to, has_bit, named, retired, retire, newly, false_alarms, is_retired, settle, after_sack, report}
use Rattle.rules.specs.Retire as sacks
use Rattle.rules.specs.Sending.{step}
use Rattle.rules.specs.declared.Answer.{Answer}
use Rattle.rules.specs.declared.Answer.TheVariants as answer
use Rattle.rules.specs.declared.Block.{Block}
use Rattle.rules.specs.declared.Report.{Report}
use Rattle.rules.specs.declared.Sending.TheVariants as sending
use Rattle.rules.proofs.Entries.{retire_table, newly_table}
use Rattle.retire.specs.Rows.{names, fresh, mark_by, size_by}
use Rattle.retire.specs.Front.{row_first, reach, named_by, retired_then, marked_then, front, Moves}
use Rattle.retire.specs.declared.Moved.{Moved}
use Rattle.retire.proofs.Naming.{size_on}
use Rattle.retire.proofs.Judged.{is_past}
use Rattle.sending.specs.declared.Head.{Head}
use Rattle.sending.specs.Lent.{Lent, meaning, entry, offset, size_at, Started, sizes_after, Steps, Acknowledges}
use Rattle.sending.proofs.Entries.{same_entry, length_entries, held_total, stands}

-- ---- numbers: the rows begin at the packet number `row_first` of a place a
way : (a i : ℕ) → turn + 1 - (a + 1) % 64 + ((a + 1) % 64 + i) ≡ 1 + i + turn
way a i = omega arith

row_on : (a i : ℕ) → after (row_first a) ((a + 1) % 64 + i) ≡ after a (1 + i)
row_on a i = after_after a (turn + 1 - (a + 1) % 64) ((a + 1) % 64 + i) ∙ ap (after a) (way a i) ∙ after_turn a (1 + i)

row_size : (a i : ℕ) → (row_first a + ((a + 1) % 64 + i)) % largest_room ≡ (a + 1 + i) % largest_room
row_size a i = size_on a (turn + 1 - (a + 1) % 64) ((a + 1) % 64 + i) ∙ ap (λ (n : ℕ). (a + n) % largest_room) (way a i) ∙ whole a i
  where
    whole : (a i : ℕ) → (a + (1 + i + turn)) % largest_room ≡ (a + 1 + i) % largest_room
    whole a i = omega arith

-- the place moves on by m
offset_on : (a m : ℕ) → (after a m + 1) % 64 ≡ (a + 1 + m) % 64
unfolding after
offset_on a m = omega arith

size_at_on : (a m i : ℕ) → (after a m + 1 + i) % largest_room ≡ (a + 1 + (m + i)) % largest_room
unfolding after
size_at_on a m i = omega arith

-- ---- bits and entries
-- what is named is not marked after, and what was retired was not marked before
not_both_after : (a m n l : Bool) → (a && m) ≡ false → ((a || n && l) && (m && not n)) ≡ false
not_both_after a m true l h = ap (λ (t : Bool). (a || l) && t) (and-false m) ∙ and-false (a || l)
not_both_after a m false l h = ap₂ (λ (s t : Bool). s && t) (or-false a) (and-true m) ∙ h

-- what an entry held, it holds still or it is newly retired
held_split : (e : Entry) (b a : Bool) → e.retired ≡ a → size_held (cond b (retired e) e) + cond (b && not e.retired) e.size 0 ≡ size_held e
unfolding size_held
held_split e true true q = rw q refl
held_split e true false q = rw q (omega arith)
held_split e false a q = omega arith

retired_holds : (e : Entry) → e.retired ≡ true → size_held e ≡ 0
unfolding size_held
retired_holds e q = ap (λ (b : Bool). cond b 0 e.size) q

sizes_good_of : (x : Lent) → Started x → (i : ℕ) → i < x.head.outstanding → size_ok (get_or x.sizes (size_at x i) 0) ≡ true
unfolding entry
sizes_good_of x h i l = h.sizes_good i l

-- ---- how far cack reaches
pub reach_is : (x : Lent) (cack : ℕ) → reach x.head.place.0 x.head.outstanding cack ≡ offset x + up_to (meaning x) cack
unfolding up_to meaning
reach_is x cack = let d = distance x.head.place.0 cack in ap (λ (n : ℕ). offset x + cond (leb d n) d 0) (sym (length_entries x))

up_to_le : (x : Lent) (cack : ℕ) → up_to (meaning x) cack ≤ x.head.outstanding
unfolding up_to
up_to_le x cack = by (leb d n) refl
  where
    d : ℕ
    d = distance (meaning x).place cack

    n : ℕ
    n = length (meaning x).entries

    by : (b : Bool) → leb d n ≡ b → cond (leb d n) d 0 ≤ x.head.outstanding
    by true e = rw e (omega (arith, leb-true d n e, length_entries x))
    by false e = rw e (omega arith)

-- a started record whose rows such a SACK has left so
module _ (x : Lent) (cack : ℕ) (b : Block) (R'' M'' : List ℕ) (out : Moved) (asked : Started x × (names_unsent (meaning x) cack b ≡ false))
    (rows : Moves x.retired x.marked x.sizes x.head.place.0 x.head.outstanding (named_by x.head.place.0 x.head.outstanding cack b) R'' M'' out) where
  h : Started x
  h = asked.0

  -- ---- what is named: among the outstanding, as the rule says
  abbrev f : ℕ → Bool
  f = named_by x.head.place.0 x.head.outstanding cack b

  abbrev g : ℕ → Bool
  g = named (meaning x) cack b

  named_in : (i : ℕ) → f (offset x + i) ≡ g i
  unfolding names named meaning
  named_in i =
      let t = up_to (meaning x) cack in
      ap₂ (λ (p q : Bool). p || q)
      (ap (ltb (offset x + i)) (reach_is x cack) ∙ leb_same (suc (offset x + i)) (offset x + t) (suc i) t (λ l. omega arith) (λ l. omega arith))
      (ap (has_bit b) (row_on x.head.place.0 i))

  -- past them, none
  bit_unsent : (i : ℕ) → x.head.outstanding ≤ i → i < half → unsent (meaning x) (after x.head.place.0 (1 + i)) ≡ true
  bit_unsent i l m =
      let a = x.head.place.0 in
      let e : distance (after a 1) (after a (1 + i)) ≡ i = ahead_by a 1 (1 + i) (omega arith) (omega arith) ∙ omega arith in
      is_past (meaning x) a x.head.outstanding (stands x) (after a (1 + i)) (omega (arith, e)) ∙ ap (λ (j : ℕ). not (leb half j)) e
      ∙ ap not (lt-leb half i m)

  no_unsent_bit : any_set (unsent (meaning x)) b ≡ false
  unfolding names_unsent unsent_bit
  no_unsent_bit = (or_false_each (unsent_cack (meaning x) cack) (any_set (unsent (meaning x)) b) asked.1).1

  no_bit_past : (i : ℕ) → x.head.outstanding ≤ i → i < half → has_bit b (after x.head.place.0 (1 + i)) ≡ false
  unfolding has_bit any_set
  no_bit_past i l m =
      let q = after x.head.place.0 (1 + i) in
      let base = b.base.0 in
      let d = distance base q in
      let unsent_at : ℕ → Bool = λ j. bit_at b.bitmap j && unsent (meaning x) (after base j) in
      let is_unsent : unsent (meaning x) (after base d) ≡ true =
      ap (unsent (meaning x)) (distance_after base q (after_lt x.head.place.0 (1 + i))) ∙ bit_unsent i l m in
      never_true (ltb d 64 && bit_at b.bitmap d)
      (λ e.
      let each = and_true_each (ltb d 64) (bit_at b.bitmap d) e in
      let named_unsent = any_some 64 unsent_at d (ltb-true d 64 each.0) (ap₂ (λ (s t : Bool). s && t) each.1 is_unsent) in
      false≢true (sym no_unsent_bit ∙ named_unsent))

  named_past : (p : ℕ) → offset x + x.head.outstanding ≤ p → p < bits x.retired → f p ≡ false
  unfolding names
  named_past p l m =
      let i = p - offset x in
      let p_is : p ≡ offset x + i = omega arith in
      ap₂ (λ (s t : Bool). s || t) (le-ltb p (reach x.head.place.0 x.head.outstanding cack) (omega (arith, reach_is x cack, up_to_le x cack)))
      (ap (has_bit b) (ap (after (row_first x.head.place.0)) p_is ∙ row_on x.head.place.0 i)
      ∙ no_bit_past i (omega arith) (omega (arith, h.most)))

  -- ---- the rows
  room_in : offset x + x.head.outstanding < bits x.retired
  room_in = omega (arith, h.enough, h.room_left)

  -- the rows once they are retired, and the place not moved yet
  abbrev R : ℕ → Bool
  R = retired_then x.retired f

  abbrev M : ℕ → Bool
  M = marked_then x.marked f

  R_before : (p : ℕ) → p < offset x → R p ≡ true
  R_before p l = ap (λ (t : Bool). t || f p && ltb p (bits x.retired)) (h.before p l)

  R_in : (i : ℕ) → i < x.head.outstanding → R (offset x + i) ≡ (at x.retired (offset x + i) || g i)
  R_in i l =
      let p = offset x + i in
      ap (λ (t : Bool). at x.retired p || t)
      (ap₂ (λ (s t : Bool). s && t) (named_in i) (lt-ltb p (bits x.retired) (omega (arith, room_in))) ∙ and-true (g i))

  R_unsent : (p : ℕ) → offset x + x.head.outstanding ≤ p → R p ≡ false
  R_unsent p l = ap₂ (λ (s t : Bool). s || t) (h.unsent p l) (go (dec_lt p (bits x.retired)))
    where
      go : Dec (p < bits x.retired) → (f p && ltb p (bits x.retired)) ≡ false
      go (yes m) = ap (λ (t : Bool). t && ltb p (bits x.retired)) (named_past p l m)
      go (no m) = ap (λ (t : Bool). f p && t) (le-ltb p (bits x.retired) (omega arith)) ∙ and-false (f p)

  M_unsent : (p : ℕ) → offset x + x.head.outstanding ≤ p → M p ≡ false
  M_unsent p l = ap (λ (t : Bool). t && not (f p)) (h.mark_unsent p l)

  not_both_in : (p : ℕ) → (R p && M p) ≡ false
  not_both_in p =
      not_both_after (at x.retired p) (at x.marked p) (f p) (ltb p (bits x.retired)) (h.not_both p)

  -- ---- the entries between: retired, and the place not moved yet
  abbrev mid : ℕ → Entry
  mid i = record { size = get_or x.sizes (size_at x i) 0; retired = R (offset x + i); marked = M (offset x + i) }

  mid_is : (i : ℕ) → i < x.head.outstanding → mid i ≡ cond (g i) (retired (entry x i)) (entry x i)
  unfolding entry
  mid_is i l =
      same_entry refl (R_in i l) (ap (λ (t : Bool). at x.marked (offset x + i) && not t) (named_in i))
      ∙ both (get_or x.sizes (size_at x i) 0) (at x.retired (offset x + i)) (at x.marked (offset x + i)) (g i)
    where
      both : (s : ℕ) (r m t : Bool) → ◌≡◌ {A = Entry} (record { size = s; retired = r || t; marked = m && not t })
          (cond t (record { size = s; retired = true; marked = false }) (record { size = s; retired = r; marked = m }))
      both s r m true = same_entry refl (or-true r) (and-false m)
      both s r m false = same_entry refl (or-false r) (and-true m)

  retire_is : retire g (meaning x).entries ≡ table x.head.outstanding mid
  unfolding meaning
  retire_is = retire_table g x.head.outstanding (entry x) ∙ sym (table_same x.head.outstanding mid _ mid_is)

  -- ---- what is newly retired: over the words as over the entries
  module _ (w v : ℕ → ℕ) (same : (i : ℕ) → i < x.head.outstanding → w (offset x + i) ≡ v i) where
    weigh_in : weigh (bits x.retired) (fresh x.retired f) w ≡ weigh x.head.outstanding (λ i. g i && not (entry x i).retired) v
    unfolding entry
    weigh_in =
        total_window (offset x) x.head.outstanding (bits x.retired) (λ p. cond (fresh x.retired f p) (w p) 0)
        (λ p l. ap (λ (t : Bool). cond t (w p) 0) (ap (λ (r : Bool). f p && not r) (h.before p l) ∙ and-false (f p)))
        (λ p l m. ap (λ (t : Bool). cond (t && not (at x.retired p)) (w p) 0) (named_past p l m))
        (omega (arith, room_in))
        ∙ total_same x.head.outstanding _ _
        (λ i l. ap₂ (λ (t : Bool) (n : ℕ). cond (t && not (at x.retired (offset x + i))) n 0) (named_in i) (same i l))

  newly_is : out.sum.newly ≡ newly g (meaning x).entries
  unfolding meaning
  newly_is = rows.counted ∙ weigh_in (λ p. 1) (λ i. 1) (λ i l. refl) ∙ sym (newly_table (λ e. 1) g x.head.outstanding (entry x))

  alarms_is : out.sum.alarms ≡ false_alarms g (meaning x).entries
  unfolding meaning entry
  alarms_is =
      rows.alarmed ∙ weigh_in (mark_by x.marked) (λ i. cond (entry x i).marked 1 0) (λ i l. refl)
      ∙ sym (newly_table (λ e. cond e.marked 1 0) g x.head.outstanding (entry x))

  bytes_is : out.sum.bytes ≡ weigh x.head.outstanding (λ i. g i && not (entry x i).retired) (λ i. (entry x i).size)
  unfolding entry
  bytes_is =
      let a = x.head.place.0 in
      rows.weighed
      ∙ weigh_in (size_by x.sizes (row_first a)) (λ i. get_or x.sizes (size_at x i) 0)
      (λ i l. ap (λ (n : ℕ). get_or x.sizes n 0) (row_size a i))

  bytes_split : total x.head.outstanding (λ i. size_held (mid i)) + out.sum.bytes ≡ x.head.held
  bytes_split =
      ap (λ (n : ℕ). total x.head.outstanding (λ i. size_held (mid i)) + n) bytes_is
      ∙ total_both x.head.outstanding (λ i. size_held (mid i)) _ (λ i. size_held (entry x i))
      (λ i l. ap (λ (e : Entry). size_held e + cond (g i && not (entry x i).retired) (entry x i).size 0) (mid_is i l)
      ∙ held_split (entry x i) (g i) (entry x i).retired refl)
      ∙ sym h.held_is

  pub bytes_le : out.sum.bytes ≤ x.head.held
  bytes_le = omega (arith, bytes_split)

  -- ---- the place moves over the run of retired, m at the front
  abbrev m : ℕ
  m = out.by

  R_run : (i : ℕ) → i < m → R (offset x + i) ≡ true
  R_run i l = not-false (R (offset x + i)) (rows.moved.none i l)

  R_up : (p : ℕ) → p < offset x + m → R p ≡ true
  R_up p l = go (dec_lt p (offset x))
    where
      go : Dec (p < offset x) → R p ≡ true
      go (yes k) = R_before p k
      go (no k) = let p_is : p ≡ offset x + (p - offset x) = omega arith in ap R p_is ∙ R_run (p - offset x) (omega arith)

  R_stop : R (offset x + m) ≡ false
  R_stop = go (dec_lt m x.head.outstanding)
    where
      go : Dec (m < x.head.outstanding) → R (offset x + m) ≡ false
      go (yes l) = not-true (R (offset x + m)) (rows.moved.here l)
      go (no l) = R_unsent (offset x + m) (omega arith)

  lead_is : lead (map is_retired (table x.head.outstanding mid)) ≡ m
  lead_is = ap lead (map_table is_retired x.head.outstanding mid) ∙ lead_table x.head.outstanding (λ i. R (offset x + i)) m rows.moved

  -- ---- the record after
  module _ (now : Psn) (now_is : now.0 ≡ after x.head.place.0 m) where
    abbrev acknowledged : Lent
    acknowledged = record {
      head = record { room = x.head.room; place = now; outstanding = x.head.outstanding - m; held = x.head.held - out.sum.bytes };
      sizes = x.sizes;
      retired = R'';
      marked = M'';
    }

    -- the first bit that is left
    abbrev q : ℕ
    q = front x.head.place.0 m

    offset_is : offset acknowledged ≡ (offset x + m) % 64
    offset_is = ap (λ (n : ℕ). (n + 1) % 64) now_is ∙ offset_on x.head.place.0 m ∙ back x.head.place.0 m
      where
        back : (a k : ℕ) → (a + 1 + k) % 64 ≡ ((a + 1) % 64 + k) % 64
        back a k = omega arith

    bit_is : (i : ℕ) → q + (offset acknowledged + i) ≡ offset x + (m + i)
    bit_is i = omega (arith, offset_is)

    entry_is : (i : ℕ) → entry acknowledged i ≡ mid (m + i)
    unfolding entry
    entry_is i =
        same_entry (ap (λ (n : ℕ). get_or x.sizes n 0) (ap (λ (n : ℕ). (n + 1 + i) % largest_room) now_is ∙ size_at_on x.head.place.0 m i))
        (rows.retired_are.bits_are (offset acknowledged + i) ∙ ap R (bit_is i))
        (rows.marked_are.bits_are (offset acknowledged + i) ∙ ap M (bit_is i))

    acknowledged_means : meaning acknowledged ≡ after_sack (meaning x) cack b
    unfolding meaning after_sack settle
    acknowledged_means =
        let moves : lead (map is_retired (retire g (meaning x).entries)) ≡ m = ap (λ (l : List Entry). lead (map is_retired l)) retire_is ∙ lead_is in
        λ j. record {
          room = x.head.room;
          place = (now_is ∙ ap (after x.head.place.0) (sym moves)) j;
          entries = (table_same (x.head.outstanding - m) (entry acknowledged) (λ i. mid (m + i)) (λ i p. entry_is i)
              ∙ sym (drop_table m x.head.outstanding mid)
              ∙ sym (ap₂ (λ (n : ℕ) (l : List Entry). drop n l) moves retire_is)) j;
        }

    held_is : x.head.held - out.sum.bytes ≡ total (x.head.outstanding - m) (λ i. size_held (entry acknowledged i))
    held_is =
        let n = x.head.outstanding in
        let w : ℕ → ℕ = λ i. size_held (mid i) in
        let n_is : m + (n - m) ≡ n = omega (arith, rows.moved.within) in
        let front : total m w ≡ 0 = total_none m w (λ i l. retired_holds (mid i) (R_run i l)) in
        let rest : total (n - m) (λ i. w (m + i)) ≡ total (n - m) (λ i. size_held (entry acknowledged i)) =
        total_same (n - m) _ _ (λ i l. ap size_held (sym (entry_is i))) in
        let parts : total n w ≡ total m w + total (n - m) (λ i. w (m + i)) = ap (λ (j : ℕ). total j w) (sym n_is) ∙ total_add m (n - m) w in
        omega (arith, front, rest, parts, bytes_split)

    acknowledged_started : Started acknowledged
    acknowledged_started = record {
      room_good = h.room_good;
      place_low = subst (λ (n : ℕ). n < turn) (sym now_is) (after_lt x.head.place.0 m);
      room_left = omega (arith, h.room_left);
      sizes_long = h.sizes_long;
      enough = omega (arith, h.enough, rows.retired_are.long);
      most = omega (arith, h.most, rows.retired_are.long);
      marked_long = rows.marked_are.long ∙ h.marked_long ∙ sym rows.retired_are.long;
      before = λ p l. rows.retired_are.bits_are p ∙ R_up (q + p) (omega (arith, offset_is));
      first_open = rows.retired_are.bits_are (offset acknowledged) ∙ ap R open_is ∙ R_stop;
      unsent = λ p l. rows.retired_are.bits_are p ∙ R_unsent (q + p) (omega (arith, offset_is, rows.moved.within));
      not_both = λ p.
          ap₂ (λ (s u : Bool). s && u) (rows.retired_are.bits_are p) (rows.marked_are.bits_are p) ∙ not_both_in (q + p);
      mark_unsent = λ p l. rows.marked_are.bits_are p ∙ M_unsent (q + p) (omega (arith, offset_is, rows.moved.within));
      sizes_good = λ i l. ap (λ (e : Entry). size_ok e.size) (entry_is i) ∙ sizes_good_of x h (m + i) (omega (arith, rows.moved.within));
      held_is = held_is;
    }
      where
        open_is : q + offset acknowledged ≡ offset x + m
        open_is = omega (arith, offset_is)

    place_is : now.0 ≡ (after_sack (meaning x) cack b).place
    unfolding meaning
    place_is = ap (λ (y : rule.Sender). y.place) acknowledged_means

    acknowledged_reports : record { newly = out.sum.newly; place = now; held = x.head.held - out.sum.bytes; alarms = out.sum.alarms } ≡ report (meaning x) cack b
    unfolding report
    acknowledged_reports =
        let held_after : x.head.held - out.sum.bytes ≡ held (after_sack (meaning x) cack b) =
        held_is ∙ sym (held_total acknowledged) ∙ ap held acknowledged_means in
        λ i. record { newly = newly_is i; place = psn (place_is i); held = held_after i; alarms = alarms_is i }

    pub acknowledges : Acknowledges x cack b
        (answer.Retired (record { newly = out.sum.newly; place = now; held = x.head.held - out.sum.bytes; alarms = out.sum.alarms })) acknowledged.head R'' M''
    unfolding sacks.acknowledged
    acknowledges = record {
      meets = does _ _ refl (ap (λ (k : Report). Ok (answer.Retired k)) acknowledged_reports) acknowledged_means (inr acknowledged_started);
      retired_long = rows.retired_are.long;
      marked_long = rows.marked_are.long;
    }

-- a SACK whose rule acknowledges
pub sacks_by : (x : Lent) (cack : Psn) (b : Block) (r : Answer) (h : Head) (rs ms : List ℕ)
    → step (meaning x) (sending.Sack cack b) ≡ sacks.acknowledged (meaning x) cack.0 b → Acknowledges x cack.0 b r h rs ms
    → Steps x (sending.Sack cack b) (Ok r) h x.sizes rs ms
unfolding sizes_after
sacks_by x cack b r h rs ms rule done = record {
  meets = rw rule done.meets;
  sizes_are = refl;
  retired_long = done.retired_long;
  marked_long = done.marked_long;
}
