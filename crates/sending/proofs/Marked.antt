-- One mark set or cleared: one bit of the row is one entry of the record, and a NACK or timer sets it only where it may. Assumes nothing.
use mathlib.Core.Path.{◌≡◌, refl, sym, ap, ap₂, ◌∙◌}
use mathlib.Core.Bool.{Bool, true, false, not, cond, ◌&&◌, ◌||◌, or-true, or-false, and-true, and-false}
use mathlib.Core.List.{List, map}
use mathlib.Core.Logic.{inr}
use Prim.Native.Nat.{ℕ, ◌+◌, ◌≤◌, ◌<◌}
use native.Mathlib.Omega.{arith}
use native.Mathlib.Decide.{ℕ_discrete, dec_lt}
use lib.Dec.{eqb, ltb}
use lib.ListN.{length, get_or, get_or-eq_default}
use borrow.Author.Tests.{lt-ltb, le-ltb, ltb-true, eq-eqb, ne_eqb, not-true}
use Rattle.std.specs.Prelude.{Ok}
use Rattle.psn.specs.Psn.{after, distance}
use Rattle.lists.specs.Index.{table}
use Rattle.lists.specs.Lists.{update}
use Rattle.lists.proofs.Index.{length_table, get_or_table, map_table, table_same}
use Rattle.lists.proofs.Joined.{and_true_each}
use Rattle.lists.proofs.Tables.{update_table}
use Rattle.row.specs.Row.{at, bits, Row, Becomes, without_bit}
use Rattle.marks.specs.Marks as marks
use Rattle.promise.specs.Promise.{Meets}
use Rattle.promise.proofs.Meeting.{does}
use Rattle.rules.specs.Numbered.{number}
use Rattle.rules.specs.Paper.{paper, Reply}
use Rattle.rules.specs.Sender.{size_held, index, with_entries}
use Rattle.rules.specs.Marks.{with_mark, markable, mark}
use Rattle.rules.specs.Sending.{step}
use Rattle.rules.specs.declared.Answer.{Answer}
use Rattle.rules.specs.declared.Sending.{Sending}
use Rattle.retire.proofs.Judged.{index_is}
use Rattle.sending.specs.Lent.{Lent, lent, meaning, entry, offset, Started, Sound, sizes_after, Steps}
use Rattle.sending.proofs.Entries.{same_entry, stands}

-- ---- another row of marks
abbrev pub remarked : Lent → List ℕ → Lent
remarked x = lent x.head x.sizes x.retired

module _ (x : Lent) (h : Started x) (ws : List ℕ) (long : length ws ≡ length x.retired) (not_both : (p : ℕ) → (at x.retired p && at ws p) ≡ false)
    (mark_unsent : (p : ℕ) → offset x + x.head.outstanding ≤ p → at ws p ≡ false) where
  remarked_started : Started (remarked x ws)
  unfolding entry size_held
  remarked_started = record {
    room_good = h.room_good;
    place_low = h.place_low;
    room_left = h.room_left;
    sizes_long = h.sizes_long;
    enough = h.enough;
    most = h.most;
    marked_long = long;
    before = h.before;
    first_open = h.first_open;
    unsent = h.unsent;
    not_both = not_both;
    mark_unsent = mark_unsent;
    sizes_good = h.sizes_good;
    held_is = h.held_is;
  }

-- ---- bit p of a row becomes b
abbrev pub Puts : Bool → ℕ → List ℕ → List ℕ → Type 0
Puts b p ws ws' = (k : ℕ) → at ws' k ≡ cond (eqb k p) b (at ws k)

pub clear_puts : (ws ws' : List ℕ) (p : ℕ) → Becomes ws ws' (without_bit ws p) → Puts false p ws ws'
clear_puts ws ws' p h k = h.bits_are k ∙ go (ℕ_discrete k p)
  where
    go : Dec (k ≡ p) → without_bit ws p k ≡ cond (eqb k p) false (at ws k)
    go (yes e) = rw (eq-eqb k p e) (and-false (at ws k))
    go (no e) = rw (ne_eqb k p e) (and-true (at ws k))

-- a mark set where it may be, and else the bits that were there
module _ (ws : List ℕ) (p : ℕ) (may : Bool) (ws' : List ℕ) (h : Becomes ws ws' (λ k. at ws k || eqb k p && may && ltb k (bits ws))) where
  marked_puts : p < bits ws → may ≡ true → Puts true p ws ws'
  marked_puts l e k = h.bits_are k ∙ ap (λ (b : Bool). at ws k || eqb k p && b && ltb k (bits ws)) e ∙ go (ℕ_discrete k p)
    where
      go : Dec (k ≡ p) → (at ws k || eqb k p && true && ltb k (bits ws)) ≡ cond (eqb k p) true (at ws k)
      go (yes q) = rw (eq-eqb k p q, lt-ltb k (bits ws) (omega arith)) (or-true (at ws k))
      go (no q) = rw (ne_eqb k p q) (or-false (at ws k))

  marked_keeps : may ≡ false → Row ws' (at ws)
  marked_keeps e k = h.bits_are k ∙ ap (λ (b : Bool). at ws k || eqb k p && b && ltb k (bits ws)) e ∙ none (eqb k p)
    where
      none : (t : Bool) → (at ws k || t && false && ltb k (bits ws)) ≡ at ws k
      none true = or-false (at ws k)
      none false = or-false (at ws k)

-- ---- the record whose entry i has mark b, if it is not retired
module _ (x : Lent) (h : Started x) (b : Bool) (i : ℕ) (l : i < x.head.outstanding) (ws : List ℕ) (long : length ws ≡ length x.retired)
    (may : (at x.retired (offset x + i) && b) ≡ false) (puts : Puts b (offset x + i) x.marked ws) where
  put_here : (k : ℕ) → k ≡ offset x + i → at ws k ≡ b
  put_here k e = puts k ∙ ap (λ (t : Bool). cond t b (at x.marked k)) (eq-eqb k (offset x + i) e)

  put_other : (k : ℕ) → (k ≡ offset x + i → ⊥) → at ws k ≡ at x.marked k
  put_other k n = puts k ∙ ap (λ (t : Bool). cond t b (at x.marked k)) (ne_eqb k (offset x + i) n)

  entry_is : (j : ℕ) → entry (remarked x ws) j ≡ cond (eqb j i) (with_mark b (entry x j)) (entry x j)
  unfolding entry
  entry_is j = go (ℕ_discrete j i)
    where
      go : Dec (j ≡ i) → entry (remarked x ws) j ≡ cond (eqb j i) (with_mark b (entry x j)) (entry x j)
      go (yes e) = rw (eq-eqb j i e) (same_entry refl refl (put_here (offset x + j) (omega arith)))
      go (no e) = rw (ne_eqb j i e) (same_entry refl refl (put_other (offset x + j) (λ q. e (omega arith))))

  pub put_means : meaning (remarked x ws) ≡ with_entries (meaning x) (update (with_mark b) (meaning x).entries i)
  unfolding meaning with_entries
  put_means = λ t. record {
    room = x.head.room;
    place = x.head.place.0;
    entries = (table_same x.head.outstanding _ _ (λ j p. entry_is j) ∙ sym (update_table (with_mark b) x.head.outstanding (entry x) i)) t;
  }

  pub put_started : Started (remarked x ws)
  put_started =
      remarked_started x h ws long (λ p. not_both_at p (ℕ_discrete p (offset x + i))) (λ p m. put_other p (λ e. omega arith) ∙ h.mark_unsent p m)
    where
      not_both_at : (p : ℕ) → Dec (p ≡ offset x + i) → (at x.retired p && at ws p) ≡ false
      not_both_at p (yes e) = ap₂ (λ (u v : Bool). u && v) (ap (at x.retired) e) (put_here p e) ∙ may
      not_both_at p (no e) = ap (λ (t : Bool). at x.retired p && t) (put_other p e) ∙ h.not_both p

-- ---- a row with the same bits means the same
module _ (x : Lent) (h : Started x) (ws : List ℕ) (long : length ws ≡ length x.retired) (same : Row ws (at x.marked)) where
  same_means : meaning (remarked x ws) ≡ meaning x
  unfolding meaning entry
  same_means = λ t. record {
    room = x.head.room;
    place = x.head.place.0;
    entries = table_same x.head.outstanding (entry (remarked x ws)) (entry x) (λ j p. same_entry refl refl (same (offset x + j))) t;
  }

  same_started : Started (remarked x ws)
  same_started =
      remarked_started x h ws long (λ p. ap (λ (t : Bool). at x.retired p && t) (same p) ∙ h.not_both p) (λ p m. same p ∙ h.mark_unsent p m)

-- ---- NACK and timer, for packet number p: n became marked, and the row is left so, however it is told
abbrev pub Marks : Lent → ℕ → ℕ → List ℕ → Type 0
Marks x p n ws = (tell : ℕ → Answer) → Meets paper number Sound meaning x (mark tell (meaning x) p) (Ok (tell n)) (remarked x ws)

module _ (x : Lent) (h : Started x) (p : ℕ) where
  abbrev i : ℕ
  i = distance (after x.head.place.0 1) p

  abbrev may_mark : Bool
  may_mark = get_or (map markable (meaning x).entries) (index (meaning x) p) false

  abbrev markable_row : Bool
  markable_row = marks.markable_psn x.retired x.marked x.head.place.0 x.head.outstanding p

  -- the rule's test and the rows'
  may_is : may_mark ≡ markable_row
  unfolding meaning entry
  may_is =
      ap₂ (λ (l : List Bool) (j : ℕ). get_or l j false) (map_table markable x.head.outstanding (entry x)) (index_is (meaning x) _ _ (stands x) p)
      ∙ go (dec_lt i x.head.outstanding)
    where
      go : Dec (i < x.head.outstanding) → get_or (table x.head.outstanding (λ j. markable (entry x j))) i false ≡ markable_row
      go (yes l) = rw (lt-ltb i x.head.outstanding l) (get_or_table x.head.outstanding (λ j. markable (entry x j)) i false l)
      go (no l) =
          let t : List Bool = table x.head.outstanding (λ j. markable (entry x j)) in
          rw (le-ltb i x.head.outstanding (omega arith))
          (get_or-eq_default t false (omega (arith, length_table x.head.outstanding (λ j. markable (entry x j)))))

  module _ (ws : List ℕ) (n : ℕ) (rows : marks.Marks x.retired x.marked x.head.place.0 x.head.outstanding p ws n) where
    long : length ws ≡ length x.retired
    long = rows.marked_are.long ∙ h.marked_long

    newly_in : (tell : ℕ → Answer) (b : Bool) → markable_row ≡ b → ◌≡◌ {A = Reply} (Ok (tell n)) (Ok (tell (cond b 1 0)))
    newly_in tell b e = ap (λ (m : ℕ). Ok (tell m)) (rows.newly_is ∙ ap (λ (t : Bool). cond t 1 0) e)

    -- the rule marks, and the bit is set
    set_meets : markable_row ≡ true → Marks x p n ws
    unfolding mark
    set_meets e =
        let q = offset x + i in
        let each = and_true_each (ltb i x.head.outstanding) (marks.markable x.retired x.marked q) e in
        let l = ltb-true i x.head.outstanding each.0 in
        let open_there : at x.retired q ≡ false =
        not-true (at x.retired q) (and_true_each (not (at x.retired q)) (not (at x.marked q)) each.1).0 in
        let may : (at x.retired q && true) ≡ false = ap (λ (t : Bool). t && true) open_there in
        let puts = marked_puts x.marked q markable_row ws rows.marked_are (omega (arith, h.marked_long, h.enough, h.room_left)) e in
        let yes_mark : may_mark ≡ true = may_is ∙ e in
        λ tell.
        does _ _ (rw yes_mark) (newly_in tell true e)
        (put_means x h true i l ws long may puts
        ∙ ap (λ (j : ℕ). with_entries (meaning x) (update (with_mark true) (meaning x).entries j)) (sym (index_is (meaning x) _ _ (stands x) p)))
        (inr (put_started x h true i l ws long may puts))

    -- it does not, and the bits are as they were
    kept_meets : markable_row ≡ false → Marks x p n ws
    unfolding mark
    kept_meets e =
        let same = marked_keeps x.marked (offset x + i) markable_row ws rows.marked_are e in
        let no_mark : may_mark ≡ false = may_is ∙ e in
        λ tell. does _ _ (rw no_mark) (newly_in tell false e) (same_means x h ws long same) (inr (same_started x h ws long same))

    mark_meets : Marks x p n ws
    mark_meets = by markable_row refl
      where
        by : (b : Bool) → markable_row ≡ b → Marks x p n ws
        by true e = set_meets e
        by false e = kept_meets e

-- an event whose rule marks p
pub marks_by : (x : Lent) → Started x → (e : Sending) (tell : ℕ → Answer) (p n : ℕ) (ws : List ℕ) → step (meaning x) e ≡ mark tell (meaning x) p
    → sizes_after x.sizes e (Ok (tell n)) ≡ x.sizes → marks.Marks x.retired x.marked x.head.place.0 x.head.outstanding p ws n
    → Steps x e (Ok (tell n)) x.head x.sizes x.retired ws
marks_by x h e tell p n ws rule sizes rows = record {
  meets = rw rule (mark_meets x h p ws n rows tell);
  sizes_are = sym sizes;
  retired_long = refl;
  marked_long = rows.marked_are.long;
}
