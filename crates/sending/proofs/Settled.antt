-- The promise of an event over lent rows settles its outcome: any two results that it allows are equal, to the last bit of the rows. A sound
-- record's head and words follow from what it means, and the sizes from the answer. Assumes nothing.
use mathlib.Core.Path.{◌≡◌, refl, sym, ap, ◌∙◌, subst}
use mathlib.Core.Bool.{Bool, true, false, not, cond}
use mathlib.Core.List.{List, map}
use mathlib.Core.Logic.{inl, inr}
use Prim.Native.Nat.{ℕ, ◌+◌, ◌-◌, ◌%◌, ◌≤◌, ◌<◌}
use native.Mathlib.Omega.{arith}
use native.Mathlib.Decide.{dec_lt}
use lib.Dec.{ltb}
use lib.ListN.{length, get_or, get_or-eq_default}
use borrow.Author.Tests.{lt-ltb, le-ltb}
use Rattle.lists.specs.Index.{total, table}
use Rattle.lists.proofs.Index.{length_table, get_or_table, map_table}
use Rattle.row.specs.Row.{at, Row, Becomes}
use Rattle.row.proofs.Rows.{at_zeros}
use Rattle.row.proofs.Settled.{Words, becomes_settled}
use Rattle.rules.specs.Numbers.{psn}
use Rattle.rules.specs.Paper.{Reply}
use Rattle.rules.specs.Sender.{Entry, outstanding, unused, held}
use Rattle.rules.specs.Sender as rule
use Rattle.rules.specs.Retire.{is_retired}
use Rattle.rules.specs.declared.Sending.{Sending}
use Rattle.rules.proofs.Settled.{settled}
use Rattle.sending.specs.declared.Head.{Head}
use Rattle.sending.specs.Lent.{Lent, lent, empty, offset, entry, meaning, Sound, sizes_after, Steps}
use Rattle.sending.proofs.Entries.{length_entries, held_total, used, unmarked}

-- ---- the head
abbrev head_of : rule.Sender → Head
head_of m = record { room = m.room; place = psn m.place; outstanding = outstanding m; held = held m }

held_is : (x : Lent) → Sound x → x.head.held ≡ held (meaning x)
unfolding total
held_is x (inl e) = subst (λ (y : Lent). y.head.held ≡ held (meaning y)) (sym e) (sym (held_total (empty (length x.retired))))
held_is x (inr h) = h.held_is ∙ sym (held_total x)

head_is : (x : Lent) → Sound x → x.head ≡ head_of (meaning x)
unfolding meaning
head_is x s =
    let n = length_entries x in
    let b = held_is x s in
    λ i. record { room = x.head.room; place = x.head.place; outstanding = sym n i; held = b i }

-- ---- a row: b below place + 1's bit, the entries' own bits, and nothing past them
abbrev bits_of : (Entry → Bool) → Bool → rule.Sender → ℕ → Bool
bits_of f b m p = cond (ltb p ((m.place + 1) % 64)) b (get_or (map f m.entries) (p - (m.place + 1) % 64) false)

row_is : (x : Lent) (f : Entry → Bool) (b : Bool) (ws : List ℕ) → ((p : ℕ) → p < offset x → at ws p ≡ b)
    → ((i : ℕ) → i < x.head.outstanding → at ws (offset x + i) ≡ f (entry x i))
    → ((p : ℕ) → offset x + x.head.outstanding ≤ p → at ws p ≡ false) → Row ws (bits_of f b (meaning x))
unfolding meaning
row_is x f b ws below here past p =
    let i = p - offset x in
    let n = x.head.outstanding in
    let own : ℕ → Bool = λ j. f (entry x j) in
    let is : get_or (map f (table n (entry x))) i false ≡ get_or (table n own) i false = ap (λ (l : List Bool). get_or l i false) (map_table f n (entry x)) in
    elim (dec_lt p (offset x)) [
      | yes l ↦ rw (lt-ltb p (offset x) l) (below p l)
      | no l ↦ rw (le-ltb p (offset x) (omega arith)) (elim (dec_lt i n) [
        | yes k ↦ ap (at ws) (omega arith) ∙ here i k ∙ sym (is ∙ get_or_table n own i false k)
        | no k ↦ past p (omega arith) ∙ sym (is ∙ get_or-eq_default (table n own) false (omega (arith, length_table n own)))
      ])
    ]

-- all up to the place are retired where there is one, and none of them is marked
abbrev retired_of : rule.Sender → ℕ → Bool
retired_of m = bits_of is_retired (not (unused m)) m

abbrev marked_of : rule.Sender → ℕ → Bool
marked_of = bits_of (λ e. e.marked) false

-- an empty record's rows
none_set : (n : ℕ) (f : Entry → Bool) → Row (empty n).retired (bits_of f false (meaning (empty n)))
none_set n f = row_is (empty n) f false (empty n).retired (λ p l. at_zeros n p) (λ i l. absurd (omega arith)) (λ p l. at_zeros n p)

retired_are : (x : Lent) → Sound x → Row x.retired (retired_of (meaning x))
unfolding meaning entry
retired_are x (inl e) = subst (λ (y : Lent). Row y.retired (retired_of (meaning y))) (sym e) (none_set (length x.retired) is_retired)
retired_are x (inr h) =
    subst (λ (b : Bool). Row x.retired (bits_of is_retired b (meaning x))) (ap not (sym (used x h)))
    (row_is x is_retired true x.retired h.before (λ i l. refl) h.unsent)

marked_are : (x : Lent) → Sound x → Row x.marked (marked_of (meaning x))
unfolding entry
marked_are x (inl e) = subst (λ (y : Lent). Row y.marked (marked_of (meaning y))) (sym e) (none_set (length x.retired) (λ e. e.marked))
marked_are x (inr h) = row_is x (λ e. e.marked) false x.marked (unmarked x h) (λ i l. refl) h.mark_unsent

-- ---- the reply, the head and the rows after it are r, h, ss, rs and ms, or r', h', ss', rs' and ms'
pub step_settled : (x : Lent) (e : Sending) (r r' : Reply) (h h' : Head) (ss rs ms ss' rs' ms' : List ℕ) → Words rs → Words rs' → Words ms → Words ms'
    → Steps x e r h ss rs ms → Steps x e r' h' ss' rs' ms' → (r ≡ r') × (h ≡ h') × (ss ≡ ss') × (rs ≡ rs') × (ms ≡ ms')
step_settled x e r r' h h' ss rs ms ss' rs' ms' small small' few few' p q =
    let y = lent h ss rs ms in
    let z = lent h' ss' rs' ms' in
    let same = settled r r' y z p.meets q.meets in
    let f = retired_of (meaning z) in
    let g = marked_of (meaning z) in
    let retires : Becomes x.retired rs f =
    record { long = p.retired_long; bits_are = subst (λ (m : rule.Sender). Row rs (retired_of m)) same.1 (retired_are y p.meets.sound) } in
    let retires' : Becomes x.retired rs' f = record { long = q.retired_long; bits_are = retired_are z q.meets.sound } in
    let marks : Becomes x.marked ms g =
    record { long = p.marked_long; bits_are = subst (λ (m : rule.Sender). Row ms (marked_of m)) same.1 (marked_are y p.meets.sound) } in
    let marks' : Becomes x.marked ms' g = record { long = q.marked_long; bits_are = marked_are z q.meets.sound } in (
      same.0,
      head_is y p.meets.sound ∙ ap head_of same.1 ∙ sym (head_is z q.meets.sound),
      p.sizes_are ∙ ap (sizes_after x.sizes e) same.0 ∙ sym q.sizes_are,
      becomes_settled x.retired rs rs' f small small' retires retires',
      becomes_settled x.marked ms ms' g few few' marks marks',
    )
