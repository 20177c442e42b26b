-- A resend: the first mark that the search finds is the rule's nearest, the index of its packet number is its own, and its bit is cleared.
-- Assumes nothing.
use mathlib.Core.Path.{◌≡◌, refl, sym, ap, ap₂, ◌∙◌, subst}
use mathlib.Core.Bool.{Bool, true, false, not, cond, and-false}
use mathlib.Core.List.{List}
use mathlib.Core.Logic.{inr}
use Prim.Native.Nat.{ℕ, ◌+◌, ◌<◌}
use native.Mathlib.Omega.{arith}
use lib.Dec.{leb}
use lib.ListN.{length}
use borrow.Author.Tests.{le-leb, lt-leb}
use Rattle.std.specs.Prelude.{Some, None, Ok, Err}
use Rattle.psn.specs.declared.Psn.{Psn}
use Rattle.psn.specs.Psn.{after, distance}
use Rattle.psn.proofs.Circle.{ahead}
use Rattle.lists.specs.Index.{First}
use Rattle.lists.specs.Lists.{lead, update}
use Rattle.lists.proofs.Index.{map_table}
use Rattle.lists.proofs.Tables.{lead_table}
use Rattle.row.specs.Row.{at, Becomes, without_bit}
use Rattle.row.proofs.Settled.{Words, becomes_settled}
use Rattle.marks.specs.Marks.{marked_at, bit_of, Finds, left_after, Takes}
use Rattle.promise.specs.Outcome.{Refused, unless}
use Rattle.promise.proofs.Meeting.{does}
use Rattle.rules.specs.Numbered.{number}
use Rattle.rules.specs.Numbers.{psn}
use Rattle.rules.specs.Sender.{outstanding, nth, with_entries}
use Rattle.rules.specs.Marks.{nearest, unmarked, with_mark, resent}
use Rattle.rules.specs.Sending.{resend_refusals, resend, step}
use Rattle.rules.specs.declared.Answer.TheVariants as answer
use Rattle.rules.specs.declared.Refusal.TheVariants as refusal
use Rattle.rules.specs.declared.Sending.TheVariants as sending
use Rattle.sending.specs.Lent.{Lent, meaning, entry, offset, Started, sizes_after, Steps}
use Rattle.sending.proofs.Entries.{length_entries, few, used}
use Rattle.sending.proofs.Refused.{refused_by}
use Rattle.sending.proofs.Marked.{remarked, Puts, clear_puts, put_means, put_started}

-- ---- the first of the marks is the rule's nearest
module _ (x : Lent) (i : ℕ) (first : First (marked_at x.marked x.head.place.0) x.head.outstanding i) where
  nearest_is : nearest (meaning x) ≡ i
  unfolding nearest meaning entry
  nearest_is =
      ap lead (map_table unmarked x.head.outstanding (entry x))
      ∙ lead_table x.head.outstanding (λ j. unmarked (entry x j)) i
      (record {
        within = first.within;
        none = λ j l. ap (λ (b : Bool). not (not b)) (first.none j l);
        here = λ l. ap (λ (b : Bool). not (not b)) (first.here l);
      })

  none_is : leb (outstanding (meaning x)) (nearest (meaning x)) ≡ leb x.head.outstanding i
  none_is = ap₂ leb (length_entries x) nearest_is

-- ---- nothing is found: the rule's test passes
none_marked : (x : Lent) → Finds x.marked x.head.place.0 x.head.outstanding None
    → leb (outstanding (meaning x)) (nearest (meaning x)) ≡ true
unfolding Finds
none_marked x first = none_is x x.head.outstanding first ∙ le-leb x.head.outstanding x.head.outstanding (omega arith)

-- ---- a packet number p is found, and its bit cleared
module _ (x : Lent) (h : Started x) (p : Psn) (found : Finds x.marked x.head.place.0 x.head.outstanding (Some p)) where
  some_marked : leb (outstanding (meaning x)) (nearest (meaning x)) ≡ false
  unfolding Finds
  some_marked = none_is x found.0 found.2 ∙ lt-leb x.head.outstanding found.0 found.1

  index_found : (distance (after x.head.place.0 1) p.0 ≡ nearest (meaning x)) × (distance (after x.head.place.0 1) p.0 < x.head.outstanding)
  unfolding Finds
  index_found =
      let a = x.head.place.0 in
      let i = found.0 in
      let inside = found.1 in
      let here : distance (after a 1) (after a (1 + i)) ≡ i = ahead a 1 (1 + i) (omega arith) (omega (arith, few x h)) ∙ omega arith in
      let is : distance (after a 1) p.0 ≡ i = ap (λ (q : Psn). distance (after a 1) q.0) found.3 ∙ here in
      (is ∙ sym (nearest_is x i found.2), omega (arith, is))

  resent_is : p ≡ psn (nth (meaning x) (nearest (meaning x)))
  unfolding Finds meaning
  resent_is = found.3 ∙ ap (λ (i : ℕ). psn (after x.head.place.0 (1 + i))) (sym (nearest_is x found.0 found.2))

  module _ (ws : List ℕ) (cleared : Becomes x.marked ws (without_bit x.marked (bit_of x.head.place.0 p.0))) where
    long : length ws ≡ length x.retired
    long = cleared.long ∙ h.marked_long

    abbrev k : ℕ
    k = distance (after x.head.place.0 1) p.0

    puts : Puts false (offset x + k) x.marked ws
    puts = clear_puts x.marked ws (offset x + k) cleared

    resent_means : meaning (remarked x ws) ≡ with_entries (meaning x) (update (with_mark false) (meaning x).entries (nearest (meaning x)))
    resent_means =
        put_means x h false k index_found.1 ws long (and-false (at x.retired (offset x + k))) puts
        ∙ ap (λ (i : ℕ). with_entries (meaning x) (update (with_mark false) (meaning x).entries i)) index_found.0

    resent_started : Started (remarked x ws)
    resent_started = put_started x h false k index_found.1 ws long (and-false (at x.retired (offset x + k))) puts

-- ---- the event
resend_is : (x : Lent) → Started x → step (meaning x) sending.Resend ≡ cond (leb (outstanding (meaning x)) (nearest (meaning x))) (Refused 9) (resent (meaning x))
unfolding step resend resend_refusals unless
resend_is x h = rw (used x h)

pub resends : (x : Lent) → Started x → (p : Psn) (ws : List ℕ) → Takes x.marked x.head.place.0 x.head.outstanding ws (Some p)
    → Steps x sending.Resend (Ok (answer.Resent p)) x.head x.sizes x.retired ws
unfolding left_after resent sizes_after
resends x h p ws took = record {
  meets = does _ _ (resend_is x h ∙ rw (some_marked x h p took.finds)) (ap (λ (q : Psn). Ok (answer.Resent q)) (resent_is x h p took.finds))
      (resent_means x h p took.finds ws took.marked_are) (inr (resent_started x h p took.finds ws took.marked_are));
  sizes_are = refl;
  retired_long = refl;
  marked_long = took.marked_are.long;
}

-- nothing is found, and the row is the one that was lent
pub resends_none : (x : Lent) → Started x → (ws : List ℕ) → Takes x.marked x.head.place.0 x.head.outstanding ws None → Words x.marked → Words ws
    → Steps x sending.Resend (Err refusal.NothingMarked) x.head x.sizes x.retired ws
unfolding left_after number
resends_none x h ws took small small' =
    let same : x.marked ≡ ws =
    becomes_settled x.marked x.marked ws (at x.marked) small small' (record { long = refl; bits_are = λ p. refl }) took.marked_are in
    subst (Steps x sending.Resend (Err refusal.NothingMarked) x.head x.sizes x.retired) same
    (refused_by x (inr h) sending.Resend _ refusal.NothingMarked (resend_is x h ∙ rw (none_marked x took.finds)) refl)
