-- A fresh packet is accepted: what setting its bit, the run of set bits and shedding whole words mean for the bits from E on. Assumes
-- nothing.
use Rattle.std.proofs.Common.{◌≡◌, ℕ, ◌+◌, ◌-◌, ◌*◌, ◌/◌, ◌%◌, ◌<◌, ◌≤◌, Bool, true, false, cond, ◌&&◌, ◌||◌, eqb, ltb, List, set, sym, refl, ap, ◌∙◌, subst, ap₂, arith, lt-ltb, eq-eqb, ne_eqb}
use mathlib.Core.Bool.{or-true, or-false}
use native.Mathlib.Decide.{ℕ_discrete}
use borrow.Author.Tests.{not-false}
use Rattle.psn.specs.declared.Psn.{Psn}
use Rattle.psn.proofs.Circle.{after_lt}
use Rattle.lists.specs.Index.{First, table}
use Rattle.lists.proofs.Index.{set_table, table_same}
use Rattle.row.proofs.Rows.{run_from, run_stops}
use Rattle.row.specs.Row.{at, bits, Becomes, with_bit, is_clear}
use Rattle.rules.specs.Numbers.{turn, after, distance}
use Rattle.lists.specs.Lists.{lead, slide}
use Rattle.rules.specs.Receiver.{accept}
use Rattle.rules.specs.declared.Arrival.{Arrival}
use Rattle.receiving.specs.Lent.{Lent, lent, offset, accepted, meaning, Started}
use Rattle.lists.proofs.Index.{first_from}
use Rattle.lists.proofs.Tables.{lead_table, slide_table}

-- E moves on with the bit that it has in its block
moved : (e s t : ℕ) → s ≡ e % 64 → s ≤ t → after e (t - s) % 64 ≡ t % 64
unfolding after
moved e s t h l = omega arith

-- the packet at distance d is set in us
module _ (x : Lent) (h : Started x) (d : ℕ) (l : d < x.head.room)
    (us : List ℕ) (put : Becomes x.words us (with_bit x.words (offset x + d))) where
  pub us_before : (p : ℕ) → p < offset x → at us p ≡ true
  us_before p k = put.bits_are p ∙ ap (λ (b : Bool). b || (eqb p (offset x + d) && ltb p (bits x.words))) (h.before p k)

  us_past : (p : ℕ) → offset x + x.head.room ≤ p → at us p ≡ false
  us_past p k =
      put.bits_are p
      ∙ ap₂ (λ (b c : Bool). b || (c && ltb p (bits x.words))) (h.past p k) (ne_eqb p (offset x + d) (λ e. omega arith))

  us_entry : (o : ℕ) → o < x.head.room → at us (offset x + o) ≡ cond (eqb o d) true (accepted x o)
  us_entry o k = put.bits_are (offset x + o) ∙ pick (ℕ_discrete o d)
    where
      pick : Dec (o ≡ d) → with_bit x.words (offset x + d) (offset x + o) ≡ cond (eqb o d) true (accepted x o)
      pick (yes e) =
          rw (eq-eqb o d e, eq-eqb (offset x + o) (offset x + d) (omega arith), lt-ltb (offset x + o) (bits x.words) (omega (arith, h.enough)))
          (or-true (accepted x o))
      pick (no n) = rw (ne_eqb o d n, ne_eqb (offset x + o) (offset x + d) (λ e. n (omega arith))) (or-false (accepted x o))

  -- E itself is accepted where its own packet came
  pub us_own : at us (offset x) ≡ eqb d 0
  us_own = elim (ℕ_discrete d 0) [
    | yes e ↦ entry ∙ rw (eq-eqb 0 d (sym e), eq-eqb d 0 e)
    | no n ↦ entry ∙ rw (ne_eqb 0 d (λ e. n (sym e)), ne_eqb d 0 n) (ap (at x.words) (omega arith) ∙ h.expected_open)
  ]
    where
      entry : at us (offset x) ≡ cond (eqb 0 d) true (accepted x 0)
      entry = ap (at us) (omega arith) ∙ us_entry 0 (omega arith)

  -- t is the lowest clear bit
  module _ (t : ℕ) (run : First (is_clear us) (offset x + x.head.room) t) where
    pub past_offset : offset x ≤ t
    past_offset = run_from us (offset x) (offset x + x.head.room) t run (omega arith) us_before

    us_open : at us t ≡ false
    us_open = run_stops us (offset x + x.head.room) t run us_past

    -- the whole words below it go
    module _ (vs : List ℕ) (shed : Becomes us vs (λ p. at us (64 * (t / 64) + p)))
        (e : Psn) (e_is : e.0 ≡ after x.head.expected.0 (t - offset x)) where
      abbrev y : Lent
      y = lent (record { room = x.head.room; expected = e; count = x.head.count }) vs

      offset_is : offset y ≡ t % 64
      offset_is = ap (λ (m : ℕ). m % 64) e_is ∙ moved x.head.expected.0 (offset x) t refl past_offset

      vs_at : (i : ℕ) → at vs (offset y + i) ≡ at us (t + i)
      vs_at i = shed.bits_are (offset y + i) ∙ ap (at us) (omega (arith, offset_is))

      pub accept_started : Started y
      accept_started = record {
        room_good = h.room_good;
        expected_low = subst (λ (m : ℕ). m < turn) (sym e_is) (after_lt x.head.expected.0 (t - offset x));
        enough = omega (arith, h.enough, put.long, shed.long);
        before = λ p k. shed.bits_are p ∙ not-false (at us (64 * (t / 64) + p)) (run.none (64 * (t / 64) + p) (omega (arith, offset_is)));
        expected_open = shed.bits_are (offset y) ∙ ap (at us) (omega (arith, offset_is)) ∙ us_open;
        past = λ p k. shed.bits_are p ∙ us_past (64 * (t / 64) + p) (omega (arith, offset_is, past_offset));
      }

      pub accept_means : (a : Arrival) → d ≡ distance x.head.expected.0 a.psn.0 → meaning y ≡ accept (meaning x) a
      unfolding meaning accept
      accept_means a d_is =
          let room = x.head.room in
          let m = t - offset x in
          let f : ℕ → Bool = λ o. at us (offset x + o) in
          let w = set (table room (accepted x)) (distance x.head.expected.0 a.psn.0) true in
          let w_is : w ≡ table room f =
          ap (λ (i : ℕ). set (table room (accepted x)) i true) (sym d_is) ∙ set_table room (accepted x) d true
          ∙ table_same room _ f (λ o k. sym (us_entry o k)) in
          let lead_is : lead w ≡ m = ap lead w_is ∙ lead_table room f m (first_from (is_clear us) (offset x) room t run past_offset) in
          let window_is : table room (accepted y) ≡ slide (lead w) w =
          table_same room (accepted y) (λ i. f (m + i)) (λ i k. vs_at i ∙ ap (at us) (omega (arith, past_offset)))
          ∙ sym (slide_table room f m (omega (arith, run.within)) (λ i k. us_past (offset x + i) (omega arith)))
          ∙ ap₂ slide (sym lead_is) (sym w_is) in
          λ i. record { expected = (e_is ∙ ap (after x.head.expected.0) (sym lead_is)) i; window = window_is i; count = x.head.count }
