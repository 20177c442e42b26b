-- A start that is refused leaves the record. A sender that was just started: the bits below place + 1's are retired, and no other bit is
-- set. Assumes nothing.
use mathlib.Core.Path.{◌≡◌, refl, sym, ap, ◌∙◌, subst}
use mathlib.Core.Bool.{Bool, true, ◌&&◌, and-false}
use mathlib.Core.List.{[]}
use Prim.Native.Nat.{ℕ, ◌+◌, ◌-◌, ◌%◌}
use native.Mathlib.Omega.{arith}
use lib.Dec.{ltb}
use lib.ListN.{length, set, replicate, length-set, length-replicate}
use borrow.Author.Tests.{lt-ltb, le-ltb}
use Rattle.std.specs.Prelude.{Err}
use Rattle.promise.specs.Outcome.{Outcome, Refused}
use Rattle.promise.specs.Promise.{told}
use Rattle.promise.proofs.Meeting.{refuses}
use Rattle.psn.specs.declared.Psn.{Psn}
use Rattle.psn.specs.Psn.{turn, after}
use Rattle.lists.specs.Index.{total, table}
use Rattle.word.specs.Word.{Bits}
use Rattle.row.specs.Row.{at, Row}
use Rattle.row.proofs.Rows.{row_set, at_zeros}
use Rattle.rules.specs.Numbers.{room_ok, largest_room, words}
use Rattle.rules.specs.Numbered.{number}
use Rattle.rules.specs.Paper.{Reply}
use Rattle.rules.specs.Sender.{fresh}
use Rattle.rules.specs.Sender as rule
use Rattle.rules.specs.declared.Answer.{Answer}
use Rattle.rules.specs.declared.Refusal.{Refusal}
use Rattle.rules.proofs.Allowed.{room_numbers}
use Rattle.sending.specs.Lent.{Lent, lent, meaning, Started}
use Rattle.sender.specs.declared.Sender.{Sender}
use Rattle.sender.specs.Record.{Sound, Steps}

-- the rule refuses a start, and so does the code
pub refused_by : (o : Outcome Answer rule.Sender) (r : Reply) (why : Refusal) (x : Sender) → Sound x → o ≡ Refused (number why) → r ≡ Err why
    → Steps x o r x
unfolding told
refused_by o r why x sound rule said = subst (λ (q : Reply). Steps x o q x) (sym said) (refuses (number why) rule refl refl sound)

-- the bit of the first packet number is that of the place before it and 1
first_bit : (first : ℕ) → (after first (turn - 1) + 1) % 64 ≡ first % 64
unfolding after
first_bit first = omega arith

module _ (room first : ℕ) (place : Psn) (w : ℕ)
    (good : room_ok room ≡ true) (place_is : place.0 ≡ after first (turn - 1)) (low : Bits w (λ i. ltb i (first % 64))) where
  abbrev pub begun : Lent
  begun =
      lent (record { room = room; place = place; outstanding = 0; held = 0 }) (replicate largest_room 0) (set (replicate words 0) 0 w) (replicate words 0)

  long : length begun.retired ≡ words
  long = length-set (replicate {A = ℕ} words 0) 0 w ∙ length-replicate {A = ℕ} words 0

  offset_is : (place.0 + 1) % 64 ≡ first % 64
  offset_is = ap (λ (n : ℕ). (n + 1) % 64) place_is ∙ first_bit first

  low_at : Row (set (replicate words 0) 0 w) (λ p. ltb p (first % 64))
  low_at =
      row_set (replicate words 0) 0 w (λ p. ltb p (first % 64)) (omega (arith, length-replicate {A = ℕ} words 0))
      (λ b h. low b h ∙ ap (λ (p : ℕ). ltb p (first % 64)) (omega arith))
      (λ p n. at_zeros words p ∙ sym (le-ltb p (first % 64) (omega (arith, n))))

  pub begun_means : meaning begun ≡ fresh room first
  unfolding meaning fresh table
  begun_means = λ i. record { room = room; place = place_is i; entries = [] }

  pub begun_started : Started begun
  unfolding after total
  begun_started = record {
    room_good = good;
    place_low = omega (arith, place_is);
    room_left = omega arith;
    sizes_long = length-replicate {A = ℕ} largest_room 0;
    enough = omega (arith, long, (room_numbers room good).most);
    most = omega (arith, long);
    marked_long = length-replicate {A = ℕ} words 0 ∙ sym long;
    before = λ p l. low_at p ∙ lt-ltb p (first % 64) (omega (arith, offset_is));
    first_open = low_at ((place.0 + 1) % 64) ∙ le-ltb ((place.0 + 1) % 64) (first % 64) (omega (arith, offset_is));
    unsent = λ p l. low_at p ∙ le-ltb p (first % 64) (omega (arith, offset_is));
    not_both = λ p. ap (λ (b : Bool). at (set (replicate words 0) 0 w) p && b) (at_zeros words p) ∙ and-false (at (set (replicate words 0) 0 w) p);
    mark_unsent = λ p l. at_zeros words p;
    sizes_good = λ i l. absurd (omega arith);
    held_is = refl;
  }
