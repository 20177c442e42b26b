-- A start that is refused leaves the record. The first record: nothing from E on is accepted, and all before E in its block of 64 is. Assumes nothing.
use mathlib.Core.Path.{◌≡◌, refl, sym, ap, ◌∙◌, subst}
use mathlib.Core.Bool.{true, false}
use Prim.Native.Nat.{ℕ, ◌+◌, ◌%◌, ◌≤◌, ◌<◌}
use native.Mathlib.Omega.{arith}
use lib.Dec.{ltb}
use lib.ListN.{set, replicate, length-replicate}
use borrow.Author.Tests.{lt-ltb, le-ltb}
use Rattle.std.specs.Prelude.{Err}
use Rattle.promise.specs.Outcome.{Outcome, Refused}
use Rattle.promise.specs.Promise.{told}
use Rattle.promise.proofs.Meeting.{refuses}
use Rattle.psn.specs.declared.Psn.{Psn}
use Rattle.word.specs.Word.{Bits}
use Rattle.lists.proofs.Index.{is_table}
use Rattle.row.specs.Row.{at, Row}
use Rattle.row.proofs.Rows.{row_set, at_zeros}
use Rattle.rules.specs.Numbers.{turn, room_ok, words}
use Rattle.rules.specs.Receiver.{fresh}
use Rattle.rules.specs.Receiver as rule
use Rattle.rules.specs.Numbered.{number}
use Rattle.rules.specs.Paper.{Reply}
use Rattle.rules.specs.declared.Answer.{Answer}
use Rattle.rules.specs.declared.Refusal.{Refusal}
use Rattle.lists.proofs.Lists.{get_or_alike}
use Rattle.rules.proofs.Allowed.{room_numbers}
use Rattle.receiving.specs.Lent.{Lent, lent, offset, accepted, meaning, Started}
use Rattle.receiver.specs.declared.Receiver.{Receiver}
use Rattle.receiver.specs.Record.{Sound, Steps}

-- the rule refuses a start, and so does the code
pub refused_by : (o : Outcome Answer rule.Receiver) (r : Reply) (why : Refusal) (x : Receiver) → Sound x → o ≡ Refused (number why) → r ≡ Err why
    → Steps x o r x
unfolding told
refused_by o r why x sound rule said = subst (λ (q : Reply). Steps x o q x) (sym said) (refuses (number why) rule refl refl sound)

module _ (room : ℕ) (first : Psn) (w : ℕ) (good : room_ok room ≡ true) (low : first.0 < turn) (bits : Bits w (λ i. ltb i (first.0 % 64))) where
  abbrev y : Lent
  y = lent (record { room = room; expected = first; count = 0 }) (set (replicate words 0) 0 w)

  first_row : Row y.words (λ p. ltb p (offset y))
  first_row =
      row_set (replicate words 0) 0 w (λ p. ltb p (offset y)) (omega arith) (λ b k. bits b k ∙ ap (λ (p : ℕ). ltb p (offset y)) (omega arith))
      (λ p n. at_zeros words p ∙ sym (le-ltb p (offset y) (omega arith)))

  none_accepted : (p : ℕ) → offset y ≤ p → at y.words p ≡ false
  none_accepted p h = first_row p ∙ le-ltb p (offset y) h

  pub first_started : Started y
  first_started = record {
    room_good = good;
    expected_low = low;
    enough = omega (arith, room_numbers room good);
    before = λ p h. first_row p ∙ lt-ltb p (offset y) h;
    expected_open = none_accepted (offset y) (omega arith);
    past = λ p h. none_accepted p (omega arith);
  }

  pub first_means : meaning y ≡ fresh room first.0
  unfolding meaning fresh
  first_means =
      let none = is_table (replicate room false) room (accepted y) false (length-replicate room false)
      (λ i h. get_or_alike false room i ∙ sym (none_accepted (offset y + i) (omega arith))) in
      λ i. record { expected = first.0; window = sym none i; count = 0 }
