-- `event_log::write` meets its contract: each way out by the tests on the way to it. Assumes nothing.
use mathlib.Core.Path.{◌≡◌, sym, ap, ◌∙◌}
use mathlib.Core.Bool.{false}
use mathlib.Core.List.{List, ◌++◌}
use Prim.Native.Nat.{ℕ, ◌≤◌}
use lib.ListN.{length, drop}
use Rattle.std.proofs.Common.{arith}
use Rattle.std.specs.Prelude.{Ok, Err, IsErrAnd}
use Rattle.std.proofs.lemmas.Bool.Decides.{nat_tests}
use Rattle.rules.specs.Numbered.{number}
use Rattle.rules.specs.Kinds.{kind_of, fields_of, layout}
use Rattle.rules.specs.Log.{whole, encode, high_psn, write as write_of, written}
use Rattle.rules.specs.Outcomes.{NotWritten, Length}
use Rattle.rules.specs.Paper.{Wrote, wrote_line, written_line}
use Rattle.rules.specs.declared.Event.{Event}
use Rattle.rules.specs.declared.Refusal.{Refusal}
use Rattle.rules.specs.declared.Refusal.TheVariants.{BadPsn, BufferTooShort}
use Rattle.rules.proofs.Writing.{writable_write}
use Rattle.event_log.specs.Parts.{Writes}
use Rattle.event_log.proofs.write.Goals as goal
use Rattle.event_log.proofs.write.Goals.{After-whole-n}

refused_by : (slot : ℕ) (x : Event) (b : List ℕ) (e f : Refusal) (r : Wrote) → write_of x (length b) ≡ NotWritten (number e) → f ≡ e
    → IsErrAnd r (λ g. g ≡ f) → Writes slot x b r b
unfolding wrote_line written
refused_by slot x b e f (Err g) h same err = record {
  answer_is = ap (λ (k : Refusal). written_line (NotWritten (number k))) (err ∙ same) ∙ sym (ap written_line h);
  bytes_are = sym (ap (written slot x b) h);
}
refused_by slot x b e f (Ok n) h same err = absurd err

whole_is : (c : After-whole-n) → c.whole-n.result ≡ whole (kind_of c.args.event)
whole_is c = c.whole-n.ensures ∙ ap whole c.kind.ensures

pub returns-in_err-unless : goal.returns-in_err-unless
unfolding write_of number
returns-in_err-unless c = refused_by _ _ _ BadPsn _ _ (grind (arith, nat_tests)) (grind (arith, nat_tests)) c.from_residual.ensures.1

pub returns-in_err-unless-2 : goal.returns-in_err-unless-2
unfolding write_of number
returns-in_err-unless-2 c =
    let n_is = whole_is (goal.at.returns-in_err-unless-2 c).After-whole-n in
    refused_by _ _ _ BufferTooShort _ _ (grind (arith, nat_tests)) (grind (arith, nat_tests)) c.from_residual-in_err-unless-2.ensures.1

pub returns : goal.returns
unfolding wrote_line written
returns c =
    let a = c.args in
    let e = a.event in
    let b = a.buffer.now in
    let n_is = whole_is (goal.at.returns c).After-whole-n in
    let room : whole (kind_of e) ≤ length b = grind (arith, nat_tests) in
    let low : high_psn (layout (kind_of e)) (fields_of e) ≡ false = grind (arith, nat_tests) in
    let is : write_of e (length b) ≡ Length c.whole-n.result = writable_write e (length b) (record { low = low; room = room }) ∙ ap Length (sym n_is) in
    record {
      answer_is = sym (ap written_line is);
      bytes_are = c.fill.ensures ∙ ap (λ (n : ℕ). encode a.slot e ++ drop n b) (sym n_is) ∙ sym (ap (written a.slot e b) is);
    }
