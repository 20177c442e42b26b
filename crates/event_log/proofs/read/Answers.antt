-- `event_log::read` meets its contract: the tests of the log, and then what is left of it. Assumes nothing.
use borrow.Author.Tests.{le-ltb, lt-leb}
use mathlib.Core.Path.{◌≡◌, ap, ◌∙◌}
use mathlib.Core.List.{List}
use Prim.Native.Nat.{ℕ, ◌-◌, ◌≤◌, ◌<◌}
use lib.ListN.{length, take, drop}
use Rattle.std.proofs.Common.{arith}
use Rattle.std.specs.Prelude.{Ok, Err, IsErrAnd}
use Rattle.std.proofs.lemmas.Bool.Decides.{nat_tests}
use Rattle.rules.specs.Numbers.{longest_log}
use Rattle.rules.specs.Numbered.{number}
use Rattle.rules.specs.Outcomes.{Nothing}
use Rattle.rules.specs.Paper.{Found, found_line, read_line}
use Rattle.rules.specs.Log.{read_left, read as read_of}
use Rattle.rules.specs.declared.Refusal.{Refusal}
use Rattle.rules.specs.declared.Refusal.TheVariants.{LogTooLong}
use Rattle.event_log.specs.Parts.{ReadsFirst, Reads}
use Rattle.event_log.proofs.Rests.{rest}
use Rattle.event_log.proofs.read.Goals as goal

-- within a log that is not too long, what is left is read
within : (log : List ℕ) (place : ℕ) → length log ≤ longest_log → place < length log
    → read_left (take (length log - place) (drop place log)) place ≡ read_of log place
unfolding read_of
within log place a b =
    ap (λ (r : List ℕ). read_left r place) (rest log place) ∙ simp (le-ltb longest_log (length log) a, lt-leb (length log) place b)

refused_by : (log : List ℕ) (place : ℕ) (f : Refusal) (r : Found) → read_line (Nothing (number f)) ≡ read_line (read_of log place)
    → IsErrAnd r (λ g. g ≡ f) → Reads log place r
unfolding found_line
refused_by log place f (Err g) h err = ap (λ (k : Refusal). read_line (Nothing (number k))) err ∙ h
refused_by log place f (Ok x) h err = absurd err

pub returns-in_err-unless : goal.returns-in_err-unless
unfolding read_of number
returns-in_err-unless c =
    let same : c.in_err-unless.field-0.0 ≡ LogTooLong = grind (arith, nat_tests) in
    let long : Nothing 13 ≡ read_of c.args.log.now c.args.place = grind (arith, nat_tests) in
    refused_by c.args.log.now c.args.place c.in_err-unless.field-0.0 _ (rw same (ap read_line long)) c.from_residual.ensures.1

pub returns-then-log-place : goal.returns-then-log-place
unfolding read_of found_line
returns-then-log-place c = grind (arith, nat_tests)

pub returns-in_err-read_first : goal.returns-in_err-read_first
unfolding ReadsFirst found_line
returns-in_err-read_first c =
    let a = c.args in
    let w = within a.log.now a.place (grind (arith, nat_tests)) (grind (arith, nat_tests)) in
    refused_by _ _ _ _ (c.in_err-read_first.ensures ∙ ap read_line w) c.from_residual-in_err-read_first.ensures.1

pub returns : goal.returns
unfolding ReadsFirst
returns c =
    let a = c.args in
    let w = within a.log.now a.place (grind (arith, nat_tests)) (grind (arith, nat_tests)) in
    c.in_ok-read_first.ensures ∙ ap read_line w
