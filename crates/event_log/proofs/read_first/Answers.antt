-- `event_log::read_first` meets its contract: each way out by the tests on the way to it. Assumes nothing.
use mathlib.Core.Path.{◌≡◌, sym, ap, ap₂, ◌∙◌}
use mathlib.Core.List.{List, [], ◌∷◌}
use Prim.Native.Nat.{ℕ, ◌+◌, ◌≤◌}
use lib.Dec.{eqb}
use lib.ListN.{length, get_or, drop}
use Rattle.std.proofs.Common.{arith}
use Rattle.std.specs.List.{starts_with}
use Rattle.std.specs.Prelude.{Result, Ok, Err, IsErrAnd}
use Rattle.std.proofs.lemmas.Bool.Decides.{nat_tests}
use Rattle.fields.specs.Fields.{decode}
use Rattle.rules.specs.Numbers.{record_head}
use Rattle.rules.specs.Numbered.{number, kind_number}
use Rattle.rules.specs.Kinds.{widths, event_of}
use Rattle.rules.specs.Log.{whole, has_mark, read_left}
use Rattle.rules.specs.Outcomes.{Reading, Record as AtPlace, Nothing}
use Rattle.rules.specs.Paper.{found_line, read_line}
use Rattle.rules.specs.declared.Event.{Event}
use Rattle.rules.specs.declared.Record.{Record}
use Rattle.rules.specs.declared.Refusal.{Refusal}
use Rattle.rules.specs.declared.Refusal.TheVariants.{CutShort, NoMark, UnknownKind}
use Rattle.rules.proofs.Tried.{kind_known}
use Rattle.kinds.proofs.Padded.{event_padded}
use Rattle.event_log.specs.Parts.{ReadsFirst}
use Rattle.event_log.proofs.read_first.Goals as goal

refused_by : (l : List ℕ) (place : ℕ) (e f : Refusal) (r : Result Record Refusal) → read_left l place ≡ Nothing (number e) → f ≡ e
    → IsErrAnd r (λ g. g ≡ f) → ReadsFirst l place r
unfolding ReadsFirst found_line
refused_by l place e f (Err g) h same err = ap (λ (k : Refusal). read_line (Nothing (number k))) (err ∙ same) ∙ sym (ap read_line h)
refused_by l place e f (Ok x) h same err = absurd err

marked : (l : List ℕ) → 3 ≤ length l → starts_with eqb l (0x4D ∷ 0x52 ∷ []) ≡ has_mark l
marked [] h = absurd (omega arith)
marked (a ∷ []) h = absurd (omega arith)
marked (a ∷ b ∷ l) h = grind (arith, nat_tests)

-- the record of a kind that the bytes r begin with
abbrev first : List ℕ → ℕ → ℕ → Reading
first r k place = AtPlace (get_or r 3 0) (event_of k (decode (widths k) (drop record_head r))) k (place + whole k)

pub returns-in_err-unless : goal.returns-in_err-unless
unfolding read_left number
returns-in_err-unless c = refused_by _ _ CutShort _ _ (grind (arith, nat_tests)) (grind (arith, nat_tests)) c.from_residual.ensures.1

pub returns-in_err-unless-2 : goal.returns-in_err-unless-2
unfolding read_left number
returns-in_err-unless-2 c =
    let m = marked c.args.r.now (grind (arith, nat_tests)) in
    refused_by _ _ NoMark _ _ (grind (arith, nat_tests)) (grind (arith, nat_tests)) c.from_residual-in_err-unless-2.ensures.1

pub returns-in_err-kind : goal.returns-in_err-kind
unfolding read_left number
returns-in_err-kind c =
    let m = marked c.args.r.now (grind (arith, nat_tests)) in
    refused_by _ _ UnknownKind _ _ (grind (arith, nat_tests)) (grind (arith, nat_tests)) c.from_residual-in_err-kind.ensures.1

pub returns-in_err-unless-3 : goal.returns-in_err-unless-3
unfolding read_left number
returns-in_err-unless-3 c =
    let m = marked c.args.r.now (grind (arith, nat_tests)) in
    let k = kind_known _ _ c.in_ok-kind.ensures in
    refused_by _ _ CutShort _ _ (grind (arith, nat_tests)) (grind (arith, nat_tests)) c.from_residual-in_err-unless-3.ensures.1

pub returns : goal.returns
unfolding read_left ReadsFirst found_line
returns c =
    let a = c.args in
    let r = a.r.now in
    let t = drop record_head r in
    let n = kind_number c.in_ok-kind.kind in
    let k = kind_known (get_or r 2 0) c.in_ok-kind.kind c.in_ok-kind.ensures in
    let e : c.event.result ≡ event_of n (decode (widths n) t) =
    c.event.ensures ∙ ap (event_of n) c.values.ensures.values_are ∙ event_padded n (decode (widths n) t) in
    let m = marked r (grind (arith, nat_tests)) in
    let passed : read_left r a.place ≡ first r (get_or r 2 0) a.place = grind (arith, nat_tests) in
    ap read_line
    (ap₂ (λ (x : Event) (m : ℕ). AtPlace (get_or r 3 0) x n (a.place + m)) e c.whole-n.ensures
    ∙ ap (λ (m : ℕ). first r m a.place) k.1 ∙ sym passed)
