-- The lines on paper tell the cases of an answer apart: from a line its answer can be had back. Assumes nothing.
use mathlib.Core.Path.{◌≡◌, refl, sym, ap, ◌∙◌}
use mathlib.Core.Bool.{Bool, true, false, cond}
use mathlib.Core.List.{List, [], ◌∷◌}
use Prim.Native.Nat.{ℕ, zero, suc}
use lib.Dec.{eqb}
use lib.ListN.{length, get_or, drop}
use Rattle.std.specs.Prelude.{Some, None, Ok, Err}
use Rattle.promise.specs.Line.{Line}
use Rattle.promise.specs.Promise as promise
use Rattle.rules.specs.Numbered.{number, refusal, kind_number, kind_of_number}
use Rattle.rules.specs.Numbers.{psn}
use Rattle.rules.specs.Paper.{digit, code, paper, Reply, reply_line, read_line, Found, found, found_line, written_line, Wrote, wrote, wrote_line}
use Rattle.rules.specs.Kinds.{event_of}
use Rattle.rules.specs.declared.Verdict.{Verdict}
use Rattle.rules.specs.declared.Verdict.TheVariants.{Fresh, Known, Beyond, NoBuffer, Trim, TrimLastHop}
use Rattle.rules.specs.declared.Answer.{Answer}
use Rattle.rules.specs.declared.Answer.TheVariants as answer
use Rattle.rules.specs.declared.Refusal.{Refusal}
use Rattle.rules.specs.declared.Refusal.TheVariants as refused
use Rattle.rules.specs.declared.Event.{Event}
use Rattle.rules.specs.declared.Kind.{Kind}
use Rattle.rules.specs.declared.Kind.TheVariants as kind
use Rattle.rules.specs.Outcomes.{Reading, Record, Nothing, Writing, NotWritten, Length}
use Rattle.rules.proofs.EventKinds.{event_again}

-- where each case can be had back from its line, or from its number, two with the same are one
apart : {A B : Type 0} (line : A → B) (back : B → A) → ((x : A) → back (line x) ≡ x) → (x y : A) → line x ≡ line y → x ≡ y
apart line back same x y h = sym (same x) ∙ ap back h ∙ same y

digit_back : (b : Bool) → eqb (digit b) 1 ≡ b
digit_back true = refl
digit_back false = refl

verdict_of : ℕ → Verdict
verdict_of n = get_or (Fresh ∷ Known ∷ Beyond ∷ NoBuffer ∷ Trim ∷ TrimLastHop ∷ []) n Fresh

verdict_back : (v : Verdict) → verdict_of (code v) ≡ v
unfolding verdict_of code
verdict_back Fresh = refl
verdict_back Known = refl
verdict_back Beyond = refl
verdict_back NoBuffer = refl
verdict_back Trim = refl
verdict_back TrimLastHop = refl

pub code_apart : (v w : Verdict) → code v ≡ code w → v ≡ w
code_apart = apart code verdict_of verdict_back

-- ---- answers to events
acked : Line → Answer
acked l =
    let n : ℕ → ℕ = λ i. get_or l.values i 0 in
    answer.Acked (verdict_of (n 0)) (record {
      cack = psn (n 1);
      block = record { base = psn (n 2); bitmap = n 3 };
      count = n 4;
      mpr = get_or l.unprinted 0 0;
      entropy = n 5;
      rtx = eqb (n 6) 1;
      mark = eqb (n 7) 1;
    })

nacked : Line → Answer
nacked l =
    let n : ℕ → ℕ = λ i. get_or l.values i 0 in
    answer.Nacked (verdict_of (n 0)) (record { psn = psn (n 1); reason = get_or l.unprinted 0 0; entropy = n 2; rtx = eqb (n 3) 1 })

answer_of : Line → Answer
answer_of l =
    let n : ℕ → ℕ = λ i. get_or l.values i 0 in
    get_or
    (answer.Started
    ∷ answer.Started
    ∷ answer.Closed
    ∷ answer.Sent (psn (n 0))
    ∷ cond (eqb (length l.values) 8) (acked l) (nacked l)
    ∷ answer.Retired (record { newly = n 0; place = psn (n 1); held = n 2; alarms = n 3 })
    ∷ answer.Marked (n 0)
    ∷ answer.Expired (n 0)
    ∷ answer.Resent (psn (n 0))
    ∷ [])
    l.kind answer.Started

answer_back : (a : Answer) → answer_of (paper a) ≡ a
unfolding answer_of paper acked nacked
answer_back answer.Started = refl
answer_back answer.Closed = refl
answer_back (answer.Sent p) = refl
answer_back (answer.Acked v k) =
    let rtx = digit_back k.rtx in
    let mark = digit_back k.mark in
    λ i. answer.Acked (verdict_back v i) (record {
      cack = k.cack;
      block = k.block;
      count = k.count;
      mpr = k.mpr;
      entropy = k.entropy;
      rtx = rtx i;
      mark = mark i;
    })
answer_back (answer.Nacked v k) =
    let rtx = digit_back k.rtx in
    λ i. answer.Nacked (verdict_back v i) (record { psn = k.psn; reason = k.reason; entropy = k.entropy; rtx = rtx i })
answer_back (answer.Retired k) = refl
answer_back (answer.Marked n) = refl
answer_back (answer.Expired n) = refl
answer_back (answer.Resent p) = refl

-- what is done has a kind
pub answer_kind : (a : Answer) → eqb (paper a).kind 0 ≡ false
unfolding paper
answer_kind answer.Started = refl
answer_kind answer.Closed = refl
answer_kind (answer.Sent p) = refl
answer_kind (answer.Acked v k) = refl
answer_kind (answer.Nacked v k) = refl
answer_kind (answer.Retired k) = refl
answer_kind (answer.Marked n) = refl
answer_kind (answer.Expired n) = refl
answer_kind (answer.Resent p) = refl

pub answers_apart : (x y : Answer) → paper x ≡ paper y → x ≡ y
answers_apart = apart paper answer_of answer_back

-- ---- refusals, and replies to events
-- each has its own number, which is not 0
refusal_found : (e : Refusal) → found (Nothing (number e)) ≡ Err e
unfolding found number refusal
refusal_found refused.NoSuchSlot = refl
refusal_found refused.NotInUse = refl
refusal_found refused.InUse = refl
refusal_found refused.BadRoom = refl
refusal_found refused.BadPsn = refl
refusal_found refused.BadSize = refl
refusal_found refused.RoomFull = refl
refusal_found refused.NeverSent = refl
refusal_found refused.NothingMarked = refl
refusal_found refused.CutShort = refl
refusal_found refused.NoMark = refl
refusal_found refused.UnknownKind = refl
refusal_found refused.LogTooLong = refl
refusal_found refused.BadFlags = refl
refusal_found refused.BadReason = refl
refusal_found refused.BufferTooShort = refl
refusal_found refused.Contradiction = refl

of_found : {e : Refusal} (n : ℕ) → found (Nothing n) ≡ Err e → refusal n ≡ e
unfolding found
of_found zero h = cc
of_found (suc n) h = cc

pub refusal_back : (e : Refusal) → refusal (number e) ≡ e
refusal_back e = of_found (number e) (refusal_found e)

reply_of : Line → Reply
reply_of l = cond (eqb l.kind 0) (Err (refusal l.number)) (Ok (answer_of l))

reply_back : (r : Reply) → reply_of (reply_line r) ≡ r
unfolding promise.told reply_of
reply_back (Err e) = ap Err (refusal_back e)
reply_back (Ok a) = rw (answer_kind a) (ap Ok (answer_back a))

pub replies_apart : (x y : Reply) → reply_line x ≡ reply_line y → x ≡ y
replies_apart = apart reply_line reply_of reply_back

-- ---- kinds
pub kind_back : (k : Kind) → kind_of_number (kind_number k) ≡ k
unfolding kind_of_number kind_number
kind_back kind.Start = refl
kind_back kind.Close = refl
kind_back kind.Send = refl
kind_back kind.Arrive = refl
kind_back kind.Sack = refl
kind_back kind.Nack = refl
kind_back kind.Timer = refl
kind_back kind.Resend = refl

-- ---- answers of the log's reader
no_values : List ℕ → Bool
no_values [] = true
no_values (v ∷ l) = false

read_of : Line → Reading
read_of l =
    let n : ℕ → ℕ = λ i. get_or l.values i 0 in
    cond (no_values l.values) (Nothing l.number) (Record (n 2) (event_of (n 0) (drop 3 l.values)) l.kind (n 1))

read_back : (r : Reading) → read_of (read_line r) ≡ r
unfolding read_of read_line no_values
read_back (Record slot e kind next) = ap (λ (f : Event). Record slot f kind next) (event_again e)
read_back (Nothing n) = refl

pub reads_apart : (x y : Reading) → read_line x ≡ read_line y → x ≡ y
reads_apart = apart read_line read_of read_back

-- what the code makes of them: it is the rule's where it has the rule's line
found_back : (x : Found) → found (read_of (found_line x)) ≡ x
unfolding found found_line read_of read_line no_values
found_back (Ok (Some r)) = rw (event_again r.event, kind_back r.kind)
found_back (Ok None) = refl
found_back (Err e) = refusal_found e

pub finds_apart : (x y : Found) → found_line x ≡ found_line y → x ≡ y
finds_apart = apart found_line (λ l. found (read_of l)) found_back

pub found_is_rule : (r : Reading) (x : Found) → found_line x ≡ read_line r → x ≡ found r
found_is_rule r x h = sym (found_back x) ∙ ap (λ (l : Line). found (read_of l)) h ∙ ap found (read_back r)

-- ---- answers of the log's writer
written_of : Line → Writing
written_of l = cond (no_values l.values) (NotWritten l.number) (Length (get_or l.values 0 0))

written_back : (w : Writing) → written_of (written_line w) ≡ w
unfolding written_of written_line no_values
written_back (NotWritten n) = refl
written_back (Length n) = refl

pub writes_apart : (x y : Writing) → written_line x ≡ written_line y → x ≡ y
writes_apart = apart written_line written_of written_back

wrote_back : (w : Wrote) → wrote (written_of (wrote_line w)) ≡ w
unfolding wrote wrote_line written_of written_line no_values
wrote_back (Ok n) = refl
wrote_back (Err e) = ap Err (refusal_back e)

pub wrotes_apart : (x y : Wrote) → wrote_line x ≡ wrote_line y → x ≡ y
wrotes_apart = apart wrote_line (λ l. wrote (written_of l)) wrote_back

pub wrote_is_rule : (w : Writing) (r : Wrote) → wrote_line r ≡ written_line w → r ≡ wrote w
wrote_is_rule w r h = sym (wrote_back r) ∙ ap (λ (l : Line). wrote (written_of l)) h ∙ ap wrote (written_back w)
