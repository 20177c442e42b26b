-- A call's number is that of the first of its refusals whose test passes, and 0 where none does. Assumes nothing.
use mathlib.Core.Path.{◌≡◌, refl, sym, ap, ◌∙◌}
use mathlib.Core.Bool.{Bool, true, false, not, cond}
use mathlib.Core.List.{List, [], ◌∷◌, ◌++◌, map}
use mathlib.Core.Logic.{◌≢◌, inl, inr}
use Prim.Native.Nat.{ℕ}
use lib.Dec.{leb, ltb}
use lib.ListN.{length, get_or, drop}
use Rattle.lists.specs.Lists.{update}
use Rattle.promise.specs.Outcome.{Outcome, Refused, Done, Refusals, unless, first_of, on_paper, within}
use Rattle.promise.proofs.Refusing.{unless_both, refused_or, first_refuses}
use Rattle.promise.proofs.Outcomes.{unless_within}
use Rattle.rules.specs.Numbers.{longest_log}
use Rattle.rules.specs.Receiver.{Receiver, verdict, acked, judged}
use Rattle.rules.specs.Receiving as receiving
use Rattle.rules.specs.Sender.{Sender, index, with_entries, sent}
use Rattle.rules.specs.Retire.{report, acknowledged}
use Rattle.rules.specs.Marks.{markable, with_mark, mark, nacked, resent}
use Rattle.rules.specs.Sending as sending
use Rattle.rules.specs.Connection.{Connection, start, start_refusals, close, close_refusals, step, with_sender, with_receiver, fresh, empty}
use Rattle.rules.specs.Table.{at, taken_refusals, in_slot, on_refusals, on}
use Rattle.rules.specs.Kinds.{kind_of, fields_of, layout, kind_ok}
use Rattle.rules.specs.Paper.{paper, read_line, written_line}
use Rattle.rules.specs.Log.{whole, has_mark, high_psn, read_left, read, write, written}
use Rattle.rules.specs.Refusals.{use_refusals, event_refusals, read_refusals, write_refusals}
use Rattle.rules.specs.declared.Arrival.{Arrival}
use Rattle.rules.specs.declared.Verdict.{Verdict}
use Rattle.rules.specs.declared.Verdict.TheVariants.{Fresh, Known, Beyond, NoBuffer, Trim, TrimLastHop}
use Rattle.rules.specs.declared.Answer.{Answer}
use Rattle.rules.specs.declared.Answer.TheVariants as answer
use Rattle.rules.specs.declared.Sending.{Sending}
use Rattle.rules.specs.declared.Sending.TheVariants as sending_of
use Rattle.rules.specs.declared.Use.{Use}
use Rattle.rules.specs.declared.Use.TheVariants as use-of
use Rattle.rules.specs.declared.Event.{Event}
use Rattle.rules.specs.declared.Event.TheVariants as event
use Rattle.rules.specs.Outcomes.{Record, Nothing, Writing, NotWritten, Length}

-- ---- what is done where nothing refuses: its answer is no refusal
pub record Does {S : Type 0} (o : Outcome Answer S) : Type 0 where
  pub state : S
  pub said : Answer
  pub is : o ≡ Done state said
  pub none : (paper said).number ≡ 0

does : {S : Type 0} (y : S) (a : Answer) → (paper a).number ≡ 0 → Does (Done y a)
does y a n = record { state = y; said = a; is = refl; none = n }

does_either : {S : Type 0} (b : Bool) (o q : Outcome Answer S) → Does o → Does q → Does (cond b o q)
does_either true o q d e = d
does_either false o q d e = e

does_within : {S T : Type 0} (f : S → T) (o : Outcome Answer S) → Does o → Does (within f o)
unfolding within
does_within f o d = record { state = f d.state; said = d.said; is = ap (within f) d.is; none = d.none }

-- ---- an outcome by its list of refusals
pub record Splits {S : Type 0} (l : Refusals) (o : Outcome Answer S) : Type 0 where
  pub otherwise : Outcome Answer S
  pub by_list : o ≡ unless l otherwise
  pub done : Does otherwise

splits : {S : Type 0} (l : Refusals) (o : Outcome Answer S) → Does o → Splits l (unless l o)
splits l o d = record { otherwise = o; by_list = refl; done = d }

splits_within : {S T : Type 0} (f : S → T) (l : Refusals) (o : Outcome Answer S) → Splits l o → Splits l (within f o)
splits_within f l o s = record {
  otherwise = within f s.otherwise;
  by_list = ap (within f) s.by_list ∙ sym (unless_within f l s.otherwise);
  done = does_within f s.otherwise s.done;
}

splits_before : {S : Type 0} (l m : Refusals) (o : Outcome Answer S) → Splits m o → Splits (l ++ m) (unless l o)
splits_before l m o s = record {
  otherwise = s.otherwise;
  by_list = ap (unless l) s.by_list ∙ sym (unless_both l m s.otherwise);
  done = s.done;
}

-- ---- each event
judged_done : (r : Receiver) (a : Arrival) (v : Verdict) → Does (judged r a v)
unfolding judged acked paper
judged_done r a Fresh = does _ _ refl
judged_done r a Known = does _ _ refl
judged_done r a Beyond = does _ _ refl
judged_done r a NoBuffer = does _ _ refl
judged_done r a Trim = does _ _ refl
judged_done r a TrimLastHop = does _ _ refl

mark_done : (tell : ℕ → Answer) → ((n : ℕ) → (paper (tell n)).number ≡ 0) → (x : Sender) (p : ℕ) → Does (mark tell x p)
unfolding mark
mark_done tell none x p =
    does_either (get_or (map markable x.entries) (index x p) false)
    (Done (with_entries x (update (with_mark true) x.entries (index x p))) (tell 1)) (Done x (tell 0))
    (does _ (tell 1) (none 1)) (does _ (tell 0) (none 0))

nacked_done : (x : Sender) (p reason : ℕ) → Does (nacked x p reason)
unfolding nacked paper
nacked_done x p reason =
    does_either (leb reason 4) (mark answer.Marked x p) (Done x (answer.Marked 0)) (mark_done answer.Marked (λ n. refl) x p) (does _ _ refl)

pub sending_splits : (x : Sender) (e : Sending) → Splits (sending.step_refusals x e) (sending.step x e)
unfolding sending.step_refusals sending.step sending.send sending.sack sending.nack sending.timer sending.resend sent acknowledged report resent paper
sending_splits x (sending_of.Send size) = splits (sending.send_refusals x size) _ (does _ _ refl)
sending_splits x (sending_of.Sack cack b) = splits (sending.sack_refusals x cack b) _ (does _ _ refl)
sending_splits x (sending_of.Nack p reason) = splits (sending.nack_refusals x p reason) _ (nacked_done x p.0 reason)
sending_splits x (sending_of.Timer p) = splits (sending.timer_refusals x p) _ (mark_done answer.Expired (λ n. refl) x p.0)
sending_splits x sending_of.Resend = splits (sending.resend_refusals x) _ (does _ _ refl)

step_splits : (c : Connection) (u : Use) → Splits (use_refusals c u) (step c u)
unfolding use_refusals step close receiving.step receiving.arrive paper
step_splits c use-of.Close = splits (close_refusals c) _ (does empty answer.Closed refl)
step_splits c (use-of.Sends e) = splits_within (with_sender c) _ _ (sending_splits c.sender e)
step_splits c (use-of.Receives a) =
    splits_within (with_receiver c) _ _ (splits (receiving.arrive_refusals c.receiver a) _ (judged_done c.receiver a (verdict c.receiver a)))

pub event_splits : (t : List Connection) (slot : ℕ) (e : Event) → Splits (event_refusals t slot e) (on t slot e)
unfolding event_refusals on in_slot start paper
event_splits t slot (event.Start s) =
    let c = at t slot in
    let starts = splits (start_refusals s) _ (does (fresh s) answer.Started refl) in
    splits_before (on_refusals t slot) _ _ (splits_within _ _ _ (splits_before (taken_refusals c) _ _ starts))
event_splits t slot (event.Use u) =
    let c = at t slot in
    splits_before (on_refusals t slot) _ _ (splits_within _ _ _ (step_splits c u))

-- ---- what follows of an outcome by its list
module _ {S : Type 0} {l : Refusals} {o : Outcome Answer S} (s : Splits l o) where
  none_said : (on_paper paper s.otherwise).number ≡ 0
  unfolding on_paper
  none_said = ap (λ (q : Outcome Answer S). (on_paper paper q).number) s.done.is ∙ s.done.none

  -- its number on paper
  pub number_first : (on_paper paper o).number ≡ first_of l
  number_first = ap (λ (q : Outcome Answer S). (on_paper paper q).number) s.by_list ∙ first_refuses paper l s.otherwise none_said

  -- where it has one, it is a refusal
  pub numbered_refuses : (on_paper paper o).number ≢ 0 → (n : ℕ) × (o ≡ Refused n)
  numbered_refuses h = elim (refused_or l s.otherwise) [
    | inl r ↦ (r.0, s.by_list ∙ r.1)
    | inr e ↦ absurd (h (ap (λ (q : Outcome Answer S). (on_paper paper q).number) (s.by_list ∙ e) ∙ none_said))
  ]

-- ---- the log
-- by the tests, one after the other
six : (a b c d e f : Bool) (slot : ℕ) (ev : Event) (kind next : ℕ)
    → (read_line (cond a (Nothing 13) (cond b (Nothing 0)
    (cond c (Nothing 10) (cond d (Nothing 11) (cond e (Nothing 12) (cond f (Nothing 10) (Record slot ev kind next)))))))).number
    ≡ first_of ((a, 13) ∷ (b, 0) ∷ (c, 10) ∷ (d, 11) ∷ (e, 12) ∷ (f, 10) ∷ [])
unfolding read_line first_of
six true b c d e f slot ev kind next = refl
six false true c d e f slot ev kind next = refl
six false false true d e f slot ev kind next = refl
six false false false true e f slot ev kind next = refl
six false false false false true f slot ev kind next = refl
six false false false false false true slot ev kind next = refl
six false false false false false false slot ev kind next = refl

pub read_first : (log : List ℕ) (place : ℕ) → (read_line (read log place)).number ≡ first_of (read_refusals log place)
unfolding read read_left read_refusals
read_first log place =
    let l = drop place log in
    let kind = get_or l 2 0 in
    six (ltb longest_log (length log)) (leb (length log) place) (ltb (length l) 3) (not (has_mark l)) (not (kind_ok kind))
    (ltb (length l) (whole kind)) _ _ _ _

two : (a b : Bool) (n : ℕ) → (written_line (cond a (NotWritten 5) (cond b (NotWritten 16) (Length n)))).number
    ≡ first_of ((a, 5) ∷ (b, 16) ∷ [])
unfolding written_line first_of
two true b n = refl
two false true n = refl
two false false n = refl

pub write_first : (e : Event) (n : ℕ) → (written_line (write e n)).number ≡ first_of (write_refusals e n)
unfolding write write_refusals
write_first e n = two (high_psn (layout (kind_of e)) (fields_of e)) (ltb n (whole (kind_of e))) (whole (kind_of e))

-- a refused writer leaves the buffer
pub refused_written : (slot : ℕ) (e : Event) (buffer : List ℕ) (w : Writing) → (written_line w).number ≢ 0 → written slot e buffer w ≡ buffer
unfolding written_line written
refused_written slot e buffer (NotWritten n) h = refl
refused_written slot e buffer (Length n) h = absurd (h refl)
