-- 02, No. 8, over any course of events: every mark that a NACK or a timer set was taken by a resend, was found a false alarm, or still stands,
-- and only one of these, "so those already resent don't count". Assumes nothing.
use mathlib.Core.Path.{◌≡◌, refl, sym, ap}
use mathlib.Core.Bool.{Bool, true, false, not, cond, ◌&&◌, false≢true}
use mathlib.Core.List.{List, [], ◌∷◌, ◌++◌, map}
use Prim.Native.Nat.{ℕ, zero, suc, ◌+◌, ◌<◌}
use native.Mathlib.Omega.{arith}
use lib.Dec.{leb}
use lib.ListN.{length, get_or, drop}
use borrow.Author.Tests.{leb-false}
use Rattle.std.specs.Prelude.{Ok, Err}
use Rattle.lists.specs.Lists.{sum, lead, update, All}
use Rattle.promise.specs.Outcome.{Outcome, Refused, left}
use Rattle.promise.proofs.Refusing.{Past, through}
use Rattle.rules.specs.Numbers.{room_ok}
use Rattle.rules.specs.Sender.{Entry, Sender, outstanding, fresh, sent, with_entries, new, index}
use Rattle.rules.specs.Retire.{retire, retired, is_retired, settle, named, after_sack, acknowledged, over_newly, false_alarms, report}
use Rattle.rules.specs.Marks.{mark, markable, with_mark, nacked, unmarked, nearest, resent}
use Rattle.rules.specs.Sending.{step, send, send_refusals, sack, sack_refusals, nack, nack_refusals, timer, timer_refusals, resend, resend_refusals}
use Rattle.rules.specs.Paper.{Reply, answered}
use Rattle.rules.specs.Kept.{Good, Sends}
use Rattle.rules.specs.declared.Answer.{Answer}
use Rattle.rules.specs.declared.Answer.TheVariants as answer
use Rattle.rules.specs.declared.Block.{Block}
use Rattle.rules.specs.declared.Sending.{Sending}
use Rattle.rules.specs.declared.Sending.TheVariants as sending
use Rattle.rules.proofs.Sends.{sends_fresh, sends_step, all_retire}

-- ---- what is counted
abbrev pub mark_of : Entry → ℕ
mark_of e = cond e.marked 1 0

-- the marks that stand in a record
abbrev pub standing : Sender → ℕ
standing x = sum (map mark_of x.entries)

-- what an answer tells of marks: how many were set, by a NACK or a timer, were taken by a resend, and were false alarms
pub record Told : Type 0 where
  pub set : ℕ
  pub taken : ℕ
  pub alarms : ℕ

abbrev nothing : Told
nothing = record { set = 0; taken = 0; alarms = 0 }

abbrev were_set : ℕ → Told
were_set n = record { set = n; taken = 0; alarms = 0 }

unfoldable pub tells : Reply → Told
tells (Err e) = nothing
tells (Ok answer.Started) = nothing
tells (Ok answer.Closed) = nothing
tells (Ok (answer.Sent p)) = nothing
tells (Ok (answer.Acked v k)) = nothing
tells (Ok (answer.Nacked v k)) = nothing
tells (Ok (answer.Retired k)) = record { set = 0; taken = 0; alarms = k.alarms }
tells (Ok (answer.Marked n)) = were_set n
tells (Ok (answer.Expired n)) = were_set n
tells (Ok (answer.Resent p)) = record { set = 0; taken = 1; alarms = 0 }

abbrev pub set_by : Reply → ℕ
set_by r = (tells r).set

abbrev pub taken_by : Reply → ℕ
taken_by r = (tells r).taken

abbrev pub alarms_by : Reply → ℕ
alarms_by r = (tells r).alarms

-- by what a test gives
by_test : {P : Type 0} (b : Bool) → (b ≡ true → P) → (b ≡ false → P) → P
by_test true h k = h refl
by_test false h k = k refl

-- ---- the marks of a list of entries
abbrev marks : List Entry → ℕ
marks l = sum (map mark_of l)

-- a send adds an entry without a mark
marks_new : (l : List Entry) (size : ℕ) → marks (l ++ (new size ∷ [])) ≡ marks l
unfolding sum
marks_new [] size = refl
marks_new (e ∷ l) size = ap (λ (n : ℕ). mark_of e + n) (marks_new l size)

-- a mark is set only where none stands
markable_open : (e : Entry) → markable e ≡ true → mark_of e ≡ 0
markable_open e h = go e.retired e.marked h
  where
    go : (r m : Bool) → (not r && not m) ≡ true → ◌≡◌ {A = ℕ} (cond m 1 0) 0
    go true m n = absurd (false≢true n)
    go false true n = absurd (false≢true n)
    go false false n = refl

marks_set : (l : List Entry) (i : ℕ) → get_or (map markable l) i false ≡ true → marks (update (with_mark true) l i) ≡ marks l + 1
unfolding sum update
marks_set [] i h = absurd (false≢true h)
marks_set (e ∷ l) zero h = omega (arith, markable_open e h)
marks_set (e ∷ l) (suc i) h = omega (arith, marks_set l i h)

-- a resend takes the first mark
marks_taken : (l : List Entry) → lead (map unmarked l) < length l → marks (update (with_mark false) l (lead (map unmarked l))) + 1 ≡ marks l
unfolding sum update lead
marks_taken [] h = absurd (omega arith)
marks_taken (e ∷ l) h = by_test e.marked (λ t. rw t (omega arith)) (λ t. rw t (omega (arith, marks_taken l (omega (arith, rw t at h)))))

-- what is retired has no mark
retired_open : (e : Entry) → Good e → e.retired ≡ true → mark_of e ≡ 0
retired_open e g h = rw (rw h at g.not_both)

-- an entry keeps its mark, or is newly retired and its mark is told as a false alarm
mark_named : (b : Bool) (e : Entry) → Good e → mark_of (cond b (retired e) e) + cond (b && not e.retired) (mark_of e) 0 ≡ mark_of e
mark_named false e g = omega arith
mark_named true e g = go e.retired e.marked g.not_both
  where
    go : (r m : Bool) → (r && m) ≡ false → ◌≡◌ {A = ℕ} (0 + cond (not r) (cond m 1 0) 0) (cond m 1 0)
    go false m b = omega arith
    go true false b = refl
    go true true b = absurd (false≢true (sym b))

marks_retire : (f : ℕ → Bool) (l : List Entry) → All Good l → marks (retire f l) + false_alarms f l ≡ marks l
unfolding sum All retire over_newly
marks_retire f [] g = refl
marks_retire f (e ∷ l) g = omega (arith, mark_named (f zero) e g.0, marks_retire (λ i. f (suc i)) l g.1)

-- the retired at the front are let go with no mark
marks_drop : (l : List Entry) → All Good l → marks (drop (lead (map is_retired l)) l) ≡ marks l
unfolding sum All lead
marks_drop [] g = refl
marks_drop (e ∷ l) g = by_test e.retired (λ t. rw t (omega (arith, retired_open e g.0 t, marks_drop l g.1))) (λ t. rw t)

-- ---- an outcome balances
abbrev Balanced : Sender → Outcome Answer Sender → Type 0
Balanced x o = standing x + set_by (answered o) ≡ standing (left x o) + taken_by (answered o) + alarms_by (answered o)

balanced_refused : (x : Sender) (n : ℕ) → Balanced x (Refused n)
unfolding answered left tells
balanced_refused x n = omega arith

balanced_cond : (x : Sender) (b : Bool) (o q : Outcome Answer Sender) → (b ≡ true → Balanced x o) → (b ≡ false → Balanced x q) → Balanced x (cond b o q)
balanced_cond x true o q h k = h refl
balanced_cond x false o q h k = k refl

balanced_sent : (x : Sender) (size : ℕ) → Balanced x (sent x size)
unfolding sent with_entries answered left tells
balanced_sent x size = omega (arith, marks_new x.entries size)

balanced_acknowledged : (x : Sender) (cack : ℕ) (b : Block) → Sends x → Balanced x (acknowledged x cack b)
unfolding acknowledged after_sack settle report answered left tells
balanced_acknowledged x cack b k =
    let f = named x cack b in
    omega (arith, marks_retire f x.entries k.entries_good, marks_drop (retire f x.entries) (all_retire f x.entries k.entries_good))

-- a NACK or a timer, whose answer tells the marks set and nothing else
balanced_mark : (tell : ℕ → Answer) → ((n : ℕ) → tells (Ok (tell n)) ≡ were_set n) → (x : Sender) (p : ℕ) → Balanced x (mark tell x p)
unfolding mark with_entries answered left
balanced_mark tell is x p =
    balanced_cond x (get_or (map markable x.entries) (index x p) false) _ _
    (λ m. omega (arith, marks_set x.entries (index x p) m, set 1, taken 1, alarms 1))
    (λ m. omega (arith, set 0, taken 0, alarms 0))
  where
    set : (n : ℕ) → set_by (Ok (tell n)) ≡ n
    set n = ap (λ (t : Told). t.set) (is n)

    taken : (n : ℕ) → taken_by (Ok (tell n)) ≡ 0
    taken n = ap (λ (t : Told). t.taken) (is n)

    alarms : (n : ℕ) → alarms_by (Ok (tell n)) ≡ 0
    alarms n = ap (λ (t : Told). t.alarms) (is n)

balanced_nacked : (x : Sender) (p reason : ℕ) → Balanced x (nacked x p reason)
unfolding nacked answered left tells
balanced_nacked x p reason =
    balanced_cond x (leb reason 4) _ _ (λ _. balanced_mark answer.Marked (λ n. refl) x p) (λ _. omega arith)

balanced_expired : (x : Sender) (p : ℕ) → Balanced x (mark answer.Expired x p)
unfolding tells
balanced_expired x p = balanced_mark answer.Expired (λ n. refl) x p

balanced_resent : (x : Sender) → leb (outstanding x) (nearest x) ≡ false → Balanced x (resent x)
unfolding resent nearest with_entries answered left tells
balanced_resent x h = omega (arith, marks_taken x.entries (leb-false (outstanding x) (nearest x) h))

-- ---- one event
pub ledger_step : (x : Sender) (e : Sending) → Sends x
    → standing x + set_by (answered (step x e))
    ≡ standing (left x (step x e)) + taken_by (answered (step x e)) + alarms_by (answered (step x e))
unfolding step send sack nack timer resend resend_refusals Past
ledger_step x (sending.Send size) k = through (Balanced x) (send_refusals x size) _ (balanced_refused x) (λ _. balanced_sent x size)
ledger_step x (sending.Sack cack b) k = through (Balanced x) (sack_refusals x cack b) _ (balanced_refused x) (λ _. balanced_acknowledged x cack.0 b k)
ledger_step x (sending.Nack p reason) k = through (Balanced x) (nack_refusals x p reason) _ (balanced_refused x) (λ _. balanced_nacked x p.0 reason)
ledger_step x (sending.Timer p) k = through (Balanced x) (timer_refusals x p) _ (balanced_refused x) (λ _. balanced_expired x p.0)
ledger_step x sending.Resend k = through (Balanced x) (resend_refusals x) _ (balanced_refused x) (λ p. balanced_resent x p.1.0)

-- ---- a course of events
-- the record that it leaves, and what its answers tell together
unfoldable pub after_all : Sender → List Sending → Sender
after_all x [] = x
after_all x (e ∷ l) = after_all (left x (step x e)) l

unfoldable pub in_all : (Reply → ℕ) → Sender → List Sending → ℕ
in_all w x [] = 0
in_all w x (e ∷ l) = w (answered (step x e)) + in_all w (left x (step x e)) l

pub ledger_from : (x : Sender) (l : List Sending) → Sends x
    → standing x + in_all set_by x l ≡ standing (after_all x l) + in_all taken_by x l + in_all alarms_by x l
unfolding after_all in_all
ledger_from x [] k = omega arith
ledger_from x (e ∷ l) k = omega (arith, ledger_step x e k, ledger_from (left x (step x e)) l (sends_step x e k).holds)

-- from a start on: marks set = taken by a resend + false alarms + standing
pub ledger : (n p : ℕ) → room_ok n ≡ true → (l : List Sending)
    → in_all set_by (fresh n p) l ≡ standing (after_all (fresh n p) l) + in_all taken_by (fresh n p) l + in_all alarms_by (fresh n p) l
unfolding fresh sum
ledger n p h l = omega (arith, ledger_from (fresh n p) l (sends_fresh n p h))
