-- What the sending side always has, it keeps: a send adds an entry that is neither retired nor marked, a SACK drops the retired from the
-- front, and a mark is set only where nothing is retired. Assumes nothing.
use mathlib.Core.Path.{◌≡◌, refl, ap, ◌∙◌}
use mathlib.Core.Bool.{Bool, true, false, not, cond, ◌&&◌, false≢true}
use mathlib.Core.List.{List, [], ◌∷◌, ◌++◌, map}
use Prim.Native.Nat.{ℕ, zero, suc, ◌≤◌}
use native.Mathlib.Omega.{arith}
use lib.Dec.{leb}
use lib.ListN.{length, get_or, length-append, length-drop}
use lib.Seq.{get_or-drop}
use borrow.Author.Tests.{leb-false, not-false}
use Rattle.psn.proofs.Circle.{after_lt}
use Rattle.rules.specs.Numbers.{room_ok, size_ok}
use Rattle.lists.specs.Lists.{lead, update, All}
use Rattle.rules.specs.Sender.{Entry, Sender, fresh, sent, with_entries, new, index}
use Rattle.rules.specs.Retire.{retire, retired, is_retired, settle, named, after_sack, acknowledged}
use Rattle.rules.specs.Marks.{mark, markable, with_mark, nacked, resent, nearest}
use Rattle.rules.specs.Sending.{step, send, send_refusals, sack, sack_refusals, nack, nack_refusals, timer, timer_refusals, resend, resend_refusals}
use Rattle.rules.specs.Kept.{Good, Sends}
use Rattle.rules.specs.declared.Block.{Block}
use Rattle.rules.specs.declared.Sending.{Sending}
use Rattle.rules.specs.declared.Sending.TheVariants as sending
use Rattle.rules.specs.declared.Answer.{Answer}
use Rattle.rules.specs.declared.Answer.TheVariants as answer
use Rattle.lists.proofs.Lists.{lead_false, length_update, map_update, map_drop, all_update, all_snoc, all_drop}
use Rattle.promise.proofs.Refusing.{Past}
use Rattle.promise.proofs.Outcomes.{After, after_unless, after_cond, after_done}

pub sends_fresh : (n p : ℕ) → room_ok n ≡ true → Sends (fresh n p)
unfolding fresh All
sends_fresh n p h = record {
  room_good = h;
  place_low = after_lt p _;
  room_left = omega arith;
  first_open = refl;
  entries_good = tt;
}

first_of_more : (l m : List Entry) → get_or (map is_retired l) 0 false ≡ false → get_or (map is_retired m) 0 false ≡ false
    → get_or (map is_retired (l ++ m)) 0 false ≡ false
first_of_more [] m h k = k
first_of_more (e ∷ l) m h k = h

sends_new : (x : Sender) (size : ℕ) → Sends x → size_ok size ≡ true → leb x.room (length x.entries) ≡ false
    → Sends (with_entries x (x.entries ++ (new size ∷ [])))
unfolding with_entries
sends_new x size k z l = record {
  room_good = k.room_good;
  place_low = k.place_low;
  room_left = simp length-append (omega (arith, leb-false x.room (length x.entries) l));
  first_open = first_of_more x.entries (new size ∷ []) k.first_open refl;
  entries_good = all_snoc Good x.entries (new size) k.entries_good (record { size_good = z; not_both = refl });
}

-- retiring: the place stops at the first that is not retired
good_retired : (b : Bool) (e : Entry) → Good e → Good (cond b (retired e) e)
good_retired true e h = record { size_good = h.size_good; not_both = refl }
good_retired false e h = h

pub all_retire : (f : ℕ → Bool) (l : List Entry) → All Good l → All Good (retire f l)
unfolding All retire
all_retire f [] h = h
all_retire f (e ∷ l) h = (good_retired (f zero) e h.0, all_retire (λ i. f (suc i)) l h.1)

pub length_retire : (f : ℕ → Bool) (l : List Entry) → length (retire f l) ≡ length l
unfolding retire
length_retire f [] = refl
length_retire f (e ∷ l) = ap suc (length_retire (λ i. f (suc i)) l)

sends_settle : (x : Sender) (l : List Entry) → Sends x → length l ≤ x.room → All Good l → Sends (settle x l)
unfolding settle
sends_settle x l k n h =
    let m = lead (map is_retired l) in
    record {
      room_good = k.room_good;
      place_low = after_lt x.place m;
      room_left = simp length-drop (omega arith);
      first_open = ap (λ (bs : List Bool). get_or bs 0 false) (map_drop is_retired m l) ∙ get_or-drop m (map is_retired l) 0 false
          ∙ ap (λ (i : ℕ). get_or (map is_retired l) i false) (omega arith) ∙ lead_false (map is_retired l);
      entries_good = all_drop Good m l h;
    }

sends_acknowledged : (x : Sender) (cack : ℕ) (b : Block) → Sends x → After Sends x (acknowledged x cack b)
unfolding acknowledged after_sack
sends_acknowledged x cack b k =
    let long = length_retire (named x cack b) x.entries in
    after_done Sends x _ _ (sends_settle x _ k (omega (arith, long, k.room_left)) (all_retire _ x.entries k.entries_good))

-- marks: one is set only where nothing is retired, and may be taken anywhere
good_mark : (e : Entry) → markable e ≡ true → Good e → Good (with_mark true e)
good_mark e m h = record { size_good = h.size_good; not_both = go e.retired m }
  where
    go : (b : Bool) → (not b && not e.marked) ≡ true → (b && true) ≡ false
    go true n = absurd (false≢true n)
    go false n = refl

all_mark : (l : List Entry) (i : ℕ) → get_or (map markable l) i false ≡ true → All Good l → All Good (update (with_mark true) l i)
unfolding All update
all_mark [] i m h = h
all_mark (e ∷ l) zero m h = (good_mark e m h.0, h.1)
all_mark (e ∷ l) (suc i) m h = (h.0, all_mark l i m h.1)

good_unmark : (e : Entry) → Good e → Good (with_mark false e)
good_unmark e h = record { size_good = h.size_good; not_both = go e.retired }
  where
    go : (b : Bool) → (b && false) ≡ false
    go true = refl
    go false = refl

sends_marks : (x : Sender) (b : Bool) (i : ℕ) → Sends x → All Good (update (with_mark b) x.entries i)
    → Sends (with_entries x (update (with_mark b) x.entries i))
unfolding with_entries
sends_marks x b i k h = record {
  room_good = k.room_good;
  place_low = k.place_low;
  room_left = omega (arith, length_update (with_mark b) x.entries i, k.room_left);
  first_open = ap (λ (bs : List Bool). get_or bs 0 false) (map_update is_retired (with_mark b) x.entries i (λ e. refl)) ∙ k.first_open;
  entries_good = h;
}

sends_mark : (tell : ℕ → Answer) (x : Sender) (p : ℕ) → Sends x → After Sends x (mark tell x p)
unfolding mark
sends_mark tell x p k =
    after_cond Sends x (get_or (map markable x.entries) (index x p) false) _ _
    (λ m. after_done Sends x _ _ (sends_marks x true (index x p) k (all_mark x.entries (index x p) m k.entries_good)))
    (λ m. after_done Sends x _ _ k)

sends_nacked : (x : Sender) (p reason : ℕ) → Sends x → After Sends x (nacked x p reason)
unfolding nacked
sends_nacked x p reason k = after_cond Sends x (leb reason 4) _ _ (λ _. sends_mark answer.Marked x p k) (λ _. after_done Sends x _ _ k)

sends_resent : (x : Sender) → Sends x → After Sends x (resent x)
unfolding resent
sends_resent x k =
    after_done Sends x _ _ (sends_marks x false (nearest x) k (all_update Good (with_mark false) x.entries (nearest x) good_unmark k.entries_good))

-- ---- every event
pub sends_step : (x : Sender) (e : Sending) → Sends x → After Sends x (step x e)
unfolding step send send_refusals sack nack timer resend sent Past
sends_step x (sending.Send size) k =
    after_unless Sends x (send_refusals x size) _ k λ p.
    after_done Sends x _ _ (sends_new x size k (not-false (size_ok size) p.1.0) p.1.1.0)
sends_step x (sending.Sack cack b) k = after_unless Sends x (sack_refusals x cack b) _ k λ _. sends_acknowledged x cack.0 b k
sends_step x (sending.Nack p reason) k = after_unless Sends x (nack_refusals x p reason) _ k λ _. sends_nacked x p.0 reason k
sends_step x (sending.Timer p) k = after_unless Sends x (timer_refusals x p) _ k λ _. sends_mark answer.Expired x p.0 k
sends_step x sending.Resend k = after_unless Sends x (resend_refusals x) _ k λ _. sends_resent x k
