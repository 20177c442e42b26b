-- The packet at place + 1 is tried again: its timer marks it, the mark stays until a resend takes it or the place moves, and the resend
-- hands that packet out. Assumes nothing.
use mathlib.Core.Path.{◌≡◌, refl}
use mathlib.Core.Bool.{Bool, true, false, cond, false≢true}
use mathlib.Core.List.{List, [], ◌∷◌, ◌++◌, map}
use mathlib.Core.Logic.{◌⊎◌, inl, inr}
use Prim.Native.Nat.{ℕ, zero, suc, ◌<◌}
use native.Mathlib.Omega.{arith}
use lib.Dec.{leb}
use lib.ListN.{length, get_or, drop}
use borrow.Author.Tests.{not-false, lt-ltb, lt-leb}
use Rattle.psn.specs.declared.Psn.{Psn}
use Rattle.psn.proofs.Circle.{after_lt, distance_same}
use Rattle.rules.specs.Numbers.{turn, psn}
use Rattle.lists.specs.Lists.{lead, update}
use Rattle.promise.specs.Outcome.{Outcome, unless, left}
use Rattle.promise.proofs.Outcomes.{After, after_unless, after_cond, after_done}
use Rattle.rules.specs.Paper.{answered}
use Rattle.rules.specs.Receiver.{Receiver}
use Rattle.rules.specs.Sender.{Entry, Sender, outstanding, nth, with_entries, new, index, unsent, sent}
use Rattle.rules.specs.Retire.{is_retired, retired, retire, named, settle, after_sack}
use Rattle.rules.specs.Marks.{with_mark, markable, mark, nacked, unmarked, nearest, resent}
use Rattle.rules.specs.Sending.{send, nack, timer_refusals, timer, resend_refusals, resend, step}
use Rattle.rules.specs.declared.Answer.{Answer}
use Rattle.rules.specs.declared.Answer.TheVariants as answer
use Rattle.delivery.specs.Wire.{Packet, Reply, Acks, Nacks, hearing, Message, Silent, Goes, Replies, message, Note, Readable}
use Rattle.delivery.specs.Network.{Start, with_sender, put, on_send, again, on_resend, with_receiver, reply, on_arrive}
use Rattle.delivery.specs.Network.{Next, sends, resends, timers, hears, arrives, beside_sender, beside_receiver}
use Rattle.delivery.specs.Rules.{given, rules, World}
use Rattle.delivery.specs.Promise.{among}
use Rattle.delivery.specs.Progress.{is_marked, marked_at, Times, Resends, Marks, HandsOut}
use Rattle.delivery.proofs.Effects.{by_given}
use Rattle.delivery.proofs.Places.{stays}
use Rattle.delivery.proofs.Keeps.{sender_used, place_moves}
use Rattle.delivery.proofs.Taken.{sack_taken}
use Rattle.delivery.proofs.Invariant.{Told, Inv, invariant}

-- the first of some entries is marked
abbrev First : List Entry → Type 0
First l = get_or (map is_marked l) 0 false ≡ true

-- ---- the timer marks it
marked_now : (l : List Entry) → 0 < length l → First (update (with_mark true) l 0)
unfolding update
marked_now [] h = absurd (omega arith)
marked_now (e ∷ l) h = refl

marked_already : (l : List Entry) → 0 < length l → get_or (map is_retired l) 0 false ≡ false → get_or (map markable l) 0 false ≡ false → First l
marked_already [] h r m = absurd (omega arith)
marked_already (e ∷ l) h r m = not-false e.marked (rw r at m)

module _ {s : Start} {w : World} (I : Inv s w) where
  timer_marks : 0 < outstanding w.sending → marked_at (left w.sending (timer w.sending (psn (nth w.sending 0)))) 0 ≡ true
  unfolding timer timer_refusals unless unsent index mark with_entries
  timer_marks some =
      let x = w.sending in
      let p : ℕ = nth x 0 in
      let P : Sender → Type 0 = λ y. marked_at y 0 ≡ true in
      let o : Outcome Answer Sender = mark answer.Expired x p in
      let at_first : index x p ≡ 0 = distance_same p in
      let done : After P x o = rw at_first (after_cond P x (get_or (map markable x.entries) 0 false) _ _
      (λ _. after_done P x _ _ (marked_now x.entries some))
      (λ e. after_done P x _ _ (marked_already x.entries some I.keeps.first_open e))) in
      rw (sender_used I.keeps, lt-ltb p turn (after_lt x.place 1), at_first, lt-leb (outstanding x) 0 some) (rw at_first at done.holds)

pub marks : Marks
unfolding Times with_sender step
marks s w u run some (sends z a x g) h = absurd h
marks s w u run some (resends a x g) h = absurd h
marks s w u run some (timers p a x t) h =
    by_given (λ b y. marked_at y 0 ≡ true) (rw h (timer_marks (invariant run) some)) t
marks s w u run some (hears m there r a x g) h = absurd h
marks s w u run some (arrives p there near f a r g) h = absurd h
marks s w u run some (beside_sender x g) h = absurd h
marks s w u run some (beside_receiver r g) h = absurd h

-- ---- the resend hands it out
first_marked : (l : List Entry) → First l → (lead (map unmarked l) ≡ 0) × (0 < length l)
unfolding lead
first_marked [] h = absurd (false≢true h)
first_marked (e ∷ l) h = (rw h, omega arith)

module _ {s : Start} {w : World} (I : Inv s w) (m : marked_at w.sending 0 ≡ true) where
  abbrev x : Sender
  x = w.sending

  nearest_is : nearest x ≡ 0
  unfolding nearest
  nearest_is = (first_marked x.entries m).0

  resends_first : resend x ≡ resent x
  unfolding resend resend_refusals unless
  resends_first = rw (sender_used I.keeps, lt-leb (outstanding x) (nearest x) (omega (arith, nearest_is, (first_marked x.entries m).1)))

  handed_out : let o = resend x in (p : Packet) × (p.number ≡ w.low) × ((on_resend rules w (answered o) (left x o)).wire ≡ p ∷ w.wire)
  unfolding on_resend again resent message answered put with_sender
  handed_out = rw (resends_first, nearest_is) (_, stays w.low (nth x 0) (nth x 0) refl, refl)

pub hands_out : HandsOut
unfolding Resends step
hands_out s w u run m (sends z a x g) h = absurd h
hands_out s w u run m (resends a x given) h = handed_out (invariant run) m
hands_out s w u run m (timers p a x g) h = absurd h
hands_out s w u run m (hears n there r a x g) h = absurd h
hands_out s w u run m (arrives p there near f a r g) h = absurd h
hands_out s w u run m (beside_sender x g) h = absurd h
hands_out s w u run m (beside_receiver r g) h = absurd h

-- ---- until then the mark stays, or the place moves
first_more : (l : List Entry) (z : ℕ) → First l → First (l ++ (new z ∷ []))
first_more [] z h = absurd (false≢true h)
first_more (e ∷ l) z h = h

first_update : (l : List Entry) (i : ℕ) → First l → First (update (with_mark true) l i)
unfolding update
first_update [] i h = h
first_update (e ∷ l) zero h = refl
first_update (e ∷ l) (suc i) h = h

first_retire : (f : ℕ → Bool) (l : List Entry) → First l
    → let r = retire f l in let m = lead (map is_retired r) in (0 < m) ⊎ First (drop m r)
unfolding retire lead
first_retire f [] h = absurd (false≢true h)
first_retire f (e ∷ l) h = go (f zero) e.retired refl
  where
    go : (b c : Bool) → e.retired ≡ c
        → let y = cond b (retired e) e in let r = retire (λ k. f (suc k)) l in let m = lead (y.retired ∷ map is_retired r) in
        (0 < m) ⊎ First (drop m (y ∷ r))
    go true c p = inl (omega arith)
    go false true p = inl (rw p (omega arith))
    go false false p = inr (rw p h)

-- what becomes of the mark
abbrev Stays : World → World → Type 0
Stays w u = (w.low < u.low) ⊎ (marked_at u.sending 0 ≡ true)

put_stays : (w u : World) (l : List ℕ) (packet : ℕ → Packet) (a : Message) → Stays w u → Stays w (put u l packet a)
unfolding put
put_stays w u l packet Silent S = S
put_stays w u l packet (Goes p) S = S
put_stays w u l packet (Replies r) S = S

reply_stays : (w : World) (r : Receiver) (i z : ℕ) (a : Message) → marked_at w.sending 0 ≡ true → Stays w (reply (with_receiver rules w r) i z a)
unfolding reply with_receiver
reply_stays w r i z Silent m = inr m
reply_stays w r i z (Goes p) m = inr m
reply_stays w r i z (Replies q) m = inr m

module _ {s : Start} {w : World} (I : Inv s w) (m : marked_at w.sending 0 ≡ true) where
  abbrev Marked : Sender → Type 0
  Marked y = marked_at y 0 ≡ true

  with_sender_stays : (y : Sender) → Marked y → Stays w (with_sender rules w y)
  unfolding with_sender
  with_sender_stays y h = inr h

  mark_marked : (tell : ℕ → Answer) (p : ℕ) → After Marked w.sending (mark tell w.sending p)
  unfolding mark with_entries
  mark_marked tell p =
      let y = w.sending in
      after_cond Marked y (get_or (map markable y.entries) (index y p) false) _ _
      (λ _. after_done Marked y _ _ (first_update y.entries (index y p) m)) (λ _. after_done Marked y _ _ m)

  timer_marked : (p : Psn) → After Marked w.sending (timer w.sending p)
  unfolding timer
  timer_marked p = after_unless Marked w.sending _ _ m (λ _. mark_marked answer.Expired p.0)

  nack_marked : (p : Psn) (reason : ℕ) → After Marked w.sending (nack w.sending p reason)
  unfolding nack nacked
  nack_marked p reason =
      let y = w.sending in
      after_unless Marked y _ _ m (λ _. after_cond Marked y (leb reason 4) _ _ (λ _. mark_marked answer.Marked p.0) (λ _. after_done Marked y _ _ m))

  send_marked : (z : ℕ) → After Marked w.sending (send w.sending z)
  unfolding send sent with_entries
  send_marked z =
      let y = w.sending in after_unless Marked y _ _ m (λ _. after_done Marked y _ _ (first_more y.entries z m))

  heard_stays : (n : Note) (q : Reply) → Told s (among w.accepted) (length w.sent) n q → Readable w.low n q
      → Stays w (with_sender rules w (left w.sending (step w.sending (hearing q))))
  unfolding step hearing Told Readable left with_sender after_sack settle
  heard_stays n (Acks b k) T R =
      let y = w.sending in
      let far = place_moves I.keeps n.here k T.tells R.0 R.1 in
      rw (sack_taken I.keeps I.bound n.here k T.tells R.0 R.1, far)
      (elim (first_retire (named y k.cack.0 k.block) y.entries m) [ inl h ↦ inl (omega arith) | inr h ↦ inr h ])
  heard_stays n (Nacks k) T R = inr (nack_marked k.psn k.reason).holds

  pub mark_next : {u : World} (e : Next rules w u) → Resends e ⊎ ((w.low < u.low) ⊎ (marked_at u.sending 0 ≡ true))
  unfolding Resends on_send on_arrive step
  mark_next (sends z a x given) = inr (put_stays w _ (z ∷ w.sent) _ (message a) (with_sender_stays _ (send_marked z).holds))
  mark_next (resends a x g) = inl tt
  mark_next (timers p a x t) =
      by_given (λ b y. ⊥ ⊎ Stays w (with_sender rules w y)) (inr (with_sender_stays _ (timer_marked (psn p)).holds)) t
  mark_next (hears n there h a x t) =
      by_given (λ b y. ⊥ ⊎ Stays w (with_sender rules w y)) (inr (heard_stays n n.reply (I.told n there) h)) t
  mark_next (arrives p there near f a r g) = inr (reply_stays w r p.number _ (message a) m)
  mark_next (beside_sender x g) = absurd g
  mark_next (beside_receiver r g) = absurd g
