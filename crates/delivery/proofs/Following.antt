-- A run of any two sides that follow two others is a run of those: so what demand 3 promises of the rules' runs is kept by any two sides
-- that follow the rules, with what their records mean. Assumes nothing.
use mathlib.Core.Path.{◌≡◌, refl, sym, ap, ap₂, ◌∙◌, subst}
use mathlib.Core.Bool.{true}
use mathlib.Core.List.{List, ◌∷◌, Memᴰ}
use Prim.Native.Nat.{ℕ, ◌<◌}
use Rattle.rules.specs.Numbers.{turn, psn, room_ok}
use Rattle.rules.specs.Receiver as receiver
use Rattle.rules.specs.Receiving.{Receiving, Arrive}
use Rattle.rules.specs.Sender as sender
use Rattle.rules.specs.Paper.{Reply as Answered}
use Rattle.rules.specs.declared.Opening.{Opening}
use Rattle.rules.specs.declared.Sending.{Sending}
use Rattle.rules.specs.declared.Sending.TheVariants as sending
use Rattle.delivery.specs.Wire.{Packet, Fate, arrival, hearing, Message, Silent, Goes, Replies, message, Note, Near, Readable}
use Rattle.delivery.specs.Network.{Start, opening, Side, Sides, Worlds, meant, begin, put, reply}
use Rattle.delivery.specs.Network.{with_sender, with_receiver, on_send, again, on_resend, on_arrive}
use Rattle.delivery.specs.Network.{Next, sends, resends, timers, hears, arrives, beside_sender, beside_receiver, Run, still, then}
use Rattle.delivery.specs.Rules.{rules}
use Rattle.delivery.specs.Rules as ours
use Rattle.delivery.specs.Promise.{Keep}
use Rattle.delivery.proofs.Places.{stays}
use Rattle.delivery.proofs.Theorem.{delivers}
use Rattle.delivery.proofs.Never.{never_contradicts}

-- ---- a side that follows another
pub record Follows {E : Type 0} (S T : Side E) : Type 1 where
  -- what a record of S is in T, and what every record of S that is reached has
  pub meaning : S.State → T.State
  pub Kept : S.State → Type 0
  pub places : (x : S.State) → S.place x ≡ T.place (meaning x)
  pub begins : (o : Opening) (x : S.State) → room_ok o.room ≡ true → o.first.0 < turn → S.Begins o x → T.Begins o (meaning x) × Kept x
  pub steps : (x : S.State) (e : E) (a : Answered) (y : S.State) → Kept x → S.Steps x e a y → T.Steps (meaning x) e a (meaning y) × Kept y
  -- what else happens is nothing to T
  pub beside : (x y : S.State) → Kept x → S.Beside x y → (meaning y ≡ meaning x) × Kept y

-- both sides do
pub record Following (n m : Sides) : Type 1 where
  pub sender : Follows n.sender m.sender
  pub receiver : Follows n.receiver m.receiver

module _ {n m : Sides} (F : Following n m) where
  -- the world with both records replaced by their meanings
  abbrev pub through : Worlds n → Worlds m
  through w = meant F.sender.meaning F.receiver.meaning w

  -- what both records of a world that is reached have
  pub record Kept (w : Worlds n) : Type 0 where
    pub of_sender : F.sender.Kept w.sending
    pub of_receiver : F.receiver.Kept w.receiving

  -- ---- what an event makes of a world means what it makes of the meaning
  put_meant : (w : Worlds n) (u : Worlds m) (l : List ℕ) (packet same : ℕ → Packet) (a : Message) → u ≡ through w → ((p : ℕ) → same p ≡ packet p)
      → put u l same a ≡ through (put w l packet a)
  unfolding put meant
  put_meant w u l packet same Silent e h = e
  put_meant w u l packet same (Goes p) e h = ap₂
      (λ (u : Worlds m) (q : Packet). record {
        sending = u.sending;
        receiving = u.receiving;
        low = u.low;
        at = u.at;
        sent = l;
        wire = q ∷ u.wire;
        notes = u.notes;
        accepted = u.accepted;
      })
      e (h p)
  put_meant w u l packet same (Replies r) e h = e

  reply_meant : (w : Worlds n) (u : Worlds m) (i z : ℕ) (a : Message) → u ≡ through w → reply u i z a ≡ through (reply w i z a)
  unfolding reply meant
  reply_meant w u i z Silent e = e
  reply_meant w u i z (Goes p) e = e
  reply_meant w u i z (Replies r) e = ap (λ (u : Worlds m). reply u i z (Replies r)) e

  put_kept : (w : Worlds n) (l : List ℕ) (packet : ℕ → Packet) (a : Message) → Kept w → Kept (put w l packet a)
  unfolding put
  put_kept w l packet Silent K = K
  put_kept w l packet (Goes p) K = record { of_sender = K.of_sender; of_receiver = K.of_receiver }
  put_kept w l packet (Replies r) K = K

  reply_kept : (w : Worlds n) (i z : ℕ) (a : Message) → Kept w → Kept (reply w i z a)
  unfolding reply
  reply_kept w i z Silent K = K
  reply_kept w i z (Goes p) K = K
  reply_kept w i z (Replies r) K = record { of_sender = K.of_sender; of_receiver = K.of_receiver }

  module _ (w : Worlds n) (x : n.sender.State) where
    sender_meant : with_sender m (through w) (F.sender.meaning x) ≡ through (with_sender n w x)
    unfolding with_sender meant
    sender_meant = rw (← F.sender.places w.sending, ← F.sender.places x)

    send_meant : (z : ℕ) (a : Answered) → on_send m (through w) z a (F.sender.meaning x) ≡ through (on_send n w z a x)
    unfolding on_send meant
    send_meant z a = put_meant (with_sender n w x) _ (z ∷ w.sent) _ _ (message a) sender_meant (λ p. refl)

    resend_meant : (a : Answered) → on_resend m (through w) a (F.sender.meaning x) ≡ through (on_resend n w a x)
    unfolding on_resend again meant
    resend_meant a = put_meant (with_sender n w x) _ w.sent (again n w) _ (message a) sender_meant
        (λ p. rw (← F.sender.places w.sending))

    beside_sender_meant : F.sender.meaning x ≡ F.sender.meaning w.sending → through w ≡ through (with_sender n w x)
    unfolding with_sender meant
    beside_sender_meant e =
        let same : n.sender.place x ≡ n.sender.place w.sending =
        F.sender.places x ∙ ap (λ y. m.sender.place y) e ∙ sym (F.sender.places w.sending) in
        rw (e, stays w.low (n.sender.place w.sending) (n.sender.place x) same)

  module _ (w : Worlds n) (r : n.receiver.State) where
    receiver_meant : with_receiver m (through w) (F.receiver.meaning r) ≡ through (with_receiver n w r)
    unfolding with_receiver meant
    receiver_meant = rw (← F.receiver.places w.receiving, ← F.receiver.places r)

    arrive_meant : (p : Packet) (f : Fate) (a : Answered) → on_arrive m (through w) p f a (F.receiver.meaning r) ≡ through (on_arrive n w p f a r)
    unfolding on_arrive
    arrive_meant p f a = reply_meant (with_receiver n w r) _ p.number _ (message a) receiver_meant

    beside_receiver_meant : F.receiver.meaning r ≡ F.receiver.meaning w.receiving → through w ≡ through (with_receiver n w r)
    unfolding with_receiver meant
    beside_receiver_meant e =
        let same : n.receiver.place r ≡ n.receiver.place w.receiving =
        F.receiver.places r ∙ ap (λ q. m.receiver.place q) e ∙ sym (F.receiver.places w.receiving) in
        rw (e, stays w.at (n.receiver.place w.receiving) (n.receiver.place r) same)

  -- ---- one more event, where its world means what it leaves of the meaning
  with_sender_kept : (w : Worlds n) (x : n.sender.State) → Kept w → F.sender.Kept x → Kept (with_sender n w x)
  unfolding with_sender
  with_sender_kept w x K k = record { of_sender = k; of_receiver = K.of_receiver }

  with_receiver_kept : (w : Worlds n) (r : n.receiver.State) → Kept w → F.receiver.Kept r → Kept (with_receiver n w r)
  unfolding with_receiver
  with_receiver_kept w r K k = record { of_sender = K.of_sender; of_receiver = k }

  sender_steps : (w : Worlds n) (e : Sending) (a : Answered) (x : n.sender.State) → Kept w → n.sender.Steps w.sending e a x
      → m.sender.Steps (through w).sending e a (F.sender.meaning x) × Kept (with_sender n w x)
  unfolding meant
  sender_steps w e a x K g = let h = F.sender.steps w.sending e a x K.of_sender g in (h.0, with_sender_kept w x K h.1)

  receiver_steps : (w : Worlds n) (e : Receiving) (a : Answered) (r : n.receiver.State) → Kept w → n.receiver.Steps w.receiving e a r
      → m.receiver.Steps (through w).receiving e a (F.receiver.meaning r) × Kept (with_receiver n w r)
  unfolding meant
  receiver_steps w e a r K g = let h = F.receiver.steps w.receiving e a r K.of_receiver g in (h.0, with_receiver_kept w r K h.1)

  -- ---- so a run is a run
  pub record Followed (v w : Worlds n) : Type 0 where
    pub run : Run m (through v) (through w)
    pub kept : Kept w

  module _ {v w : Worlds n} (R : Followed v w) where
    goes_on : (u : Worlds m) (t : Worlds n) → u ≡ through t → Run m (through v) u → Kept t → Followed v t
    goes_on u t e r K = record { run = subst (λ (y : Worlds m). Run m (through v) y) e r; kept = K }

    then_sends : (z : ℕ) (a : Answered) (x : n.sender.State) → n.sender.Steps w.sending (sending.Send z) a x → Followed v (on_send n w z a x)
    unfolding on_send
    then_sends z a x g =
        let h = sender_steps w (sending.Send z) a x R.kept g in
        goes_on _ _ (send_meant w x z a) (then R.run (sends z a _ h.0)) (put_kept (with_sender n w x) _ _ (message a) h.1)

    then_resends : (a : Answered) (x : n.sender.State) → n.sender.Steps w.sending sending.Resend a x → Followed v (on_resend n w a x)
    unfolding on_resend
    then_resends a x g =
        let h = sender_steps w sending.Resend a x R.kept g in
        goes_on _ _ (resend_meant w x a) (then R.run (resends a _ h.0)) (put_kept (with_sender n w x) _ _ (message a) h.1)

    then_timers : (p : ℕ) (a : Answered) (x : n.sender.State) → n.sender.Steps w.sending (sending.Timer (psn p)) a x → Followed v (with_sender n w x)
    then_timers p a x g =
        let h = sender_steps w (sending.Timer (psn p)) a x R.kept g in
        goes_on _ _ (sender_meant w x) (then R.run (timers p a _ h.0)) h.1

    then_hears : (k : Note) → Memᴰ k w.notes → Readable w.low k k.reply → (a : Answered) (x : n.sender.State)
        → n.sender.Steps w.sending (hearing k.reply) a x → Followed v (with_sender n w x)
    unfolding meant
    then_hears k there near a x g =
        let h = sender_steps w (hearing k.reply) a x R.kept g in
        goes_on _ _ (sender_meant w x) (then R.run (hears k there near a _ h.0)) h.1

    then_arrives : (p : Packet) → Memᴰ p w.wire → Near p.number w.at → (f : Fate) (a : Answered) (r : n.receiver.State)
        → n.receiver.Steps w.receiving (Arrive (arrival p f)) a r → Followed v (on_arrive n w p f a r)
    unfolding meant on_arrive
    then_arrives p there near f a r g =
        let h = receiver_steps w (Arrive (arrival p f)) a r R.kept g in
        goes_on _ _ (arrive_meant w r p f a) (then R.run (arrives p there near f a _ h.0)) (reply_kept (with_receiver n w r) p.number _ (message a) h.1)

    then_beside_sender : (x : n.sender.State) → n.sender.Beside w.sending x → Followed v (with_sender n w x)
    then_beside_sender x g =
        let h = F.sender.beside w.sending x R.kept.of_sender g in
        goes_on _ _ (beside_sender_meant w x h.0) R.run (with_sender_kept w x R.kept h.1)

    then_beside_receiver : (r : n.receiver.State) → n.receiver.Beside w.receiving r → Followed v (with_receiver n w r)
    then_beside_receiver r g =
        let h = F.receiver.beside w.receiving r R.kept.of_receiver g in
        goes_on _ _ (beside_receiver_meant w r h.0) R.run (with_receiver_kept w r R.kept h.1)

    then_next : {u : Worlds n} → Next n w u → Followed v u
    then_next (sends z a x g) = then_sends z a x g
    then_next (resends a x g) = then_resends a x g
    then_next (timers p a x g) = then_timers p a x g
    then_next (hears k there near a x g) = then_hears k there near a x g
    then_next (arrives p there near f a q g) = then_arrives p there near f a q g
    then_next (beside_sender x g) = then_beside_sender x g
    then_next (beside_receiver q g) = then_beside_receiver q g

  pub follows : {v w : Worlds n} → Kept v → Run n v w → Followed v w
  follows K still = record { run = still; kept = K }
  follows K (then r e) = then_next (follows K r) e

-- ---- demand 3, of any two sides that follow the rules
module _ {n : Sides} (F : Following n rules) (s : Start) (x : n.sender.State) (r : n.receiver.State)
    (b : n.sender.Begins (opening s s.send_room) x) (c : n.receiver.Begins (opening s s.receive_room) r) where
  sender_fresh : (F.sender.meaning x ≡ sender.fresh s.send_room s.first) × F.sender.Kept x
  sender_fresh = F.sender.begins (opening s s.send_room) x s.send_good s.first_low b

  receiver_fresh : (F.receiver.meaning r ≡ receiver.fresh s.receive_room s.first) × F.receiver.Kept r
  receiver_fresh = F.receiver.begins (opening s s.receive_room) r s.receive_good s.first_low c

  pub begin_kept : Kept F (begin x r)
  unfolding begin
  begin_kept = record { of_sender = sender_fresh.1; of_receiver = receiver_fresh.1 }

  pub begin_meant : through F (begin x r) ≡ ours.begin s
  unfolding meant begin ours.begin
  begin_meant = rw (sender_fresh.0, receiver_fresh.0)

  module _ (w : Worlds n) (run : Run n (begin x r) w) where
    -- the run of the rules, which all that is proved of those speaks of
    pub rules_run : ours.Run (ours.begin s) (through F w)
    rules_run = subst (λ (v : ours.World). ours.Run v (through F w)) begin_meant (follows F begin_kept run).run

-- any two sides that follow the rules keep demand 3, with what their records mean
pub keeps : {n : Sides} (F : Following n rules) → Keep n F.sender.meaning F.receiver.meaning
unfolding meant
keeps F s x r b c w run =
    let ours_run = rules_run F s x r b c w run in
    let K = (follows F (begin_kept F s x r b c) run).kept in
    record {
      run = ours_run;
      promise = delivers s _ ours_run;
      consistent = λ m there a y g.
          never_contradicts s _ ours_run m there a (F.sender.meaning y) (F.sender.steps w.sending (hearing m.reply) a y K.of_sender g).0;
    }
