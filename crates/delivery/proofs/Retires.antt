-- What is retired stays so, and the SACK that answers a packet retires it, whenever it is heard. Assumes nothing.
use mathlib.Core.Path.{◌≡◌, refl, sym, ap, ap₂, ◌∙◌, subst}
use mathlib.Core.Bool.{Bool, true, false, cond, or-true}
use mathlib.Core.List.{List, [], ◌∷◌, map}
use Prim.Native.Nat.{ℕ, zero, suc, ◌+◌, ◌-◌, ◌≤◌, ◌<◌}
use native.Mathlib.Omega.{arith}
use native.Mathlib.Decide.{dec_lt}
use lib.Dec.{ltb}
use lib.ListN.{length, get_or}
use borrow.Author.Tests.{lt-ltb, le-leb}
use Rattle.psn.proofs.Circle.{ahead as circle_ahead}
use Rattle.word.specs.Word.{bit_at}
use Rattle.rules.specs.Numbers.{distance, psn}
use Rattle.promise.specs.Outcome.{Outcome, left}
use Rattle.promise.proofs.Refusing.{through}
use Rattle.rules.specs.Paper.{answered}
use Rattle.rules.specs.Receiver.{Receiver}
use Rattle.rules.specs.Sender.{Entry, Sender, outstanding, nth, with_entries, sent}
use Rattle.rules.specs.Retire.{is_retired, retired, retire, named, up_to, has_bit, after_sack}
use Rattle.rules.specs.Marks.{nearest, resent}
use Rattle.rules.specs.Sending.{send_refusals, send, resend_refusals, resend, step}
use Rattle.rules.specs.declared.Answer.{Answer}
use Rattle.rules.specs.declared.Sack.{Sack}
use Rattle.delivery.specs.Wire.{Packet, Reply, Acks, Nacks, hearing, Message, Silent, Goes, Replies, message, Note, base_number, Near, Readable}
use Rattle.delivery.specs.Network.{Start, with_sender, put, on_send, again, on_resend, with_receiver, reply, on_arrive}
use Rattle.delivery.specs.Network.{Next, sends, resends, timers, hears, arrives, beside_sender, beside_receiver, still, then}
use Rattle.delivery.specs.Rules.{given, rules, World, Run}
use Rattle.delivery.specs.Promise.{among, retired_at}
use Rattle.delivery.specs.Progress.{Retired, behind, ahead, Hears, Sacks, Retires}
use Rattle.delivery.proofs.Effects.{by_given, rule_send, rule_resend, rule_timer}
use Rattle.delivery.proofs.Places.{stays}
use Rattle.delivery.proofs.Holds.{Tells, Says, before_here, in_block}
use Rattle.delivery.proofs.Keeps.{nth_is, Quiet, quiet_self, quiet_update, quiet_timer, quiet_nack}
use Rattle.delivery.proofs.Keeps.{retired_new, retired_row, moves, retired_after, place_moves}
use Rattle.delivery.proofs.Taken.{here_sent, cack_ahead, sack_taken}
use Rattle.delivery.proofs.Invariant.{Told, Inv, inv_next, inv_run, invariant}

-- ---- entries: what passes is retired, and what was stays so
retire_named : (f : ℕ → Bool) (l : List Entry) (i : ℕ) → i < length l → f i ≡ true → get_or (map is_retired (retire f l)) i false ≡ true
unfolding retire
retire_named f [] i h e = absurd (omega arith)
retire_named f (x ∷ l) zero h e = rw e
retire_named f (x ∷ l) (suc i) h e = retire_named (λ k. f (suc k)) l i (omega arith) e

retire_keeps : (f : ℕ → Bool) (l : List Entry) (i : ℕ) → get_or (map is_retired l) i false ≡ true → get_or (map is_retired (retire f l)) i false ≡ true
unfolding retire
retire_keeps f [] i e = e
retire_keeps f (x ∷ l) zero e = go (f zero)
  where
    go : (b : Bool) → (cond b (retired x) x).retired ≡ true
    go true = refl
    go false = e
retire_keeps f (x ∷ l) (suc i) e = retire_keeps (λ k. f (suc k)) l i e

-- ---- from world to world: the place does not fall back, nothing is unsent, and what is retired stays so
pub record Grows (w u : World) : Type 0 where
  pub low_on : w.low ≤ u.low
  pub sent_on : length w.sent ≤ length u.sent
  pub retired_on : (i : ℕ) → Retired w i → Retired u i

pub grows_self : (w : World) → Grows w w
grows_self w = record { low_on = omega arith; sent_on = omega arith; retired_on = λ i r. r }

pub grows_on : {w u v : World} → Grows w u → Grows u v → Grows w v
grows_on G H = record {
  low_on = omega (arith, G.low_on, H.low_on);
  sent_on = omega (arith, G.sent_on, H.sent_on);
  retired_on = λ i r. H.retired_on i (G.retired_on i r);
}

grows_alike : (w u : World) → u.low ≡ w.low → length w.sent ≤ length u.sent
    → ((k : ℕ) → retired_at u.sending k ≡ retired_at w.sending k) → Grows w u
grows_alike w u low longer same = record { low_on = omega arith; sent_on = longer; retired_on = go }
  where
    go : (i : ℕ) → Retired w i → Retired u i
    go i (behind h) = behind (omega arith)
    go i (ahead k is r) = ahead k (omega arith) (same k ∙ r)

grows_quiet : (w : World) (x : Sender) → Quiet w.sending x → Grows w (with_sender rules w x)
unfolding with_sender
grows_quiet w x Q = grows_alike w _ (stays w.low w.sending.place x.place Q.place_same) (omega arith) Q.retired_same

grows_idle : (w : World) → Grows w (with_sender rules w w.sending)
grows_idle w = grows_quiet w w.sending (quiet_self w.sending)

grows_send : (w : World) (z : ℕ) → Grows w (rule_send w z)
unfolding rule_send on_send send send_refusals sent left answered message put with_sender with_entries
grows_send w z =
    let x = w.sending in
    let packet : ℕ → Packet = λ p. record { number = length w.sent; psn = p; size = z } in
    let P : Outcome Answer Sender → Type 0 = λ o. Grows w (put (with_sender rules w (left x o)) (z ∷ w.sent) packet (message (answered o))) in
    through P _ _ (λ _. grows_idle w) λ _.
    grows_alike w _ (stays w.low x.place x.place refl) (omega arith) (retired_new x.entries z)

grows_resend : (w : World) → Grows w (rule_resend w)
unfolding rule_resend on_resend resend resend_refusals resent left answered message put with_sender with_entries
grows_resend w =
    let x = w.sending in
    let Q = quiet_update x false (nearest x) in
    let P : Outcome Answer Sender → Type 0 = λ o. Grows w (put (with_sender rules w (left x o)) w.sent (again rules w) (message (answered o))) in
    through P _ _ (λ _. grows_idle w) λ _.
    grows_alike w _ (stays w.low x.place x.place refl) (omega arith) Q.retired_same

grows_timer : (w : World) (p : ℕ) → Grows w (rule_timer w p)
unfolding rule_timer
grows_timer w p = grows_quiet w _ (quiet_timer w.sending (psn p))

grows_reply : (w : World) (r : Receiver) (i z : ℕ) (m : Message) → Grows w (reply (with_receiver rules w r) i z m)
unfolding reply with_receiver
grows_reply w r i z Silent = grows_alike w _ refl (omega arith) (λ k. refl)
grows_reply w r i z (Goes p) = grows_alike w _ refl (omega arith) (λ k. refl)
grows_reply w r i z (Replies q) = grows_alike w _ refl (omega arith) (λ k. refl)

-- ---- a SACK is heard
module _ {s : Start} {w : World} (I : Inv s w) (here : ℕ) (k : Sack) (T : Tells s (among w.accepted) here k)
    (near : Near here w.low) (bits_near : (j : ℕ) → j < 64 → bit_at k.block.bitmap j ≡ true → Near (base_number here k + j + 1) w.low) where
  abbrev x : Sender
  x = w.sending

  abbrev u : World
  u = with_sender rules w (after_sack x k.cack.0 k.block)

  low_is : u.low ≡ w.low + moves x k
  unfolding with_sender
  low_is = ap (λ (d : ℕ). w.low + d) (place_moves I.keeps here k T near bits_near)

  row_retired : (i : ℕ) → get_or (retired_row x k) i false ≡ true → Retired u (w.low + i)
  unfolding with_sender
  row_retired i e =
      let m : ℕ = moves x k in
      let low = low_is in
      elim (dec_lt i m) [
        | yes p ↦ behind (omega arith)
        | no p ↦ ahead (i - m) (omega arith) (retired_after x k (i - m) ∙ ap (λ (y : ℕ). get_or (retired_row x k) y false) (omega arith) ∙ e)
      ]

  grows_sack : Grows w u
  unfolding with_sender
  grows_sack = record { low_on = omega arith; sent_on = omega arith; retired_on = go }
    where
      go : (i : ℕ) → Retired w i → Retired u i
      go i (behind h) = behind (omega arith)
      go i (ahead j is r) = subst (Retired u) (sym is) (row_retired j (retire_keeps _ x.entries j r))

  accepted : (i : ℕ) → Says here k i → among w.accepted i ≡ true
  accepted i (before_here h) = T.to_cack i h
  accepted i (in_block j h is e) = ap (among w.accepted) is ∙ T.bits j e

  named_says : (i : ℕ) → i < outstanding x → Says here k (w.low + i) → named x k.cack.0 k.block i ≡ true
  unfolding named up_to has_bit
  named_says i h (before_here p) =
      let c : ℕ = distance x.place k.cack.0 in
      let far = cack_ahead I.keeps I.bound here k T near bits_near (omega arith) in
      rw (le-leb c (outstanding x) (omega (arith, I.keeps.next_is, here_sent I.keeps I.bound here k T)), lt-ltb i c (omega arith))
  named_says i h (in_block j p is e) =
      let b : ℕ = base_number here k in
      let d : distance k.block.base.0 (nth x i) ≡ j =
      ap₂ distance T.base_is (nth_is I.keeps i) ∙ circle_ahead s.first b (w.low + i) (omega arith) (omega arith) ∙ omega arith in
      rw (d, lt-ltb j 64 p, e) (or-true (ltb i (up_to x k.cack.0)))

  says_retires : (i : ℕ) → Says here k i → Retired u i
  unfolding with_sender
  says_retires i S = elim (dec_lt i w.low) [
    | yes p ↦ behind (omega arith)
    | no p ↦
        let j : ℕ = i - w.low in
        let few : j < outstanding x = omega (arith, I.bound i (accepted i S), I.keeps.next_is) in
        let is : w.low + j ≡ i = omega arith in
        subst (Retired u) is (row_retired j (retire_named _ x.entries j few (named_says j few (subst (Says here k) (sym is) S))))
  ]

module _ {s : Start} {w : World} (I : Inv s w) where
  grows_heard : (n : Note) (q : Reply) → Told s (among w.accepted) (length w.sent) n q → Readable w.low n q
      → Grows w (with_sender rules w (left w.sending (step w.sending (hearing q))))
  unfolding step hearing Told Readable left
  grows_heard n (Acks b k) T R =
      rw (sack_taken I.keeps I.bound n.here k T.tells R.0 R.1) (grows_sack I n.here k T.tells R.0 R.1)
  grows_heard n (Nacks k) T R = grows_quiet w _ (quiet_nack w.sending k.psn k.reason)

  heard_retires : (n : Note) (b : Bool) (k : Sack) → Told s (among w.accepted) (length w.sent) n (Acks b k) → Readable w.low n (Acks b k)
      → Retired (with_sender rules w (left w.sending (step w.sending (hearing (Acks b k))))) n.about
  unfolding step hearing Told Readable left
  heard_retires n b k T R =
      rw (sack_taken I.keeps I.bound n.here k T.tells R.0 R.1) (says_retires I n.here k T.tells R.0 R.1 n.about T.says)

  pub grows_next : {u : World} → Next rules w u → Grows w u
  unfolding rule_send rule_resend rule_timer on_arrive step
  grows_next (sends z a x given) = grows_send w z
  grows_next (resends a x given) = grows_resend w
  grows_next (timers p a x t) = by_given (λ b y. Grows w (with_sender rules w y)) (grows_timer w p) t
  grows_next (hears n there h a x t) =
      by_given (λ b y. Grows w (with_sender rules w y)) (grows_heard n n.reply (I.told n there) h) t
  grows_next (arrives p there near f a r g) = grows_reply w r p.number _ (message a)
  grows_next (beside_sender x e) = absurd e
  grows_next (beside_receiver r e) = absurd e

  next_retires : {u : World} (e : Next rules w u) (n : Note) (i : ℕ) → Sacks n i → Hears e n → Retired u i
  unfolding Hears
  next_retires (sends z a x g) n i S h = absurd h
  next_retires (resends a x g) n i S h = absurd h
  next_retires (timers p a x g) n i S h = absurd h
  next_retires (hears m there r a x t) n i S h =
      let is : m.reply ≡ Acks S.accepting S.sack = ap (λ (y : Note). y.reply) h ∙ S.reply_is in
      let about : m.about ≡ i = ap (λ (y : Note). y.about) h ∙ S.about_is in
      let T = subst (Told s (among w.accepted) (length w.sent) m) is (I.told m there) in
      let R = subst (Readable w.low m) is r in
      let heard : Retired (with_sender rules w (left w.sending (step w.sending (hearing m.reply)))) i =
      rw is (subst (Retired _) about (heard_retires m S.accepting S.sack T R)) in
      by_given (λ b y. Retired (with_sender rules w y) i) heard t
  next_retires (arrives p there near f a r g) n i S h = absurd h
  next_retires (beside_sender x g) n i S h = absurd h
  next_retires (beside_receiver r g) n i S h = absurd h

pub grows_run : {s : Start} {w v : World} → Inv s w → Run w v → Grows w v
grows_run {w = w} I still = grows_self w
grows_run I (then r e) = grows_on (grows_run I r) (grows_next (inv_run I r) e)

pub retires : Retires
retires s w u v run e n i S h further =
    let I = invariant run in
    (grows_run (inv_next I e) further).retired_on i (next_retires I e n i S h)
