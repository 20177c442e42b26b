-- What holds in every world of a run: both records and the histories all speak of the one set of packets accepted, and the bytes counted
-- are those of the arrivals that a SACK answered. Each event keeps it. Assumes nothing.
use mathlib.Core.Path.{◌≡◌, refl, sym, ap, ◌∙◌, subst}
use mathlib.Core.Bool.{Bool, true, false, cond, ◌||◌, false≢true}
use mathlib.Core.List.Memᴰ
use mathlib.Core.List.{List, [], ◌∷◌, ◌++◌, Memᴰ}
use mathlib.Core.Logic.{◌⊎◌, inl, inr}
use Prim.Native.Nat.{ℕ, ◌+◌, ◌%◌, ◌^◌, ◌≤◌, ◌<◌}
use native.Mathlib.Omega.{arith}
use native.Mathlib.Nat.{mod-add-mod}
use native.Mathlib.Decide.{ℕ_discrete, dec_lt}
use lib.ListN.{length, set}
use borrow.Author.Tests.{leb-false, not-false}
use Rattle.rules.specs.Numbers.{turn, after, distance, psn, size_ok, reason_ok}
use Rattle.lists.specs.Lists.{lead, update}
use Rattle.promise.specs.Outcome.{Outcome, left}
use Rattle.rules.specs.Paper.{answered}
use Rattle.rules.specs.Receiver.{Receiver, verdict, accept, counted, sack_of, reason_of, nack_of, acked, judged}
use Rattle.rules.specs.Receiving.{arrive}
use Rattle.rules.specs.Receiving as receiving
use Rattle.rules.specs.Receiver as receiver
use Rattle.rules.specs.Sender.{Sender, outstanding, nth, next, with_entries, new, sent}
use Rattle.rules.specs.Sender as sender
use Rattle.rules.specs.Retire.{after_sack, acknowledged}
use Rattle.rules.specs.Marks.{with_mark, nearest, resent}
use Rattle.rules.specs.Sending.{send_refusals, send, sack, nack, timer, resend_refusals, resend, step}
use Rattle.lists.specs.Lists.{All}
use Rattle.rules.specs.declared.Arrival.{Arrival}
use Rattle.rules.specs.declared.Sack.{Sack}
use Rattle.rules.specs.declared.Nack.{Nack}
use Rattle.rules.specs.declared.Verdict.{Verdict}
use Rattle.rules.specs.declared.Answer.{Answer}
use Rattle.rules.specs.declared.Verdict.TheVariants.{Fresh, Known, Beyond, NoBuffer, Trim, TrimLastHop}
use Rattle.lists.proofs.Joined.{never_true}
use Rattle.promise.proofs.Refusing.{Past, through}
use Rattle.promise.proofs.Outcomes.{After, after_unless, after_done}
use Rattle.delivery.specs.Wire.{Packet, Fate, arrival, Reply, Acks, Nacks, hearing, Goes, accepts, message, Note, Near, Readable}
use Rattle.delivery.specs.Network.{Start, with_sender, put, on_send, size_of, again, on_resend, with_receiver, acceptance, reply, on_arrive}
use Rattle.delivery.specs.Network.{Next, sends, resends, timers, hears, arrives, beside_sender, beside_receiver, still, then}
use Rattle.delivery.specs.Network as network
use Rattle.delivery.specs.Rules.{given, rules, World, Run, begin}
use Rattle.delivery.specs.Promise.{among, Once, adds, received}
use Rattle.delivery.proofs.Effects.{by_given, rule_send, rule_resend, rule_timer, rule_hear, noted, rule_arrive}
use Rattle.delivery.proofs.Rooms.{room_few}
use Rattle.delivery.proofs.Places.{moved, stays}
use Rattle.delivery.proofs.Sets.{at_least, plus, plus_same, plus_other, plus_more}
use Rattle.delivery.proofs.Bytes.{Sizes, size_of_older, size_of_newest, size_sent}
use Rattle.delivery.proofs.Holds.{Holds, fresh_holds, accept_holds, accept_few, counted_holds, Newcomer, newcomer, known_accepted}
use Rattle.delivery.proofs.Holds.{Tells, sack_tells, Says, sack_says}
use Rattle.delivery.proofs.Keeps.{Keeps, nth_is, Quiet, quiet_self, quiet_update, quiet_timer, quiet_nack, keeps_quiet}
use Rattle.delivery.proofs.Keeps.{keeps_more, keeps_send, next_number, keeps_sack, place_moves, fresh_rests, rest_keeps}

-- a packet on the wire is one that was sent
pub record Carries (s : Start) (sent : List ℕ) (p : Packet) : Type 0 where
  pub psn_is : p.psn ≡ after s.first p.number
  pub was_sent : p.number < length sent
  pub size_is : p.size ≡ size_of sent p.number

-- and packet i stays there
pub record OnWire (wire : List Packet) (i : ℕ) : Type 0 where
  pub packet : Packet
  pub there : Memᴰ packet wire
  pub number_is : packet.number ≡ i

-- a NACK names the packet that it answers, one of the n sent
pub record Names (s : Start) (n about : ℕ) (k : Nack) : Type 0 where
  pub psn_is : k.psn.0 ≡ after s.first about
  pub was_sent : about < n
  pub reason_good : reason_ok k.reason ≡ true

-- a SACK tells what is accepted, and says so of the packet that it answers
pub record Answers (s : Start) (A : ℕ → Bool) (here about : ℕ) (k : Sack) : Type 0 where
  pub tells : Tells s A here k
  pub says : Says here k about

unfoldable pub Told : Start → (ℕ → Bool) → ℕ → Note → Reply → Type 0
Told s A n note (Acks b k) = Answers s A note.here note.about k
Told s A n note (Nacks k) = Names s n note.about k

told_more : (s : Start) (A B : ℕ → Bool) (n m : ℕ) → ((j : ℕ) → A j ≡ true → B j ≡ true) → n ≤ m
    → (note : Note) (q : Reply) → Told s A n note q → Told s B m note q
unfolding Told
told_more s A B n m more h note (Acks b k) T =
    let U = T.tells in
    record {
      tells = record {
        cack_is = U.cack_is;
        base_is = U.base_is;
        to_cack = λ i h. more i (U.to_cack i h);
        bits = λ j e. more _ (U.bits j e);
        consistent = U.consistent;
      };
      says = T.says;
    }
told_more s A B n m more h note (Nacks k) T = record { psn_is = T.psn_is; was_sent = omega (arith, T.was_sent); reason_good = T.reason_good }

pub record Inv (s : Start) (w : World) : Type 0 where
  pub holds : Holds s (among w.accepted) w.receiving w.at
  pub keeps : Keeps s (among w.accepted) (length w.sent) w.sending w.low
  pub bound : (i : ℕ) → among w.accepted i ≡ true → i < length w.sent
  pub counted : w.receiving.count ≡ received w.notes % 2 ^ 32
  pub once : Once w.accepted
  pub sizes : Sizes w.sent
  pub carried : (p : Packet) → Memᴰ p w.wire → Carries s w.sent p
  pub on_wire : (i : ℕ) → i < length w.sent → OnWire w.wire i
  pub told : (n : Note) → Memᴰ n w.notes → Told s (among w.accepted) (length w.sent) n n.reply

inv_begin : (s : Start) → Inv s (begin s)
unfolding begin network.begin receiver.fresh sender.fresh among received Once All
inv_begin s = record {
  holds = fresh_holds s (among []) (λ j. refl);
  keeps = subst (λ (x : Sender). Keeps s (among []) 0 x 0) (sym (fresh_rests s)) (rest_keeps s (among []) 0 (λ i h. absurd (omega arith)));
  bound = λ i e. absurd (false≢true e);
  counted = refl;
  once = tt;
  sizes = tt;
  carried = λ p m. absurd (Memᴰ.not-nil m);
  on_wire = λ i h. absurd (omega arith);
  told = λ n m. absurd (Memᴰ.not-nil m);
}

module _ {s : Start} {w : World} (I : Inv s w) where
  -- a packet on the wire has a good size
  pub size_good : (p : Packet) → Memᴰ p w.wire → size_ok p.size ≡ true
  size_good p there = let C = I.carried p there in ap size_ok C.size_is ∙ size_sent w.sent p.number I.sizes C.was_sent

  -- the next packet is not accepted
  pub not_yet : among w.accepted (length w.sent) ≡ false
  not_yet = never_true _ (λ e. let q = I.bound (length w.sent) e in omega arith)

  -- the sender's place is not ahead of the receiver's
  pub not_ahead : w.low ≤ w.at
  not_ahead = at_least I.holds.missing w.low I.keeps.below

  -- ---- what the sender does
  inv_sender : (x : Sender) → Keeps s (among w.accepted) (length w.sent) x (w.low + distance w.sending.place x.place)
      → Inv s (with_sender rules w x)
  unfolding with_sender
  inv_sender x K = record {
    holds = I.holds;
    keeps = K;
    bound = I.bound;
    counted = I.counted;
    once = I.once;
    sizes = I.sizes;
    carried = I.carried;
    on_wire = I.on_wire;
    told = I.told;
  }

  inv_quiet : (x : Sender) → Quiet w.sending x → Inv s (with_sender rules w x)
  inv_quiet x Q = inv_sender x (rw (stays w.low w.sending.place x.place Q.place_same) (keeps_quiet I.keeps x Q))

  inv_idle : Inv s (with_sender rules w w.sending)
  inv_idle = inv_quiet w.sending (quiet_self w.sending)

  inv_timer : (p : ℕ) → Inv s (rule_timer w p)
  unfolding rule_timer
  inv_timer p = inv_quiet (left w.sending (timer w.sending (psn p))) (quiet_timer w.sending (psn p))

  inv_sack : (n : Note) (b : Bool) (k : Sack) → Tells s (among w.accepted) n.here k → Readable w.low n (Acks b k)
      → Inv s (with_sender rules w (left w.sending (sack w.sending k.cack k.block)))
  unfolding sack acknowledged Readable
  inv_sack n b k T R =
      let x = w.sending in
      let y : Sender = after_sack x k.cack.0 k.block in
      let K = keeps_sack I.keeps n.here k T R.0 R.1 in
      let far = place_moves I.keeps n.here k T R.0 R.1 in
      let P : Sender → Type 0 = λ z. Inv s (with_sender rules w z) in
      let done : After P x (sack x k.cack k.block) = after_unless P x _ _ inv_idle (λ _. after_done P x _ _ (inv_sender y (rw far K))) in
      done.holds

  inv_heard : (n : Note) (q : Reply) → Told s (among w.accepted) (length w.sent) n q → Readable w.low n q
      → Inv s (with_sender rules w (left w.sending (step w.sending (hearing q))))
  unfolding step hearing Told
  inv_heard n (Acks b k) T R = inv_sack n b k T.tells R
  inv_heard n (Nacks k) T R = inv_quiet (left w.sending (nack w.sending k.psn k.reason)) (quiet_nack w.sending k.psn k.reason)

  inv_hear : (n : Note) → Memᴰ n w.notes → Readable w.low n n.reply → Inv s (rule_hear w n)
  unfolding rule_hear
  inv_hear n m R = inv_heard n n.reply (I.told n m) R

  -- a packet goes out: the new one, or one of those sent
  inv_goes : (x : Sender) (l : List ℕ) (packet : ℕ → Packet) (q : ℕ)
      → Keeps s (among w.accepted) (length l) x (w.low + distance w.sending.place x.place)
      → length w.sent ≤ length l
      → Sizes l
      → ((i : ℕ) → i < length w.sent → size_of l i ≡ size_of w.sent i)
      → Carries s l (packet q)
      → ((i : ℕ) → i < length l → length w.sent ≤ i → (packet q).number ≡ i)
      → Inv s (put (with_sender rules w x) l packet (Goes q))
  unfolding put with_sender
  inv_goes x l packet q K longer sizes older C newer = record {
    holds = I.holds;
    keeps = K;
    bound = λ i e. omega (arith, I.bound i e);
    counted = I.counted;
    once = I.once;
    sizes = sizes;
    carried = λ p m. carried p (Memᴰ.cases_cons m);
    on_wire = λ i h. elim (dec_lt i (length w.sent)) [
      | yes y ↦ let O = I.on_wire i y in record { packet = O.packet; there = Memᴰ.tail O.there; number_is = O.number_is }
      | no y ↦ record { packet = packet q; there = Memᴰ.head refl; number_is = newer i h (omega arith) }
    ];
    told = λ n m. told_more s _ _ (length w.sent) (length l) (λ j e. e) longer n n.reply (I.told n m);
  }
    where
      carried : (p : Packet) → (p ≡ packet q) ⊎ Memᴰ p w.wire → Carries s l p
      carried p (inl e) = subst (Carries s l) (sym e) C
      carried p (inr m) =
          let D = I.carried p m in
          record { psn_is = D.psn_is; was_sent = omega (arith, D.was_sent); size_is = D.size_is ∙ sym (older p.number D.was_sent) }

  inv_send : (z : ℕ) → Inv s (rule_send w z)
  unfolding rule_send on_send send send_refusals sent left answered message put with_entries All Past
  inv_send z =
      let x = w.sending in
      let y : Sender = with_entries x (x.entries ++ (new z ∷ [])) in
      let packet : ℕ → Packet = λ p. record { number = length w.sent; psn = p; size = z } in
      let P : Outcome Answer Sender → Type 0 = λ o. Inv s (put (with_sender rules w (left x o)) (z ∷ w.sent) packet (message (answered o))) in
      through P _ _ (λ _. inv_idle) λ past.
      let good = past.1.0 in
      let room = past.1.1.0 in
      inv_goes y (z ∷ w.sent) packet (next x)
      (rw (stays w.low x.place y.place refl) (keeps_send I.keeps z (leb-false _ _ room))) (omega arith)
      (not-false (size_ok z) good, I.sizes) (size_of_older z w.sent)
      (record { psn_is = next_number I.keeps; was_sent = omega arith; size_is = sym (size_of_newest z w.sent) })
      (λ i h k. omega arith)

  inv_resend : Inv s (rule_resend w)
  unfolding rule_resend on_resend resend resend_refusals resent left answered message put again Past
  inv_resend =
      let x = w.sending in
      let o : ℕ = nearest x in
      let y : Sender = with_entries x (update (with_mark false) x.entries o) in
      let Q = quiet_update x false o in
      let P : Outcome Answer Sender → Type 0 = λ o. Inv s (put (with_sender rules w (left x o)) w.sent (again rules w) (message (answered o))) in
      through P _ _ (λ _. inv_idle) λ past.
      let few : o < outstanding x = leb-false _ _ past.1.0 in
      let small : o < turn = omega (arith, I.keeps.room_left, room_few s.send_room s.send_good) in
      let first : nth x 0 ≡ after s.first w.low = nth_is I.keeps 0 ∙ ap (after s.first) (omega arith) in
      let i_is : w.low + distance (nth x 0) (nth x o) ≡ w.low + o =
      ap (λ (d : ℕ). w.low + d) (moved s.first w.low o _ _ first (nth_is I.keeps o) small) in
      inv_goes y w.sent (again rules w) (nth x o)
      (rw (stays w.low x.place y.place Q.place_same) (keeps_quiet I.keeps y Q)) (omega arith)
      I.sizes (λ i h. refl)
      (record { psn_is = nth_is I.keeps o ∙ ap (after s.first) (sym i_is); was_sent = omega (arith, I.keeps.next_is); size_is = refl })
      (λ i h k. absurd (omega arith))

-- ---- what the receiver does
pub size_whole : (t l : Bool) (a b : ℕ) → t ≡ false → l ≡ false → cond (t || l) a b ≡ b
size_whole t l a b p q = rw (p, q)

module _ {s : Start} {w : World} (I : Inv s w) where
  here_still : w.at + distance w.receiving.expected w.receiving.expected ≡ w.at
  here_still = stays w.at w.receiving.expected w.receiving.expected refl

  inv_unread : Inv s (with_receiver rules w w.receiving)
  unfolding with_receiver
  inv_unread = record {
    holds = rw here_still I.holds;
    keeps = I.keeps;
    bound = I.bound;
    counted = I.counted;
    once = I.once;
    sizes = I.sizes;
    carried = I.carried;
    on_wire = I.on_wire;
    told = I.told;
  }

  -- a record r that holds the packets l, with those that are accepted already among them
  record Accepting (r : Receiver) (l : List ℕ) : Type 0 where
    holds : Holds s (among l) r (w.at + distance w.receiving.expected r.expected)
    more : (j : ℕ) → among w.accepted j ≡ true → among l j ≡ true
    bound : (j : ℕ) → among l j ≡ true → j < length w.sent
    once : Once l

  as_it_was : Accepting w.receiving w.accepted
  as_it_was = record { holds = rw here_still I.holds; more = λ j e. e; bound = I.bound; once = I.once }

  inv_noted : (r : Receiver) (l : List ℕ) (i z : ℕ) (m : Reply) → Accepting r l → r.count ≡ (received w.notes + adds m z) % 2 ^ 32
      → Told s (among l) (length w.sent) (record { reply = m; here = w.at + distance w.receiving.expected r.expected; about = i; size = z }) m
      → Inv s (noted (with_receiver rules w r) l i z m)
  unfolding noted with_receiver received
  inv_noted r l i z m K counted T = record {
    holds = K.holds;
    keeps = keeps_more I.keeps (among l) K.more;
    bound = K.bound;
    counted = counted;
    once = K.once;
    sizes = I.sizes;
    carried = I.carried;
    on_wire = I.on_wire;
    told = λ n y. told n (Memᴰ.cases_cons y);
  }
    where
      told : (n : Note)
          → (n ≡ record { reply = m; here = w.at + distance w.receiving.expected r.expected; about = i; size = z }) ⊎ Memᴰ n w.notes
          → Told s (among l) (length w.sent) n n.reply
      told n (inl e) = subst (λ (y : Note). Told s (among l) (length w.sent) y y.reply) (sym e) T
      told n (inr y) = told_more s (among w.accepted) (among l) (length w.sent) (length w.sent) K.more (omega arith) n n.reply (I.told n y)

  -- a NACK leaves the record as it was
  inv_nacked : (i z : ℕ) (k : Nack) → Names s (length w.sent) i k → Inv s (noted (with_receiver rules w w.receiving) w.accepted i z (Nacks k))
  unfolding Told adds
  inv_nacked i z k N = inv_noted w.receiving w.accepted i z (Nacks k) as_it_was (I.counted ∙ ap (λ (t : ℕ). t % 2 ^ 32) (omega arith)) N

  module _ (p : Packet) (C : Carries s w.sent p) (near : Near p.number w.at) (f : Fate) where
    abbrev i : ℕ
    i = p.number

    abbrev a : Arrival
    a = arrival p f

    -- a SACK: the packet is among those that r holds, and its size is counted
    inv_acked : (b : Bool) (r : Receiver) (l : List ℕ) → Accepting r l → among l i ≡ true → r.count ≡ w.receiving.count
        → Inv s (noted (with_receiver rules w (counted r a)) l i a.size (Acks b (sack_of (counted r a) a)))
    unfolding Told adds arrival counted
    inv_acked b r l K there same =
        let H = counted_holds K.holds a in
        inv_noted (counted r a) l i a.size _ (record { holds = H; more = K.more; bound = K.bound; once = K.once })
        (ap (λ (x : ℕ). (x + a.size) % 2 ^ 32) (same ∙ I.counted) ∙ mod-add-mod (received w.notes) (2 ^ 32) a.size)
        (record { tells = sack_tells H a; says = sack_says H i a C.psn_is there })

    inv_fresh : verdict w.receiving a ≡ Fresh
        → let r = counted (accept w.receiving a) a in
        Inv s (noted (with_receiver rules w r) (i ∷ w.accepted) i a.size (Acks true (sack_of r a)))
    unfolding arrival accept among plus Once
    inv_fresh e =
        let A : ℕ → Bool = among w.accepted in
        let r : Receiver = w.receiving in
        let d : ℕ = distance r.expected p.psn in
        let r' : Receiver = accept r a in
        let k : ℕ = lead (set r.window d true) in
        let N : Newcomer s A r w.at i a = newcomer I.holds i a C.psn_is near e in
        let H : Holds s (among (i ∷ w.accepted)) r' (w.at + k) =
        subst (λ (x : ℕ). Holds s (plus x A) r' (w.at + k)) (sym N.unknown.number) (accept_holds I.holds a N.inside) in
        let few : k < turn = accept_few I.holds a N.inside in
        let here : w.at + distance r.expected r'.expected ≡ w.at + k =
        ap (λ (x : ℕ). w.at + x) (moved s.first w.at k r.expected r'.expected I.holds.expected_is H.expected_is few) in
        inv_acked true r' (i ∷ w.accepted)
        (record {
          holds = rw here H;
          more = λ j q. plus_more i j A q;
          bound = λ j q. elim (ℕ_discrete i j) [ yes y ↦ omega (arith, C.was_sent) | no y ↦ I.bound j (sym (plus_other i j A y) ∙ q) ];
          once = (N.unknown.absent, I.once);
        })
        (plus_same i i A refl) refl

    inv_known : verdict w.receiving a ≡ Known
        → let r = counted w.receiving a in Inv s (noted (with_receiver rules w r) w.accepted i a.size (Acks false (sack_of r a)))
    unfolding arrival
    inv_known e = inv_acked false w.receiving w.accepted as_it_was (known_accepted I.holds i a C.psn_is near e) refl

    names : (v : Verdict) → reason_ok (reason_of v) ≡ true → Names s (length w.sent) i (nack_of v a)
    unfolding nack_of arrival
    names v good = record { psn_is = C.psn_is; was_sent = C.was_sent; reason_good = good }

    inv_judged : (v : Verdict) → verdict w.receiving a ≡ v
        → let o = judged w.receiving a v in Inv s (reply (with_receiver rules w (left w.receiving o)) i a.size (message (answered o)))
    unfolding judged acked left answered message accepts reply acceptance noted with_receiver reason_of reason_ok
    inv_judged Fresh e = inv_fresh e
    inv_judged Known e = inv_known e
    inv_judged Beyond e = inv_nacked i _ _ (names Beyond refl)
    inv_judged NoBuffer e = inv_nacked i _ _ (names NoBuffer refl)
    inv_judged Trim e = inv_nacked i _ _ (names Trim refl)
    inv_judged TrimLastHop e = inv_nacked i _ _ (names TrimLastHop refl)

    inv_arrive : Inv s (rule_arrive w p f)
    unfolding rule_arrive on_arrive arrive left answered message reply
    inv_arrive =
        let P : Outcome Answer Receiver → Type 0 = λ o. Inv s (reply (with_receiver rules w (left w.receiving o)) i a.size (message (answered o))) in
        through P _ _ (λ _. inv_unread) (λ _. inv_judged (verdict w.receiving (arrival p f)) refl)

-- ---- so each event keeps it
pub inv_next : {s : Start} {w u : World} → Inv s w → Next rules w u → Inv s u
unfolding rule_send rule_resend rule_timer rule_hear rule_arrive step receiving.step
inv_next I (sends z a x given) = inv_send I z
inv_next I (resends a x given) = inv_resend I
inv_next {s} {w} I (timers p a x t) = by_given (λ b y. Inv s (with_sender rules w y)) (inv_timer I p) t
inv_next {s} {w} I (hears n m h a x t) = by_given (λ b y. Inv s (with_sender rules w y)) (inv_hear I n m h) t
inv_next I (arrives p m h f a q given) = inv_arrive I p (I.carried p m) h f
inv_next I (beside_sender x e) = absurd e
inv_next I (beside_receiver q e) = absurd e

pub inv_run : {s : Start} {v w : World} → Inv s v → Run v w → Inv s w
inv_run I still = I
inv_run I (then r e) = inv_next (inv_run I r) e

pub invariant : {s : Start} {w : World} → Run (begin s) w → Inv s w
invariant {s} r = inv_run (inv_begin s) r
