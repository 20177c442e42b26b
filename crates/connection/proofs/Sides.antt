-- An event on one side of a connection: an empty side refuses, and a started one stays started, since a rule keeps its room. Assumes nothing.
use mathlib.Core.Path.{◌≡◌, refl, sym, ap, ◌∙◌, subst}
use mathlib.Core.Bool.{true, false≢true}
use mathlib.Core.Logic.{◌⊎◌, inl, inr}
use Prim.Native.Nat.{ℕ}
use borrow.Author.Tests.{eq-eqb}
use Rattle.std.specs.Prelude.{Err}
use Rattle.promise.specs.Outcome.{Outcome, Refused, left, within}
use Rattle.promise.specs.Promise.{told, Meets}
use Rattle.promise.proofs.Meeting.{refuses, part}
use Rattle.rules.specs.Numbers.{room_ok}
use Rattle.rules.specs.Numbered.{number}
use Rattle.rules.specs.Paper.{paper, Reply}
use Rattle.rules.specs.Receiver as rule_receiver
use Rattle.rules.specs.Receiving.{Receiving}
use Rattle.rules.specs.Receiving as rule-receiving
use Rattle.rules.specs.Sender as rule_sender
use Rattle.rules.specs.Sending as rule-sending
use Rattle.rules.specs.Connection.{with_sender, with_receiver}
use Rattle.rules.specs.Connection as rule
use Rattle.rules.specs.declared.Answer.{Answer}
use Rattle.rules.specs.declared.Refusal.{Refusal}
use Rattle.rules.specs.declared.Sending.{Sending}
use Rattle.rules.proofs.Rooms.{room_sending, room_receiving, unused_sending, unused_receiving}
use Rattle.lists.specs.Index.{table}
use Rattle.lists.proofs.Index.{length_table}
use Rattle.sending.specs.Lent as rows
use Rattle.sender.specs.declared.Sender.{Sender}
use Rattle.sender.specs.Record as sender
use Rattle.receiving.specs.Lent as lent
use Rattle.receiver.specs.declared.Receiver.{Receiver}
use Rattle.receiver.specs.Record as receiver
use Rattle.connection.specs.declared.Connection.{Connection}
use Rattle.connection.specs.Record.{meaning, empty, Sound, Steps}

-- ---- the record of no connection means the rules' own
pub empty_means : meaning empty ≡ rule.empty
unfolding meaning rows.meaning lent.meaning table
empty_means = refl

-- ---- the rule refuses an event, and so does the code, which leaves the record
pub refused_by : (c : Connection) (o : Outcome Answer rule.Connection) (r : Reply) (why : Refusal) → Sound c → o ≡ Refused (number why) → r ≡ Err why
    → Steps c o r c
unfolding told
refused_by c o r why sound rule said = subst (λ (q : Reply). Steps c o q c) (sym said) (refuses (number why) rule refl refl sound)

-- ---- each side of a sound connection is sound
pub sender_sound : (c : Connection) → Sound c → sender.Sound c.sender
sender_sound c (inl e) = inl (ap (λ (d : Connection). d.sender) e)
sender_sound c (inr s) = inr s.sends

pub receiver_sound : (c : Connection) → Sound c → receiver.Sound c.receiver
receiver_sound c (inl e) = inl (ap (λ (d : Connection). d.receiver) e)
receiver_sound c (inr s) = inr s.receives

-- ---- a side that an event leaves with a room was started
-- no room that is allowed is 0
pub not_zero : (n : ℕ) → room_ok n ≡ true → n ≡ 0 → ⊥
unfolding room_ok
not_zero n h e = false≢true (subst (λ (m : ℕ). room_ok m ≡ true) e h)

-- whichever side it is
with_room : {P Q : Type 0} (StartedP : P → Type 0) (none : P) (meaningP : P → Q) (room : Q → ℕ) (x y : P) (o : Outcome Answer Q) (r : Reply)
    → room (meaningP none) ≡ 0 → room_ok (room (left (meaningP x) o)) ≡ true → Meets paper number (λ p. (p ≡ none) ⊎ StartedP p) meaningP x o r y
    → StartedP y
with_room StartedP none meaningP room x y o r zero ok m = go m.sound
  where
    go : (y ≡ none) ⊎ StartedP y → StartedP y
    go (inl e) = absurd (not_zero (room (left (meaningP x) o)) ok (sym (ap room m.record_is) ∙ ap (λ p. room (meaningP p)) e ∙ zero))
    go (inr s) = s

pub sender_in_use : (x y : Sender) (o : Outcome Answer rule_sender.Sender) (r : Reply) → room_ok (left (sender.meaning x) o).room ≡ true
    → sender.Steps x o r y → sender.Started y
unfolding rows.meaning
sender_in_use x y o r = with_room sender.Started sender.empty sender.meaning (λ s. s.room) x y o r refl

pub receiver_in_use : (x y : Receiver) (o : Outcome Answer rule_receiver.Receiver) (r : Reply)
    → room_ok (rule_receiver.room (left (receiver.meaning x) o)) ≡ true → receiver.Steps x o r y → lent.Started (receiver.lent_of y)
unfolding lent.meaning table
receiver_in_use x y o r = with_room (λ q. lent.Started (receiver.lent_of q)) receiver.empty receiver.meaning rule_receiver.room x y o r refl

module _ (c : Connection) (sound : Sound c) where
  -- ---- an event on the sending side: it keeps the room, and an empty side refuses it
  module _ (e : Sending) where
    abbrev sends : Outcome Answer rule_sender.Sender
    sends = rule-sending.step (sender.meaning c.sender) e

    -- what the side gives is what the connection gives
    pub on_sender : (r : Reply) (y : Sender) → sender.Steps c.sender sends r y
        → Steps c (within (with_sender (meaning c)) sends) r (record { sender = y; receiver = c.receiver })
    unfolding meaning rows.meaning
    on_sender r y m =
        part put (with_sender (meaning c)) c c.sender sends r y refl (λ x. refl) m (go sound)
      where
        put : Sender → Connection
        put x = record { sender = x; receiver = c.receiver }

        go : Sound c → Sound (put y)
        go (inl n) =
            let free : c.sender.head.room ≡ 0 = ap (λ (d : Connection). d.sender.head.room) n in
            inl (ap put (m.untouched 2 (unused_sending (sender.meaning c.sender) e (eq-eqb c.sender.head.room 0 free))) ∙ n)
        go (inr s) =
            let kept = (room_sending (sender.meaning c.sender) e).holds in
            inr (record { sends = sender_in_use c.sender y sends r (ap room_ok kept ∙ s.sends.room_good) m; receives = s.receives })

  -- ---- and on the receiving side
  module _ (e : Receiving) where
    abbrev receives : Outcome Answer rule_receiver.Receiver
    receives = rule-receiving.step (receiver.meaning c.receiver) e

    pub on_receiver : (r : Reply) (y : Receiver) → receiver.Steps c.receiver receives r y
        → Steps c (within (with_receiver (meaning c)) receives) r (record { sender = c.sender; receiver = y })
    unfolding meaning lent.meaning table
    on_receiver r y m =
        part put (with_receiver (meaning c)) c c.receiver receives r y refl (λ x. refl) m (go sound)
      where
        put : Receiver → Connection
        put x = record { sender = c.sender; receiver = x }

        go : Sound c → Sound (put y)
        go (inl n) =
            let free : rule_receiver.unused (receiver.meaning c.receiver) ≡ true =
            ap (λ (d : Connection). rule_receiver.unused (receiver.meaning d.receiver)) n in
            inl (ap put (m.untouched 2 (unused_receiving (receiver.meaning c.receiver) e free)) ∙ n)
        go (inr s) =
            let kept = (room_receiving (receiver.meaning c.receiver) e).holds in
            inr (record {
              sends = s.sends;
              receives = receiver_in_use c.receiver y receives r
                  (ap room_ok (kept ∙ length_table c.receiver.head.room (lent.accepted (receiver.lent_of c.receiver))) ∙ s.receives.room_good) m;
            })
