-- The sides inside tables follow the rules: an event of a side goes by its rule, and nothing else touches it. An event in another slot
-- leaves this one's very record, and one of the other side leaves this side. Assumes nothing.
use mathlib.Core.Path.{◌≡◌, refl, sym, ap, ◌∙◌}
use mathlib.Core.Bool.{false}
use mathlib.Core.List.{List}
use mathlib.Core.Logic.{⊎_elim}
use Prim.Native.Nat.{ℕ}
use native.Mathlib.Decide.{ℕ_discrete}
use lib.ListN.{get_or}
use Rattle.promise.specs.Outcome.{left}
use Rattle.rules.specs.Paper.{Reply, answered}
use Rattle.rules.specs.Connection.{fresh}
use Rattle.rules.specs.Connection as rule
use Rattle.rules.specs.Table.{at, outside, on}
use Rattle.rules.specs.declared.Opening.{Opening}
use Rattle.rules.specs.declared.Start.{Start}
use Rattle.rules.specs.declared.Event.{Event}
use Rattle.rules.specs.declared.Event.TheVariants as event
use Rattle.rules.proofs.Settled.{answer_is_rule}
use Rattle.rules.specs.Receiver as rule_receiver
use Rattle.rules.specs.Sender as rule_sender
use Rattle.connection.specs.declared.Connection.{Connection}
use Rattle.connection.specs.Record.{empty}
use Rattle.connection.specs.Record as connection
use Rattle.sender.specs.Record as sender
use Rattle.receiver.specs.Record as receiver
use Rattle.table.specs.Slots.{On, meaning}
use Rattle.table.proofs.Slots.{at_means}
use Rattle.delivery.specs.Rules.{Gives, rules}
use Rattle.delivery.proofs.Following.{Follows, keeps}
use Rattle.bridge.specs.Tables.{sending_in, receiving_in, sending_opens, receiving_opens, Started, Sending, sends, Receiving, receives, Else}
use Rattle.bridge.specs.Tables.{tables, TablesKeep}
use Rattle.bridge.proofs.Engines.{gives}
use Rattle.bridge.proofs.Halves.{Half, sending_half, receiving_half, half_answer, half_next, half_same, still_here}
use Rattle.bridge.proofs.Begun.{start_here, start_leaves}

-- what every table that is reached has: the slot is one of its own
abbrev Here : ℕ → List Connection → Type 0
Here i t = outside (meaning t) i ≡ false

-- what any half of the connection in slot i is in the rules' table; `means` is what the half of a record means
module _ {P Q E : Type 0} (H : Half P Q E) (i : ℕ) (means : Connection → P)
    (at_it : (t : List Connection) → H.mine (at (meaning t) i) ≡ means (get_or t i empty)) where
  abbrev in_it : List Connection → P
  in_it t = means (get_or t i empty)

  steps : (t : List Connection) (e : E) (a : Reply) (u : List Connection) → Here i t → On t i (event.Use (H.event_of e)) a u
      → Gives (in_it t) (H.law (in_it t) e) a (in_it u) × Here i u
  steps t e a u here m =
      let said : a ≡ answered (H.law (H.mine (at (meaning t) i)) e) = answer_is_rule m.meets ∙ half_answer H (meaning t) i here e in
      let next : in_it u ≡ left (H.mine (at (meaning t) i)) (H.law (H.mine (at (meaning t) i)) e) =
      sym (at_it u) ∙ ap (λ (l : List rule.Connection). H.mine (at l i)) m.meets.record_is ∙ half_next H (meaning t) i here e in (
        gives (in_it t) (H.law (in_it t) e) a (in_it u) (said ∙ ap (λ x. answered (H.law x e)) (at_it t))
            (next ∙ ap (λ x. left x (H.law x e)) (at_it t)),
        ap (λ (l : List rule.Connection). outside l i) m.meets.record_is ∙ still_here (meaning t) i (event.Use (H.event_of e)) i here,
      )

  -- a start with this half
  module _ (half_fresh : Opening → P) (opens : Start → Opening) (is : (s : Start) → H.mine (fresh s) ≡ half_fresh (opens s)) where
    begins : (o : Opening) (t : List Connection) → Started i opens o t → (in_it t ≡ half_fresh o) × Here i t
    begins o t b =
        let m = b.started in
        let done = sym (answer_is_rule m.meets) in
        let here = start_here (meaning b.before) i b.start done in (
          sym (at_it t) ∙ ap (λ (l : List rule.Connection). H.mine (at l i)) m.meets.record_is
              ∙ ap H.mine (start_leaves (meaning b.before) i b.start done) ∙ is b.start ∙ ap half_fresh b.opens_so,
          ap (λ (l : List rule.Connection). outside l i) m.meets.record_is ∙ still_here (meaning b.before) i (event.Start b.start) i here,
        )

  -- anything else: in another slot, or on the other half, whose events leave this one
  module _ (Other : Event → Type 0)
      (stays : (t : List rule.Connection) → outside t i ≡ false → (e : Event) → Other e → H.mine (at (left t (on t i e)) i) ≡ H.mine (at t i))
    where
      beside : (t u : List Connection) → Here i t → Else i Other t u → (in_it u ≡ in_it t) × Here i u
      beside t u here b =
          let m = b.on in (
            go (ℕ_discrete i b.where_it_is),
            ap (λ (l : List rule.Connection). outside l i) m.meets.record_is ∙ still_here (meaning t) b.where_it_is b.what i here,
          )
        where
          go : Dec (i ≡ b.where_it_is) → in_it u ≡ in_it t
          go (no n) = ap means (b.on.elsewhere i n)
          go (yes p) =
              let other : Other b.what = ⊎_elim (λ n. absurd (n (sym p))) (λ o. o) b.elsewhere in
              sym (at_it u) ∙ ap (λ (l : List rule.Connection). H.mine (at l i)) b.on.meets.record_is
              ∙ ap (λ (k : ℕ). H.mine (at (left (meaning t) (on (meaning t) k b.what)) i)) (sym p)
              ∙ stays (meaning t) here b.what other ∙ at_it t

-- ---- the two halves
sending_at : (i : ℕ) (t : List Connection) → (at (meaning t) i).sender ≡ sending_in i t
unfolding meaning connection.meaning
sending_at i t = ap (λ (c : rule.Connection). c.sender) (at_means t i)

receiving_at : (i : ℕ) (t : List Connection) → (at (meaning t) i).receiver ≡ receiving_in i t
unfolding meaning connection.meaning
receiving_at i t = ap (λ (c : rule.Connection). c.receiver) (at_means t i)

sender_stays : (i : ℕ) (t : List rule.Connection) → outside t i ≡ false → (e : Event) → Receiving e
    → (at (left t (on t i e)) i).sender ≡ (at t i).sender
unfolding receiving_half
sender_stays i t here _ (receives e) = half_same receiving_half t i here e

receiver_stays : (i : ℕ) (t : List rule.Connection) → outside t i ≡ false → (e : Event) → Sending e
    → (at (left t (on t i e)) i).receiver ≡ (at t i).receiver
unfolding sending_half
receiver_stays i t here _ (sends e) = half_same sending_half t i here e

abbrev sending_means : Connection → rule_sender.Sender
sending_means c = sender.meaning c.sender

abbrev receiving_means : Connection → rule_receiver.Receiver
receiving_means c = receiver.meaning c.receiver

abbrev fresh_sender : Opening → rule_sender.Sender
fresh_sender o = rule_sender.fresh o.room o.first.0

abbrev fresh_receiver : Opening → rule_receiver.Receiver
fresh_receiver o = rule_receiver.fresh o.room o.first.0

unfoldable sender_follows : (i j : ℕ) → Follows (tables i j).sender rules.sender
unfolding fresh sending_half
sender_follows i j = record {
  meaning = sending_in i;
  Kept = Here i;
  places = λ t. refl;
  begins = λ o t good low b. begins sending_half i sending_means (sending_at i) fresh_sender sending_opens (λ s. refl) o t b;
  steps = λ t e a u k m. steps sending_half i sending_means (sending_at i) t e a u k m;
  beside = λ t u k b. beside sending_half i sending_means (sending_at i) Receiving (sender_stays i) t u k b;
}

unfoldable receiver_follows : (i j : ℕ) → Follows (tables i j).receiver rules.receiver
unfolding fresh receiving_half
receiver_follows i j = record {
  meaning = receiving_in j;
  Kept = Here j;
  places = λ t. refl;
  begins = λ o t good low b. begins receiving_half j receiving_means (receiving_at j) fresh_receiver receiving_opens (λ s. refl) o t b;
  steps = λ t e a u k m. steps receiving_half j receiving_means (receiving_at j) t e a u k m;
  beside = λ t u k b. beside receiving_half j receiving_means (receiving_at j) Sending (receiver_stays j) t u k b;
}

pub tables_keep : TablesKeep
unfolding sender_follows receiver_follows
tables_keep i j = keeps (record { sender = sender_follows i j; receiver = receiver_follows i j })
