-- Each public function's promise settles its outcome: any two results that it allows are equal in answer and meaning, and to the last bit
-- in every slot that is not named. Assumes nothing.
use mathlib.Core.Path.{◌≡◌, sym, ◌∙◌}
use mathlib.Core.List.{List}
use mathlib.Core.Logic.{◌≢◌}
use Prim.Native.Nat.{ℕ}
use lib.ListN.{length, get_or, replicate}
use Rattle.rules.specs.Table.{in_slot}
use Rattle.rules.specs.Paper.{Reply}
use Rattle.rules.specs.declared.Event.{Event}
use Rattle.rules.proofs.Settled.{settled}
use Rattle.connection.specs.declared.Connection.{Connection}
use Rattle.connection.specs.Record.{empty, Steps}
use Rattle.connection.specs.Record as connection
use Rattle.table.specs.Slots.{On, meaning}

-- what any two of them share: the answer, what the table means, and every slot but the one that is named
pub record Same (slot : ℕ) (a b : Reply) (u v : List Connection) : Type 0 where
  pub answer_same : a ≡ b
  pub means_same : meaning u ≡ meaning v
  pub elsewhere_same : (i : ℕ) → i ≢ slot → get_or u i empty ≡ get_or v i empty

pub event_settled : (t : List Connection) (slot : ℕ) (e : Event) (a b : Reply) (u v : List Connection) → On t slot e a u → On t slot e b v
    → Same slot a b u v
event_settled t slot e a b u v p q =
    let both = settled a b u v p.meets q.meets in
    record { answer_same = both.0; means_same = both.1; elsewhere_same = λ i n. p.elsewhere i n ∙ sym (q.elsewhere i n) }

-- a slot's record by what it means
pub in_slot_settled : (c : Connection) (e : Event) (r q : Reply) (x y : Connection) → Steps c (in_slot (connection.meaning c) e) r x
    → Steps c (in_slot (connection.meaning c) e) q y → (r ≡ q) × (connection.meaning x ≡ connection.meaning y)
in_slot_settled c e = settled

-- a table emptied is settled to the last word
pub empty_all_settled : (t u v : List Connection) → u ≡ replicate (length t) empty → v ≡ replicate (length t) empty → u ≡ v
empty_all_settled t u v p q = p ∙ sym q
