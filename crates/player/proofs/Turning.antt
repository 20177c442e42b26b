-- A record that is read and answered makes a turn; it takes the place on, so the count stays behind it. Turns, one after the other, are turns. Assumes nothing.
use mathlib.Core.Path.{◌≡◌, refl, ◌∙◌}
use mathlib.Core.List.{List, [], ◌∷◌, ◌++◌}
use Prim.Native.Nat.{ℕ, ◌+◌, ◌≤◌, ◌<◌}
use native.Mathlib.Omega.{arith}
use lib.ListN.{length, length-replicate}
use Rattle.std.specs.Prelude.{Err}
use Rattle.rules.specs.Numbers.{program_slots}
use Rattle.rules.specs.Log.{read}
use Rattle.rules.specs.Replay.{Replied, Last}
use Rattle.rules.specs.Outcomes.{Record}
use Rattle.rules.specs.declared.Event.{Event}
use Rattle.rules.specs.declared.Refusal.TheVariants.{NoSuchSlot}
use Rattle.rules.proofs.RoundTrip.{read_kind}
use Rattle.connection.specs.declared.Connection.{Connection}
use Rattle.connection.specs.Record.{empty}
use Rattle.table.specs.Slots.{On}
use Rattle.table.proofs.Slots.{empty_sound, past_end}
use Rattle.player.specs.declared.State.{State}
use Rattle.player.specs.Play.{begin, Sound, Turned, Plays, goes_on}
use Rattle.player.specs.Piece.{Turns, none, one_more}

-- a record takes the place on, and ends in the log
pub read_further : (log : List ℕ) (place slot : ℕ) (e : Event) (kind next : ℕ) → read log place ≡ Record slot e kind next
    → (place < next) × (next ≤ length log)
read_further log place slot e kind next h =
    let k = read_kind log place slot e kind next h in
    (omega (arith, k.1), k.2)

-- an empty table is where a replay begins
pub begin_sound : Sound begin
begin_sound = record { many = length-replicate {A = Connection} program_slots empty; slots_sound = empty_sound program_slots; count_low = omega arith }

-- a record that is read and answered is a turn
pub turned : (log : List ℕ) (x : State) (slot : ℕ) (e : Event) (kind next : ℕ) (l : Replied) (after : List Connection) → Sound x
    → read log x.place ≡ Record slot e kind next → l.kind ≡ kind → On x.slots slot e l.answer after → length after ≡ length x.slots
    → Turned log x l (record { slots = after; place = next; count = x.count + 1 })
turned log x slot e kind next l after s h k m long = record {
  slot = slot;
  event = e;
  read_is = rw k h;
  answer_meets = m;
  count_is = refl;
  sound = record {
    many = long ∙ s.many;
    slots_sound = m.meets.sound;
    count_low = omega (arith, s.count_low, read_further log x.place slot e kind next h);
  };
}

-- a slot past the program's
pub turned_past : (log : List ℕ) (x : State) (slot : ℕ) (e : Event) (kind next : ℕ) → Sound x → read log x.place ≡ Record slot e kind next
    → program_slots ≤ slot
    → Turned log x (record { kind = kind; answer = Err NoSuchSlot }) (record { slots = x.slots; place = next; count = x.count + 1 })
turned_past log x slot e kind next s h far =
    turned log x slot e kind next _ x.slots s h refl (past_end x.slots slot e s.slots_sound (omega (arith, s.many)) _ refl) refl

-- ---- turns, one after the other
-- from one place in the log to a later one
abbrev pub Further : List ℕ → State → State → Type 0
Further log x y = (x.place < y.place) × (y.place ≤ length log)

module _ {log : List ℕ} where
  pub turn_further : {x y : State} {l : Replied} → Turned log x l y → Further log x y
  turn_further {x} {y} {l} t = read_further log x.place t.slot t.event l.kind y.place t.read_is

  turns_stay : {x y : State} {l : List Replied} → Turns log x l y → x.place ≤ length log → (x.place ≤ y.place) × (y.place ≤ length log)
  turns_stay none h = (omega arith, h)
  turns_stay (one_more t p) h =
      let one = turn_further t in
      let rest = turns_stay p one.1 in
      (omega arith, rest.1)

  pub turns_further : {x y : State} {l : List Replied} → Turns log x l y → 0 < length l → Further log x y
  turns_further none h = absurd (omega arith)
  turns_further (one_more t p) h =
      let one = turn_further t in
      let rest = turns_stay p one.1 in
      (omega arith, rest.1)

  -- one turn more, and all that are left
  pub turns_more : {x y z : State} {l : List Replied} {r : Replied} → Turns log x l y → Turned log y r z → Turns log x (l ++ (r ∷ [])) z
  turns_more none t = one_more t none
  turns_more (one_more u p) t = one_more u (turns_more p t)

  pub turns_plays : {x y : State} {l m : List Replied} {last : Last} → Turns log x l y → Plays log y m last → Plays log x (l ++ m) last
  turns_plays none q = q
  turns_plays (one_more t p) q = goes_on t (turns_plays p q)
