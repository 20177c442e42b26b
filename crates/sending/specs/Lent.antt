-- A sender's head over the rows lent to it: what they mean, which there are, and what an event owes.
use Rattle.std.specs.Prelude.{◌≡◌, true, false, ◌&&◌, List, ◌⊎◌, ℕ, ◌+◌, ◌*◌, ◌%◌, ◌≤◌, ◌<◌, length, get_or, set, replicate, Ok, Err}
use Rattle.lists.specs.Index.{table, total}
use Rattle.row.specs.Row.{at}
use Rattle.retire.specs.Rows.{longest_weighed}
use Rattle.rules.specs.Numbers.{turn, psn, room_ok, size_ok, largest_room}
use Rattle.promise.specs.Promise.{Meets}
use Rattle.rules.specs.Numbered.{number}
use Rattle.rules.specs.Paper.{paper, Reply}
use Rattle.rules.specs.Sender.{Entry, size_held}
use Rattle.rules.specs.Sender as rule
use Rattle.rules.specs.Retire.{acknowledged}
use Rattle.rules.specs.Sending.{step}
use Rattle.rules.specs.declared.Answer.{Answer}
use Rattle.rules.specs.declared.Answer.TheVariants as answer
use Rattle.rules.specs.declared.Block.{Block}
use Rattle.rules.specs.declared.Sending.{Sending}
use Rattle.rules.specs.declared.Sending.TheVariants as sending
use Rattle.sending.specs.declared.Head.{Head}

pub record Lent : Type 0 where
  pub head : Head
  pub sizes : List ℕ
  pub retired : List ℕ
  pub marked : List ℕ

abbrev pub lent : Head → List ℕ → List ℕ → List ℕ → Lent
lent h ss rs ms = record { head = h; sizes = ss; retired = rs; marked = ms }

-- the bit of place + 1 in the first word
abbrev pub offset : Lent → ℕ
offset x = (x.head.place.0 + 1) % 64

-- where the size of entry i stands
abbrev pub size_at : Lent → ℕ → ℕ
size_at x i = (x.head.place.0 + 1 + i) % largest_room

unfoldable pub entry : Lent → ℕ → Entry
entry x i = record {
  size = get_or x.sizes (size_at x i) 0;
  retired = at x.retired (offset x + i);
  marked = at x.marked (offset x + i);
}

unfoldable pub meaning : Lent → rule.Sender
meaning x = record { room = x.head.room; place = x.head.place.0; entries = table x.head.outstanding (entry x) }

-- a sender that was started, over a size for each PSN of the largest room, and words enough for its own
pub record Started (x : Lent) : Type 0 where
  pub room_good : room_ok x.head.room ≡ true
  pub place_low : x.head.place.0 < turn
  pub room_left : x.head.outstanding ≤ x.head.room
  pub sizes_long : length x.sizes ≡ largest_room
  pub enough : x.head.room + 64 ≤ 64 * length x.retired
  pub most : length x.retired ≤ longest_weighed
  pub marked_long : length x.marked ≡ length x.retired
  -- all up to the place are retired, place + 1 is not, and nothing from next on is
  pub before : (p : ℕ) → p < offset x → at x.retired p ≡ true
  pub first_open : at x.retired (offset x) ≡ false
  pub unsent : (p : ℕ) → offset x + x.head.outstanding ≤ p → at x.retired p ≡ false
  -- only what is outstanding and not retired is marked
  pub not_both : (p : ℕ) → (at x.retired p && at x.marked p) ≡ false
  pub mark_unsent : (p : ℕ) → offset x + x.head.outstanding ≤ p → at x.marked p ≡ false
  -- the sizes are those that a send takes, and held is their sum
  pub sizes_good : (i : ℕ) → i < x.head.outstanding → size_ok (entry x i).size ≡ true
  pub held_is : x.head.held ≡ total x.head.outstanding (λ i. size_held (entry x i))

-- the record of no connection over n words a row: all zero
abbrev pub empty : ℕ → Lent
empty n = lent (record { room = 0; place = psn 0; outstanding = 0; held = 0 }) (replicate largest_room 0) (replicate n 0) (replicate n 0)

abbrev pub Empty : Lent → Type 0
Empty x = x ≡ empty (length x.retired)

-- "A record is empty (all zero) or comes from a start and the events after it"
abbrev pub Sound : Lent → Type 0
Sound x = Empty x ⊎ Started x

-- the sizes after an event: that of a packet sent stands by its PSN, and no other size is written
unfoldable pub sent_size : List ℕ → ℕ → Reply → List ℕ
sent_size ss size (Err n) = ss
sent_size ss size (Ok answer.Started) = ss
sent_size ss size (Ok answer.Closed) = ss
sent_size ss size (Ok (answer.Sent p)) = set ss (p.0 % largest_room) size
sent_size ss size (Ok (answer.Acked v s)) = ss
sent_size ss size (Ok (answer.Nacked v n)) = ss
sent_size ss size (Ok (answer.Retired r)) = ss
sent_size ss size (Ok (answer.Marked n)) = ss
sent_size ss size (Ok (answer.Expired n)) = ss
sent_size ss size (Ok (answer.Resent p)) = ss

unfoldable pub sizes_after : List ℕ → Sending → Reply → List ℕ
sizes_after ss (sending.Send size) r = sent_size ss size r
sizes_after ss (sending.Sack cack b) r = ss
sizes_after ss (sending.Nack p reason) r = ss
sizes_after ss (sending.Timer p) r = ss
sizes_after ss sending.Resend r = ss

-- an event e on x is answered r, and leaves the head h over these rows
pub record Steps (x : Lent) (e : Sending) (r : Reply) (h : Head) (ss rs ms : List ℕ) : Type 0 where
  pub meets : Meets paper number Sound meaning x (step (meaning x) e) r (lent h ss rs ms)
  pub sizes_are : ss ≡ sizes_after x.sizes e r
  -- the words are as many as before
  pub retired_long : length rs ≡ length x.retired
  pub marked_long : length ms ≡ length x.marked

-- a SACK that names nothing unsent is done as the rule says, is answered r, and leaves the head h over these words
pub record Acknowledges (x : Lent) (cack : ℕ) (b : Block) (r : Answer) (h : Head) (rs ms : List ℕ) : Type 0 where
  pub meets : Meets paper number Sound meaning x (acknowledged (meaning x) cack b) (Ok r) (lent h x.sizes rs ms)
  pub retired_long : length rs ≡ length x.retired
  pub marked_long : length ms ≡ length x.marked
