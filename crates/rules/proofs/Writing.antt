-- An event is written exactly where no PSN is high and the buffer has room, by the two tests. Assumes nothing.
use mathlib.Core.Path.{◌≡◌}
use mathlib.Core.Bool.{false}
use Prim.Native.Nat.{ℕ, ◌≤◌}
use native.Mathlib.Omega.{arith}
use borrow.Author.Tests.{ltb-false, le-ltb}
use lib.Dec.{ltb}
use Rattle.rules.specs.Kinds.{kind_of, fields_of, layout}
use Rattle.rules.specs.Log.{whole, high_psn, write}
use Rattle.rules.specs.declared.Event.{Event}
use Rattle.rules.specs.Outcomes.{NotWritten, Length}
use Rattle.lists.proofs.Joined.{passed}

-- nothing keeps the event from a buffer of n bytes
pub record Writable (e : Event) (n : ℕ) : Type 0 where
  pub low : high_psn (layout (kind_of e)) (fields_of e) ≡ false
  pub room : whole (kind_of e) ≤ n

no_length : (n m : ℕ) → NotWritten n ≡ Length m → ⊥
no_length n m h = let z : ◌≡◌ {A = ℕ} 0 1 = cc in omega arith

pub write_writable : (e : Event) (n m : ℕ) → write e n ≡ Length m → Writable e n × (m ≡ whole (kind_of e))
unfolding write
write_writable e n m h =
    let a = passed (high_psn (layout (kind_of e)) (fields_of e)) (no_length 5 m) h in
    let b = passed (ltb n (whole (kind_of e))) (no_length 16 m) a.1 in
    let same : Length (whole (kind_of e)) ≡ Length m = b.1 in
    (record { low = a.0; room = ltb-false n (whole (kind_of e)) b.0 }, cc)

pub writable_write : (e : Event) (n : ℕ) → Writable e n → write e n ≡ Length (whole (kind_of e))
unfolding write
writable_write e n h = simp (h.low, le-ltb n (whole (kind_of e)) h.room)
