-- A packet is counted: no bit of the words and no more of the head speaks of the count. Assumes nothing.
use Rattle.std.proofs.Common.{◌≡◌, ℕ, ◌+◌, ◌%◌, ◌^◌}
use Rattle.rules.specs.Receiver.{counted}
use Rattle.rules.specs.declared.Arrival.{Arrival}
use Rattle.receiving.specs.Lent.{Lent, lent, meaning, Started}

-- x with the count n
abbrev pub with_count : Lent → ℕ → Lent
with_count x n = lent (record { room = x.head.room; expected = x.head.expected; count = n }) x.words

pub with_count_started : (x : Lent) (n : ℕ) → Started x → Started (with_count x n)
with_count_started x n h = record {
  room_good = h.room_good;
  expected_low = h.expected_low;
  enough = h.enough;
  before = h.before;
  expected_open = h.expected_open;
  past = h.past;
}

pub with_count_means : (x : Lent) (n : ℕ) (a : Arrival) → n ≡ (x.head.count + a.size) % 2 ^ 32 → meaning (with_count x n) ≡ counted (meaning x) a
unfolding meaning counted
with_count_means x n a e = λ i. record { expected = (meaning x).expected; window = (meaning x).window; count = e i }
