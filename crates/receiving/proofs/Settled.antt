-- The promise of an arrival over lent words settles its outcome: any two results that it allows are equal, to the last bit of the words.
-- A sound record's head and words follow from what it means. Assumes nothing.
use Rattle.std.proofs.Common.{◌≡◌, ℕ, ◌-◌, ◌%◌, Bool, true, false, cond, ltb, List, length, get_or, sym, ap, ◌∙◌, subst, inl, inr, arith, le-ltb, lt-ltb}
use native.Mathlib.Decide.{dec_lt}
use Rattle.row.specs.Row.{at, Row, Becomes}
use Rattle.row.proofs.Rows.{at_zeros}
use Rattle.row.proofs.Settled.{Words, becomes_settled}
use Rattle.rules.specs.Numbers.{psn}
use Rattle.rules.specs.Receiver.{Receiver, room}
use Rattle.rules.specs.Paper.{Reply}
use Rattle.rules.specs.declared.Arrival.{Arrival}
use Rattle.rules.proofs.Settled.{settled}
use Rattle.receiving.specs.declared.Head.{Head}
use Rattle.receiving.specs.Lent.{Lent, lent, empty, offset, meaning, Started, Sound, Arrives}
use Rattle.receiving.proofs.Entries.{room_is, entry, entry_past}

-- the head and the bits of the words that mean r: all before E in its block of 64, and the window's
abbrev head_of : Receiver → Head
head_of r = record { room = room r; expected = psn r.expected; count = r.count }

abbrev bit_of : Receiver → ℕ → Bool
bit_of r p = cond (ltb p (r.expected % 64)) true (get_or r.window (p - r.expected % 64) false)

head_is : (x : Lent) → x.head ≡ head_of (meaning x)
unfolding meaning
head_is x = let n = room_is x in λ i. record { room = sym n i; expected = x.head.expected; count = x.head.count }

started_words : (x : Lent) → Started x → Row x.words (bit_of (meaning x))
unfolding meaning
started_words x s p = elim (dec_lt p (offset x)) [
  | yes l ↦ rw (lt-ltb p (offset x) l) (s.before p l)
  | no l ↦ rw (le-ltb p (offset x) (omega arith)) (elim (dec_lt (p - offset x) x.head.room) [
    | yes k ↦ ap (at x.words) (omega arith) ∙ sym (entry x (p - offset x) k)
    | no k ↦ s.past p (omega arith) ∙ sym (entry_past x (p - offset x) (omega arith))
  ])
]

empty_words : (n : ℕ) → Row (empty n).words (bit_of (meaning (empty n)))
unfolding meaning
empty_words n p = rw (le-ltb p 0 (omega arith)) (at_zeros n p ∙ sym (entry_past (empty n) (p - 0) (omega arith)))

words_are : (x : Lent) → Sound x → Row x.words (bit_of (meaning x))
words_are x (inl e) = subst (λ (y : Lent). Row y.words (bit_of (meaning y))) (sym e) (empty_words (length x.words))
words_are x (inr s) = started_words x s

-- the head and the words after it are h and us, or k and vs
pub arrive_settled : (x : Lent) (a : Arrival) (r s : Reply) (h k : Head) (us vs : List ℕ) → Words us → Words vs → Arrives x a r h us
    → Arrives x a s k vs → (r ≡ s) × (h ≡ k) × (us ≡ vs)
arrive_settled x a r s h k us vs small small' p q =
    let y = lent h us in
    let z = lent k vs in
    let same = settled r s y z p.meets q.meets in
    let put : Becomes x.words us (bit_of (meaning z)) =
    record { long = p.long; bits_are = subst (λ (m : Receiver). Row us (bit_of m)) same.1 (words_are y p.meets.sound) } in
    let put' : Becomes x.words vs (bit_of (meaning z)) = record { long = q.long; bits_are = words_are z q.meets.sound } in
    (same.0, head_is y ∙ ap head_of same.1 ∙ sym (head_is z), becomes_settled x.words us vs (bit_of (meaning z)) small small' put put')
