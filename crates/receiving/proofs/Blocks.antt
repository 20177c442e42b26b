-- The block of a SACK: 64 bits of the words, which lie in the window, are 64 of its entries as one number. Assumes nothing.
use Rattle.std.proofs.Common.{◌≡◌, ℕ, ◌+◌, ◌-◌, ◌*◌, ◌/◌, ◌^◌, ◌<◌, ◌≤◌, Bool, cond, ltb, take, drop, sym, ap, ◌∙◌, arith, le-ltb, lt-ltb}
use native.Mathlib.Decide.{dec_lt}
use Rattle.psn.specs.declared.Psn.{Psn}
use Rattle.lists.specs.Index.{table}
use Rattle.word.specs.Word.{Bits}
use Rattle.lists.proofs.Index.{drop_table, take_table}
use Rattle.word.proofs.Bits.{bits_one}
use Rattle.row.specs.Row.{at}
use Rattle.rules.specs.Numbers.{after, distance}
use Rattle.lists.specs.Lists.{pack}
use Rattle.rules.specs.Receiver.{block_at, block}
use Rattle.rules.specs.declared.Block.{Block}
use Rattle.rules.proofs.Allowed.{room_numbers}
use Rattle.receiving.specs.Lent.{Lent, offset, accepted, meaning, Started}
use Rattle.receiving.proofs.Entries.{room_is}
use Rattle.rules.proofs.Packed.{pack_table, pack_table_lt}

-- the block of packet p at distance d begins at entry o
module _ (x : Lent) (h : Started x) (p d o : ℕ)
    (d_is : d ≡ distance x.head.expected.0 p) (o_is : o ≡ cond (ltb d x.head.room) (64 * (d / 64)) 0) where
  pub block_fits : o + 64 ≤ x.head.room
  block_fits = pick (dec_lt d x.head.room)
    where
      pick : Dec (d < x.head.room) → o + 64 ≤ x.head.room
      pick (yes l) = omega (arith, rw (lt-ltb d x.head.room l) at o_is, room_numbers x.head.room h.room_good)
      pick (no l) = omega (arith, rw (le-ltb d x.head.room (omega arith)) at o_is, room_numbers x.head.room h.room_good)

  block_at_is : block_at (meaning x) p ≡ o
  unfolding block_at meaning
  block_at_is = rw (room_is x, ← d_is) (sym o_is)

  entries_are : take 64 (drop o (table x.head.room (accepted x))) ≡ table 64 (λ i. accepted x (o + i))
  entries_are =
      let room = x.head.room in
      ap (take 64) (drop_table o room (accepted x)) ∙ take_table 64 (room - o) (λ i. accepted x (o + i)) (omega (arith, block_fits))

  pub block_is : (base : Psn) (b : ℕ) → base.0 ≡ after x.head.expected.0 o → b < 2 ^ 64 → Bits b (λ i. at x.words (offset x + o + i))
      → ◌≡◌ {A = Block} (record { base = base; bitmap = b }) (block (meaning x) p)
  unfolding block meaning
  block_is base b base_is small bits =
      let w = table x.head.room (accepted x) in
      let f : ℕ → Bool = λ i. accepted x (o + i) in
      let bits_are : Bits b f = λ i k. bits i k ∙ ap (at x.words) (omega arith) in
      let number : b ≡ pack (take 64 (drop o w)) =
      bits_one b (pack (table 64 f)) f small (pack_table_lt f) bits_are (pack_table f) ∙ sym (ap pack entries_are) in
      let starts = base_is ∙ ap (after x.head.expected.0) (sym block_at_is) in
      let holds = number ∙ ap (λ (n : ℕ). pack (take 64 (drop n w))) (sym block_at_is) in
      λ i. record { base = record { 0 = starts i }; bitmap = holds i }
