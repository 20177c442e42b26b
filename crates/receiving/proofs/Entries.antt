-- The entries of a receiver's window are bits of its words: which packets are known, and which beyond. Assumes nothing.
use Rattle.std.proofs.Common.{◌≡◌, ℕ, ◌<◌, ◌≤◌, Bool, false, cond, ◌||◌, ◌&&◌, leb, ltb, get_or, ap, ◌∙◌, arith, lt-ltb, le-ltb}
use Rattle.std.proofs.lemmas.Bool.Decides.{nat_tests}
use native.Mathlib.Decide.{dec_lt}
use lib.ListN.{get_or-eq_default}
use Rattle.lists.proofs.Index.{length_table, get_or_table}
use Rattle.rules.specs.Numbers.{half, distance, trimmed, trimmed_last_hop, no_buffer}
use Rattle.rules.specs.Receiver.{room, known, beyond, verdict}
use Rattle.rules.specs.declared.Arrival.{Arrival}
use Rattle.rules.specs.declared.Verdict.TheVariants.{Fresh, Known, Beyond, NoBuffer, Trim, TrimLastHop}
use Rattle.receiving.specs.Lent.{Lent, accepted, meaning}
use Rattle.receiving.proofs.Ways.{verdict_is}

module _ (x : Lent) where
  pub room_is : room (meaning x) ≡ x.head.room
  unfolding meaning
  room_is = length_table x.head.room (accepted x)

  pub entry : (d : ℕ) → d < x.head.room → get_or (meaning x).window d false ≡ accepted x d
  unfolding meaning
  entry d h = get_or_table x.head.room (accepted x) d false h

  pub entry_past : (d : ℕ) → x.head.room ≤ d → get_or (meaning x).window d false ≡ false
  entry_past d h = get_or-eq_default (meaning x).window false (omega (arith, room_is))

  window_at : (d : ℕ) → get_or (meaning x).window d false ≡ (ltb d x.head.room && accepted x d)
  window_at d = elim (dec_lt d x.head.room) [
    | yes l ↦ rw (lt-ltb d x.head.room l) (entry d l)
    | no l ↦ rw (le-ltb d x.head.room (omega arith)) (entry_past d (omega arith))
  ]

  -- the tests of a verdict, by the bits of the words
  module _ (a : Arrival) where
    pub verdict_by : verdict (meaning x) a ≡ (let d = distance x.head.expected.0 a.psn.0 in
        cond (trimmed a.flags) Trim (cond (trimmed_last_hop a.flags) TrimLastHop
        (cond (leb half d || (ltb d x.head.room && accepted x d)) Known (cond (leb x.head.room d) Beyond (cond (no_buffer a.flags) NoBuffer Fresh)))))
    unfolding known beyond meaning
    verdict_by =
        let d = distance x.head.expected.0 a.psn.0 in
        let b : beyond (meaning x) a.psn.0 ≡ leb x.head.room d = ap (λ (n : ℕ). leb n d) room_is in
        let k : known (meaning x) a.psn.0 ≡ (leb half d || (ltb d x.head.room && accepted x d)) = ap (λ (t : Bool). leb half d || t) (window_at d) in
        verdict_is (meaning x) a ∙ rw (k, b)

    -- what is fresh lies in the window
    pub fresh_within : verdict (meaning x) a ≡ Fresh → distance x.head.expected.0 a.psn.0 < x.head.room
    fresh_within e = let v = verdict_by in grind (arith, nat_tests)

pub ruleset judging = (verdict_by, nat_tests)
