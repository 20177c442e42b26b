-- A reply that names only packets sent, all near the sender's place, is not refused; a SACK whose cack lies past the place moves it.
-- Assumes nothing.
use mathlib.Core.Path.{◌≡◌, refl, ap, ap₂, ◌∙◌}
use mathlib.Core.Bool.{Bool, true, false, cond, ◌&&◌, and-false}
use mathlib.Core.List.{List, [], ◌∷◌, map}
use Prim.Native.Nat.{ℕ, ◌+◌, ◌-◌, ◌≤◌, ◌<◌}
use native.Mathlib.Omega.{arith}
use native.Mathlib.Decide.{dec_lt}
use lib.Dec.{ltb, leb}
use lib.ListN.{length, get_or}
use borrow.Author.Tests.{lt-ltb, le-ltb, le-leb, lt-leb}
use Rattle.psn.proofs.Circle.{after_lt, after_after, ahead, back}
use Rattle.psn.specs.declared.Psn.{Psn}
use Rattle.word.specs.Word.{bit_at}
use Rattle.rules.specs.Numbers.{turn, half, after, distance, reason_ok}
use Rattle.lists.specs.Lists.{lead}
use Rattle.promise.specs.Outcome.{Outcome, Done, unless}
use Rattle.rules.specs.Sender.{Entry, Sender, outstanding, nth, index, unsent}
use Rattle.rules.specs.Retire.{is_retired, retire, named, up_to, any_set, unsent_cack, unsent_bit, names_unsent, after_sack, report, acknowledged}
use Rattle.rules.specs.Marks.{markable, mark, nacked}
use Rattle.rules.specs.Sending.{sack_refusals, sack, nack_refusals, nack}
use Rattle.rules.specs.declared.Answer.{Answer}
use Rattle.rules.specs.declared.Answer.TheVariants as answer
use Rattle.rules.specs.declared.Sack.{Sack}
use Rattle.delivery.specs.Network.{Start}
use Rattle.delivery.specs.Wire.{Near, base_number}
use Rattle.lists.proofs.Lists.{any_none}
use Rattle.delivery.proofs.Rooms.{room_few}
use Rattle.delivery.proofs.Holds.{Tells}
use Rattle.delivery.proofs.Keeps.{Keeps, sender_used, nth_is, moves}

not_both : (a b : Bool) → (a ≡ true → b ≡ false) → (a && b) ≡ false
not_both true b h = h refl
not_both false b h = refl

retire_first : (f : ℕ → Bool) (l : List Entry) → 0 < length l → f 0 ≡ true → 0 < lead (map is_retired (retire f l))
unfolding retire lead
retire_first f [] h e = absurd (omega arith)
retire_first f (x ∷ l) h e = rw e (omega arith)

abbrev pub IsDone : Outcome Answer Sender → Type 0
IsDone o = (y : Sender) × (a : Answer) × (o ≡ Done y a)

either_done : (b : Bool) (o q : Outcome Answer Sender) → IsDone o → IsDone q → IsDone (cond b o q)
either_done true o q h k = h
either_done false o q h k = k

psn_good : (p first i : ℕ) → p ≡ after first i → ltb p turn ≡ true
psn_good p first i e = ap (λ (q : ℕ). ltb q turn) e ∙ lt-ltb (after first i) turn (after_lt first i)

module _ {s : Start} {A : ℕ → Bool} {n : ℕ} {x : Sender} {low : ℕ} (K : Keeps s A n x low) where
  -- a packet that was sent is not unsent
  was_sent : (i p : ℕ) → p ≡ after s.first i → i < n → Near (i + 1) low → unsent x p ≡ false
  unfolding unsent index
  was_sent i p is h near =
      let up : nth x 0 ≡ after s.first low = nth_is K 0 ∙ ap (after s.first) (omega arith) in
      elim (dec_lt i low) [
        | no q ↦
            let d : distance (nth x 0) p ≡ i - low = ap₂ distance up is ∙ ahead s.first low i (omega arith) (omega arith) in
            rw (lt-leb (outstanding x) (distance (nth x 0) p) (omega (arith, K.next_is)))
        | yes q ↦
            let d : distance (nth x 0) p ≡ turn + i - low = ap₂ distance up is ∙ back s.first low i (omega arith) (omega arith) in
            rw (le-leb half (distance (nth x 0) p) (omega arith)) (and-false (leb (outstanding x) (distance (nth x 0) p)))
      ]

  -- ---- NACK
  pub nack_taken : (i : ℕ) (p : Psn) (reason : ℕ) → p.0 ≡ after s.first i → i < n → Near (i + 1) low → reason_ok reason ≡ true → IsDone (nack x p reason)
  unfolding nack nack_refusals unless nacked mark
  nack_taken i p reason is h near good =
      rw (sender_used K, psn_good p.0 s.first i is, good, was_sent i p.0 is h near)
      (either_done (leb reason 4) _ _ (either_done (get_or (map markable x.entries) (index x p.0) false) _ _ (_, _, refl) (_, _, refl)) (_, _, refl))

  -- ---- SACK
  module _ (bound : (i : ℕ) → A i ≡ true → i < n) (here : ℕ) (k : Sack) (T : Tells s A here k) where
    pub here_sent : here ≤ n
    here_sent = elim (dec_lt n here) [ yes p ↦ let q = bound n (T.to_cack n p) in absurd (omega arith) | no p ↦ omega arith ]

    place_at : x.place ≡ after s.first (low + (turn - 1))
    place_at = K.place_is ∙ after_after s.first low (turn - 1)

    cack_at : k.cack.0 ≡ after s.first (here + (turn - 1))
    cack_at = T.cack_is ∙ after_after s.first here (turn - 1)

    module _ (near : Near here low) (bits_near : (j : ℕ) → j < 64 → bit_at k.block.bitmap j ≡ true → Near (base_number here k + j + 1) low) where
      abbrev c : ℕ
      c = distance x.place k.cack.0

      pub cack_ahead : low ≤ here → distance x.place k.cack.0 ≡ here + (turn - 1) - (low + (turn - 1))
      cack_ahead h = ap₂ distance place_at cack_at ∙ ahead s.first (low + (turn - 1)) (here + (turn - 1)) (omega arith) (omega arith)

      cack_sent : unsent_cack x k.cack.0 ≡ false
      unfolding unsent_cack
      cack_sent = elim (dec_lt here low) [
        | no p ↦ rw (le-ltb (outstanding x) c (omega (arith, cack_ahead (omega arith), K.next_is, here_sent)))
        | yes p ↦
            let far : c ≡ turn + (here + (turn - 1)) - (low + (turn - 1)) =
            ap₂ distance place_at cack_at ∙ back s.first (low + (turn - 1)) (here + (turn - 1)) (omega arith) (omega arith) in
            rw (le-leb half c (omega arith)) (and-false (ltb (outstanding x) c))
      ]

      bit_sent : (j : ℕ) → j < 64 → bit_at k.block.bitmap j ≡ true → unsent x (after k.block.base.0 j) ≡ false
      bit_sent j h e =
          let b : ℕ = base_number here k in
          let p : ℕ = after k.block.base.0 j in
          let is : p ≡ after s.first (b + j) = ap (λ (q : ℕ). after q j) T.base_is ∙ after_after s.first b j in
          was_sent (b + j) p is (bound _ (T.bits j e)) (bits_near j h e)

      all_sent : names_unsent x k.cack.0 k.block ≡ false
      unfolding names_unsent unsent_bit any_set
      all_sent = rw cack_sent (any_none 64 _ (λ j h. not_both (bit_at k.block.bitmap j) _ (bit_sent j h)))

      pub sack_taken : sack x k.cack k.block ≡ Done (after_sack x k.cack.0 k.block) (answer.Retired (report x k.cack.0 k.block))
      unfolding sack sack_refusals unless acknowledged
      sack_taken = rw (sender_used K, psn_good k.cack.0 s.first _ cack_at, psn_good k.block.base.0 s.first _ T.base_is, T.consistent, all_sent)

      pub sack_moves : low < here → 0 < moves x k
      unfolding named up_to
      sack_moves h =
          let far = cack_ahead (omega arith) in
          retire_first (named x k.cack.0 k.block) x.entries (omega (arith, K.next_is, here_sent))
          (rw (le-leb c (outstanding x) (omega (arith, K.next_is, here_sent)), lt-ltb 0 c (omega arith)))

    -- a SACK that is not late is near
    pub near_ahead : low ≤ here → Near here low
    near_ahead h = omega (arith, here_sent, K.next_is, K.room_left, room_few s.send_room s.send_good)

    pub bits_near_ahead : low ≤ here → (j : ℕ) → j < 64 → bit_at k.block.bitmap j ≡ true → Near (base_number here k + j + 1) low
    unfolding base_number
    bits_near_ahead h j l e = omega (arith, bound _ (T.bits j e), K.next_is, K.room_left, room_few s.send_room s.send_good)
