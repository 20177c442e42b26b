-- The run one at a time and without loss: after each packet all are accepted in order and all are retired. Assumes nothing.
use mathlib.Core.Path.{◌≡◌, refl, sym, ap, ◌∙◌, subst}
use mathlib.Core.Bool.{true, false, false≢true}
use mathlib.Core.List.{List, [], ◌∷◌, ◌++◌}
use Prim.Native.Nat.{ℕ, suc, ◌+◌, ◌<◌}
use native.Mathlib.Omega.{arith}
use native.Mathlib.Decide.{dec_lt}
use lib.ListN.{length}
use borrow.Author.Tests.{lt-leb}
use Rattle.rules.specs.Numbers.{after, size_ok}
use Rattle.promise.specs.Outcome.{unless, left}
use Rattle.rules.specs.Paper.{answered}
use Rattle.rules.specs.Receiver.{Receiver, accept, counted, sack_of, acked, judged}
use Rattle.rules.specs.Receiving.{arrive}
use Rattle.rules.specs.Sender.{Sender, with_entries, new, sent}
use Rattle.rules.specs.Sending.{send_refusals, send, sack, step}
use Rattle.lists.specs.Lists.{All}
use Rattle.rules.specs.declared.Arrival.{Arrival}
use Rattle.rules.specs.declared.Sack.{Sack}
use Rattle.delivery.specs.Network.{Start}
use Rattle.delivery.specs.Wire.{accepts, message, hearing}
use Rattle.delivery.specs.Promise.{plain, ascending, heard, lossless}
use Rattle.delivery.proofs.Rooms.{room_some}
use Rattle.delivery.proofs.Sets.{all, Missing, only_one, only, only_in, only_out}
use Rattle.delivery.proofs.Bytes.{Sizes}
use Rattle.delivery.proofs.Holds.{Holds, Tells, sack_tells}
use Rattle.delivery.proofs.Keeps.{Keeps, sender_used, keeps_more, keeps_send, moves, keeps_sack, rest, fresh_rests, rest_keeps, keeps_rests}
use Rattle.delivery.proofs.Taken.{sack_taken, sack_moves, near_ahead, bits_near_ahead}
use Rattle.delivery.proofs.Order.{plain_arrives, Came, came}

-- the first n packets
below_n : (n i : ℕ) → i < n → only n all i ≡ true
unfolding all
below_n n i h = only_in n all i h

below_only : (n i : ℕ) → only n all i ≡ true → i < n
below_only n i e = elim (dec_lt i n) [ yes p ↦ p | no p ↦ absurd (false≢true (sym (only_out n all i (omega arith)) ∙ e)) ]

n_missing : (n : ℕ) → Missing (only n all) n
n_missing n = record { below = below_n n; first = only_out n all n (omega arith) }

module _ (s : Start) where
  reach : (n b : ℕ) → all n ≡ true → only n all b ≡ false → n < b + s.receive_room
  reach n b a out = elim (dec_lt b n) [
    | yes p ↦ absurd (false≢true (sym out ∙ below_n n b p))
    | no p ↦ omega (arith, room_some s.receive_room s.receive_good)
  ]

  -- ---- the receiver: all come in ascending order
  pub lossless_receiver : (l : List ℕ) → (lossless s l).1 ≡ ascending s all l
  unfolding lossless ascending all
  lossless_receiver [] = refl
  lossless_receiver (z ∷ l) = ap (λ (r : Receiver). left r (arrive r (plain (after s.first (length l)) z))) (lossless_receiver l)

  in_order : (l : List ℕ) → Sizes l → Holds s (only (length l) all) (lossless s l).1 (length l)
  in_order l good =
      let U : Came s all reach l (ascending s all l) = came s all reach l good in
      subst (λ (r : Receiver). Holds s (only (length l) all) r (length l)) (sym (lossless_receiver l))
      (subst (λ (n : ℕ). Holds s (only (length l) all) (ascending s all l) n) (only_one U.holds.missing (n_missing (length l))) U.holds)

  -- ---- the sender: one packet goes out, and its SACK retires it
  module _ (n z : ℕ) (good : size_ok z ≡ true) where
    abbrev out : Sender
    out = with_entries (rest s n) ((rest s n).entries ++ (new z ∷ []))

    resting : Keeps s (only n all) n (rest s n) n
    resting = rest_keeps s (only n all) n (below_n n)

    send_one : left (rest s n) (send (rest s n) z) ≡ out
    unfolding send send_refusals unless sent left rest
    send_one = rw (sender_used resting, good, lt-leb s.send_room 0 (room_some s.send_room s.send_good))

    sent_one : Keeps s (only (suc n) all) (suc n) out n
    unfolding rest
    sent_one =
        keeps_more (keeps_send resting z (room_some s.send_room s.send_good))
        (only (suc n) all) (λ i e. below_n (suc n) i (omega (arith, below_only n i e)))

    sack_one : (k : Sack) → Tells s (only (suc n) all) (suc n) k → left out (sack out k.cack k.block) ≡ rest s (suc n)
    unfolding left
    sack_one k T =
        let K = sent_one in
        let bound = below_only (suc n) in
        let near = near_ahead K bound (suc n) k T (omega arith) in
        let bits_near = bits_near_ahead K bound (suc n) k T (omega arith) in
        let L = keeps_sack K (suc n) k T near bits_near in
        let some : 0 < moves out k = sack_moves K bound (suc n) k T near bits_near (omega arith) in
        rw (sack_taken K bound (suc n) k T near bits_near) (keeps_rests L (omega (arith, L.next_is)))

    one_more : (x : Sender) (r : Receiver) → x ≡ rest s n → Holds s (only n all) r n
        → Holds s (only (suc n) all) (left r (arrive r (plain (after s.first n) z))) (suc n)
        → heard (left x (send x z)) (message (answered (arrive r (plain (after s.first n) z)))) ≡ rest s (suc n)
    unfolding left heard hearing step message answered accepts judged acked
    one_more x r rests H G =
        let a : Arrival = plain (after s.first n) z in
        let met = plain_arrives H n z good (only_out n all n (omega arith)) (omega (arith, room_some s.receive_room s.receive_good)) in
        let r' : Receiver = counted (accept r a) a in
        let F : Holds s (only (suc n) all) r' (suc n) = rw met at G in
        rw (rests, send_one, met) (sack_one (sack_of r' a) (sack_tells F a))

  pub lossless_sender : (l : List ℕ) → Sizes l → (lossless s l).0 ≡ rest s (length l)
  unfolding lossless All
  lossless_sender [] k = fresh_rests s
  lossless_sender (z ∷ l) k =
      one_more (length l) z k.0 (lossless s l).0 (lossless s l).1 (lossless_sender l k.1) (in_order l k.1) (in_order (z ∷ l) k)
