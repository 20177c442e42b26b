-- The receiver's record, but for its count, depends only on which packets are accepted, and their coming once each in ascending order is
-- one way to have them accepted. Assumes nothing.
use mathlib.Core.Path.{◌≡◌, refl, sym, ap, ◌∙◌, subst, fun_ext}
use mathlib.Core.Bool.{Bool, true, false, cond, false≢true}
use mathlib.Core.List.{List, [], ◌∷◌}
use Prim.Native.Nat.{ℕ, ◌+◌, ◌-◌, ◌<◌}
use native.Mathlib.Omega.{arith}
use native.Mathlib.Decide.{dec_lt}
use lib.ListN.{length, set}
use lib.Seq.{ext_get_or}
use borrow.Author.Tests.{lt-ltb, lt-leb}
use Rattle.psn.proofs.Circle.{after_lt, ahead}
use Rattle.word.specs.Word.{bit_at}
use Rattle.rules.specs.Numbers.{turn, half, after, distance, size_ok, flags_ok}
use Rattle.lists.specs.Lists.{lead}
use Rattle.promise.specs.Outcome.{unless, left}
use Rattle.rules.specs.Receiver.{Receiver, room, fresh, judge, known, beyond, verdict, accept, counted, acked, judged}
use Rattle.rules.specs.Receiving.{arrive_refusals, arrive}
use Rattle.lists.specs.Lists.{All}
use Rattle.rules.specs.declared.Verdict.TheVariants.{Fresh}
use Rattle.lists.proofs.Joined.{never_true}
use Rattle.lists.proofs.Lists.{in_range}
use Rattle.delivery.specs.Network.{Start}
use Rattle.delivery.specs.Promise.{plain, ascending, compared}
use Rattle.delivery.proofs.Rooms.{room_some, room_few}
use Rattle.delivery.proofs.Sets.{plus, at_most, only_one, only, only_in, only_out, only_plus, only_skip}
use Rattle.delivery.proofs.Bytes.{Sizes}
use Rattle.delivery.proofs.Holds.{Holds, fresh_holds, receiver_used, accept_holds, counted_holds}

holds_same : {s : Start} {A B : ℕ → Bool} {r : Receiver} {at : ℕ} → ((j : ℕ) → A j ≡ B j) → Holds s A r at → Holds s B r at
holds_same {s} {r = r} {at = at} h H = subst (λ (X : ℕ → Bool). Holds s X r at) (fun_ext h) H

-- one set, one record
unique : {s : Start} {A : ℕ → Bool} {r q : Receiver} {a b : ℕ} → Holds s A r a → Holds s A q b → compared r ≡ compared q
unique {s} {A} {r} {q} {a} {b} H G =
    let same : a ≡ b = only_one H.missing G.missing in
    let expected : r.expected ≡ q.expected = H.expected_is ∙ ap (after s.first) same ∙ sym G.expected_is in
    let window : r.window ≡ q.window =
    ext_get_or false r.window q.window (H.room_is ∙ sym G.room_is) (λ i p. H.window_is i ∙ ap (λ (x : ℕ). A (x + i)) same ∙ sym (G.window_is i)) in
    λ i. (expected i, window i)

-- ---- a packet that is new and in the window is accepted
module _ {s : Start} {A : ℕ → Bool} {r : Receiver} {at : ℕ} (H : Holds s A r at)
    (i z : ℕ) (good : size_ok z ≡ true) (new : A i ≡ false) (reach : i < at + s.receive_room) where
  way : distance r.expected (after s.first i) ≡ i - at
  way = let low = at_most H.missing i new in
      ap (λ (p : ℕ). distance p (after s.first i)) H.expected_is ∙ ahead s.first at i low (omega (arith, room_few s.receive_room s.receive_good))

  plain_fresh : verdict r (plain (after s.first i) z) ≡ Fresh
  unfolding verdict known beyond judge plain bit_at
  plain_fresh =
      let d : ℕ = distance r.expected (after s.first i) in
      let d_is : d ≡ i - at = way in
      let low = at_most H.missing i new in
      let few = room_few s.receive_room s.receive_good in
      rw (lt-leb half d (omega arith), H.window_is d ∙ ap A (omega arith) ∙ new, lt-leb (room r) d (omega (arith, H.room_is)))

  pub plain_arrives : arrive r (plain (after s.first i) z) ≡ judged r (plain (after s.first i) z) Fresh
  unfolding arrive arrive_refusals unless plain bit_at flags_ok
  plain_arrives =
      rw (receiver_used H, lt-ltb (after s.first i) turn (after_lt s.first i), good)
      (ap (judged r (plain (after s.first i) z)) plain_fresh)

  plain_holds : let a = plain (after s.first i) z in (b : ℕ) × Holds s (plus i A) (counted (accept r a) a) b
  unfolding plain
  plain_holds =
      let d : ℕ = distance r.expected (after s.first i) in
      let d_is : d ≡ i - at = way in
      let low = at_most H.missing i new in
      let b : ℕ = at + lead (set r.window d true) in
      let a = plain (after s.first i) z in
      (b, counted_holds (subst (λ (x : ℕ). Holds s (plus x A) (accept r a) b) (omega arith) (accept_holds H a (omega arith))) a)

-- ---- the receiver after those in A came in ascending order, where none lies a room past one that is missing
module _ (s : Start) (A : ℕ → Bool) (reach : (n b : ℕ) → A n ≡ true → only n A b ≡ false → n < b + s.receive_room) where
  pub record Came (l : List ℕ) (r : Receiver) : Type 0 where
    pub at : ℕ
    pub holds : Holds s (only (length l) A) r at

  came_next : (z : ℕ) (l : List ℕ) → size_ok z ≡ true → (r : Receiver) → Came l r → (t : Bool) → A (length l) ≡ t
      → Came (z ∷ l) (cond t (left r (arrive r (plain (after s.first (length l)) z))) r)
  unfolding left judged acked
  came_next z l good r U true a =
      let n : ℕ = length l in
      let new : only n A n ≡ false = only_out n A n (omega arith) in
      let near : n < U.at + s.receive_room = reach n U.at a U.holds.missing.first in
      let J = plain_holds U.holds n z good new near in
      rw (plain_arrives U.holds n z good new near) (record { at = J.0; holds = holds_same (λ j. only_plus n A j a) J.1 })
  came_next z l good r U false a = record { at = U.at; holds = holds_same (λ j. only_skip (length l) A j a) U.holds }

  pub came : (l : List ℕ) → Sizes l → Came l (ascending s A l)
  unfolding ascending fresh All
  came [] k = record { at = 0; holds = fresh_holds s (only 0 A) (λ j. only_out 0 A j (omega arith)) }
  came (z ∷ l) k = came_next z l k.0 (ascending s A l) (came l k.1) (A (length l)) refl

-- ---- against a receiver that holds the same packets
module _ {s : Start} {A : ℕ → Bool} {r : Receiver} {at : ℕ} (H : Holds s A r at) where
  in_window : (i : ℕ) → A i ≡ true → i < at + s.receive_room
  in_window i a = elim (dec_lt i (at + s.receive_room)) [
    | yes p ↦ p
    | no p ↦
        let q : i - at < room r = in_range r.window (i - at) (H.window_is (i - at) ∙ ap A (omega arith) ∙ a) in
        omega (arith, H.room_is)
  ]

  reached : (n b : ℕ) → A n ≡ true → only n A b ≡ false → n < b + s.receive_room
  reached n b a out = elim (dec_lt b at) [
    | no p ↦ omega (arith, in_window n a)
    | yes p ↦ elim (dec_lt b n) [
      | yes q ↦ absurd (false≢true (sym out ∙ only_in n A b q ∙ H.missing.below b p))
      | no q ↦ omega (arith, room_some s.receive_room s.receive_good)
    ]
  ]

  below_all : (l : List ℕ) → ((i : ℕ) → A i ≡ true → i < length l) → (j : ℕ) → only (length l) A j ≡ A j
  below_all l bound j = elim (dec_lt j (length l)) [
    | yes p ↦ only_in (length l) A j p
    | no p ↦ only_out (length l) A j (omega arith) ∙ sym (never_true (A j) (λ a. let q = bound j a in omega arith))
  ]

  pub in_ascending_order : (l : List ℕ) → Sizes l → ((i : ℕ) → A i ≡ true → i < length l) → compared r ≡ compared (ascending s A l)
  in_ascending_order l good bound = let U = came s A reached l good in unique H (holds_same (below_all l bound) U.holds)
