-- What a receiver's record says of the set of packets accepted: E is the first that is not in it and the window lists the rest, so what
-- is accepted was not in it, and a SACK names only what is in it. Assumes nothing.
use mathlib.Core.Path.{◌≡◌, refl, sym, ap, ap₂, ◌∙◌, subst}
use mathlib.Core.Bool.{Bool, true, false, cond, false≢true}
use mathlib.Core.List.{List, [], ◌∷◌}
use Prim.Native.Nat.{ℕ, zero, suc, ◌+◌, ◌-◌, ◌*◌, ◌/◌, ◌%◌, ◌<◌}
use native.Mathlib.Omega.{arith}
use native.Mathlib.Nat.{add_assoc}
use native.Mathlib.Decide.{ℕ_discrete, dec_lt}
use lib.Dec.{ltb, leb, eqb}
use lib.ListN.{get_or, take, drop, set, length-set, length-replicate}
use lib.Seq.{get_or-take, get_or-drop, get_or-set_same, get_or-set_other}
use borrow.Author.Tests.{ltb-true, leb-false, lt-ltb, lt-leb}
use Rattle.psn.proofs.Circle.{after_zero, after_after, ahead, lands}
use Rattle.word.specs.Word.{bit_at}
use Rattle.rules.specs.Numbers.{turn, half, after, before, distance, trimmed, trimmed_last_hop, no_buffer}
use Rattle.lists.specs.Lists.{lead}
use Rattle.rules.specs.Receiver.{Receiver, room, unused, fresh, judge, known, beyond, verdict, accept, counted, block_at, block, sack_of}
use Rattle.rules.specs.Retire.{contradicts}
use Rattle.rules.specs.declared.Arrival.{Arrival}
use Rattle.rules.specs.declared.Sack.{Sack}
use Rattle.rules.specs.declared.Verdict.TheVariants.{Fresh, Known}
use Rattle.lists.proofs.Joined.{or_false_each}
use Rattle.lists.proofs.Lists.{lead_true, lead_false, lead_le, get_or_alike, get_or_slide, length_slide, in_range}
use Rattle.delivery.specs.Network.{Start}
use Rattle.delivery.specs.Wire.{Near, base_number}
use Rattle.rules.proofs.Packed.{bit_pack}
use Rattle.rules.proofs.Contradicts.{all_past}
use Rattle.delivery.proofs.Rooms.{room_used, room_few}
use Rattle.delivery.proofs.Places.{past_one, moved}
use Rattle.delivery.proofs.Sets.{plus, plus_same, plus_other, plus_more, Missing}

-- at: the number of the expected PSN
pub record Holds (s : Start) (A : ℕ → Bool) (r : Receiver) (at : ℕ) : Type 0 where
  pub expected_is : r.expected ≡ after s.first at
  pub room_is : room r ≡ s.receive_room
  pub window_is : (o : ℕ) → get_or r.window o false ≡ A (at + o)
  pub missing : Missing A at

pub fresh_holds : (s : Start) (A : ℕ → Bool) → ((j : ℕ) → A j ≡ false) → Holds s A (fresh s.receive_room s.first) 0
unfolding fresh
fresh_holds s A none = record {
  expected_is = sym (after_zero s.first s.first_low);
  room_is = length-replicate s.receive_room false;
  window_is = λ o. get_or_alike false s.receive_room o ∙ sym (none (0 + o));
  missing = record { below = λ i p. absurd (omega arith); first = none 0 };
}

module _ {s : Start} {A : ℕ → Bool} {r : Receiver} {at : ℕ} (H : Holds s A r at) where
  pub receiver_used : unused r ≡ false
  receiver_used = ap (λ (n : ℕ). eqb n 0) H.room_is ∙ room_used s.receive_room s.receive_good

  -- ---- rule 5
  module _ (a : Arrival) (inside : distance r.expected a.psn.0 < s.receive_room) where
    abbrev d : ℕ
    d = distance r.expected a.psn.0

    abbrev entered : List Bool
    entered = set r.window d true

    entered_is : (o : ℕ) → get_or entered o false ≡ plus (at + d) A (at + o)
    entered_is o = elim (ℕ_discrete o d) [
      | yes e ↦
          ap (λ (x : ℕ). get_or entered x false) e ∙ get_or-set_same r.window d true false (omega (arith, H.room_is))
          ∙ sym (plus_same (at + d) (at + o) A (omega arith))
      | no e ↦ get_or-set_other r.window d o true false e ∙ H.window_is o ∙ sym (plus_other (at + d) (at + o) A (omega arith))
    ]

    pub accept_holds : Holds s (plus (at + d) A) (accept r a) (at + lead (set r.window d true))
    unfolding accept
    accept_holds = record {
      expected_is = ap (λ (p : ℕ). after p (lead entered)) H.expected_is ∙ after_after s.first at (lead entered);
      room_is = length_slide (lead entered) entered (lead_le entered) ∙ length-set r.window d true ∙ H.room_is;
      window_is = λ o. get_or_slide (lead entered) entered o ∙ entered_is (lead entered + o) ∙ ap (plus (at + d) A) (sym (add_assoc at (lead entered) o));
      missing = record {
        below = λ i p. elim (dec_lt i at) [
          | yes q ↦ plus_more (at + d) i A (H.missing.below i q)
          | no q ↦ subst (λ (x : ℕ). plus (at + d) A x ≡ true) (omega arith) (sym (entered_is (i - at)) ∙ lead_true entered (i - at) (omega arith))
        ];
        first = sym (entered_is (lead entered)) ∙ lead_false entered;
      };
    }

    pub accept_few : lead (set r.window d true) < turn
    accept_few = omega (arith, lead_le entered, length-set r.window d true, H.room_is, room_few s.receive_room s.receive_good)

-- the count is no part of it
pub counted_holds : {s : Start} {A : ℕ → Bool} {r : Receiver} {at : ℕ} → Holds s A r at → (a : Arrival) → Holds s A (counted r a) at
unfolding counted
counted_holds H a = record { expected_is = H.expected_is; room_is = H.room_is; window_is = H.window_is; missing = H.missing }

-- ---- what a fresh verdict says
judge_fresh : (t l k b n : Bool) → judge t l k b n ≡ Fresh → (k ≡ false) × (b ≡ false)
unfolding judge
judge_fresh true l k b n e = (cc, cc)
judge_fresh false true k b n e = (cc, cc)
judge_fresh false false true b n e = (cc, cc)
judge_fresh false false false true n e = (cc, cc)
judge_fresh false false false false true e = (cc, cc)
judge_fresh false false false false false e = (refl, refl)

judge_known : (t l k b n : Bool) → judge t l k b n ≡ Known → k ≡ true
unfolding judge
judge_known true l k b n e = cc
judge_known false true k b n e = cc
judge_known false false true b n e = refl
judge_known false false false true n e = cc
judge_known false false false false true e = cc
judge_known false false false false false e = cc

-- where packet i is not known, its PSN says which it is
pub record Unknown (A : ℕ → Bool) (r : Receiver) (at i : ℕ) (p : ℕ) : Type 0 where
  pub number : i ≡ at + distance r.expected p
  pub absent : A i ≡ false

pub record Newcomer (s : Start) (A : ℕ → Bool) (r : Receiver) (at i : ℕ) (a : Arrival) : Type 0 where
  pub unknown : Unknown A r at i a.psn.0
  pub inside : distance r.expected a.psn.0 < s.receive_room

module _ {s : Start} {A : ℕ → Bool} {r : Receiver} {at : ℕ} (H : Holds s A r at) where
  pub not_known : (i p : ℕ) → p ≡ after s.first i → Near i at → known r p ≡ false → Unknown A r at i p
  unfolding known
  not_known i p is near k =
      let d : ℕ = distance r.expected p in
      let g = or_false_each (leb half d) (get_or r.window d false) k in
      let small : d < half = leb-false half d g.0 in
      let number : i ≡ at + d = lands s.first at i d (ap₂ distance (sym H.expected_is) (sym is)) (omega arith) (omega arith) in
      record { number = number; absent = ap A number ∙ sym (H.window_is d) ∙ g.1 }

  pub newcomer : (i : ℕ) (a : Arrival) → a.psn.0 ≡ after s.first i → Near i at → verdict r a ≡ Fresh → Newcomer s A r at i a
  unfolding verdict beyond
  newcomer i a is near e =
      let d : ℕ = distance r.expected a.psn.0 in
      let f = judge_fresh (trimmed a.flags) (trimmed_last_hop a.flags) (known r a.psn.0) (leb (room r) d) (no_buffer a.flags) e in
      record {
        unknown = not_known i a.psn.0 is near f.0;
        inside = omega (arith, leb-false (room r) d f.1, H.room_is);
      }

  -- what is known is accepted
  pub known_accepted : (i : ℕ) (a : Arrival) → a.psn.0 ≡ after s.first i → Near i at → verdict r a ≡ Known → A i ≡ true
  unfolding verdict known
  known_accepted i a is near e =
      let p : ℕ = a.psn.0 in
      let d : ℕ = distance r.expected p in
      let k = judge_known (trimmed a.flags) (trimmed_last_hop a.flags) (known r p) (beyond r p) (no_buffer a.flags) e in
      elim (dec_lt i at) [
        | yes q ↦ H.missing.below i q
        | no q ↦
            let d_is : d ≡ i - at = ap₂ distance H.expected_is is ∙ ahead s.first at i (omega arith) (omega arith) in
            let behind : leb half d ≡ false = lt-leb half d (omega arith) in
            ap A (omega arith) ∙ sym (H.window_is d) ∙ (rw behind at k)
      ]

-- ---- what a SACK says
pub record Tells (s : Start) (A : ℕ → Bool) (here : ℕ) (k : Sack) : Type 0 where
  pub cack_is : k.cack.0 ≡ before (after s.first here)
  pub base_is : k.block.base.0 ≡ after s.first (base_number here k)
  pub to_cack : (i : ℕ) → i < here → A i ≡ true
  pub bits : (j : ℕ) → bit_at k.block.bitmap j ≡ true → A (base_number here k + j) ≡ true
  pub consistent : contradicts k.cack.0 k.block ≡ false

-- a SACK says of packet i that it is accepted: by its cack, or by a bit of its block
pub data Says (here : ℕ) (k : Sack) (i : ℕ) : Type 0 where
  before_here : i < here → Says here k i
  in_block : (j : ℕ) → j < 64 → i ≡ base_number here k + j → bit_at k.block.bitmap j ≡ true → Says here k i

-- a bit is an entry of the window
take_true : (n : ℕ) (l : List Bool) (i : ℕ) → get_or (take n l) i false ≡ true → get_or l i false ≡ true
take_true zero l i h = absurd (false≢true h)
take_true (suc n) [] i h = absurd (false≢true h)
take_true (suc n) (b ∷ l) zero h = h
take_true (suc n) (b ∷ l) (suc i) h = take_true n l i h

module _ {s : Start} {A : ℕ → Bool} {r : Receiver} {at : ℕ} (H : Holds s A r at) where
  block_few : (p : ℕ) → block_at r p < turn
  unfolding block_at
  block_few p = go (ltb d (room r)) refl
    where
      d : ℕ
      d = distance r.expected p

      go : (b : Bool) → ltb d (room r) ≡ b → cond b (64 * (d / 64)) 0 < turn
      go true e = omega (arith, ltb-true d (room r) e, H.room_is, room_few s.receive_room s.receive_good)
      go false e = omega arith

  -- the block's base is as far past E as it says
  base_is_at : (a : Arrival) → base_number at (sack_of r a) ≡ at + block_at r a.psn.0
  unfolding sack_of block base_number
  base_is_at a =
      let o : ℕ = block_at r a.psn.0 in
      let up : after (before r.expected) 1 ≡ after s.first at = ap (λ (p : ℕ). after (before p) 1) H.expected_is ∙ past_one s.first at in
      let base : after r.expected o ≡ after s.first (at + o) = ap (λ (p : ℕ). after p o) H.expected_is ∙ after_after s.first at o in
      ap (λ (x : ℕ). at + x) (moved s.first at o _ _ up base (block_few a.psn.0))

  -- a set bit is an entry of the window, past E and not half round the circle
  bit_entry : (a : Arrival) (j : ℕ) → bit_at (sack_of r a).block.bitmap j ≡ true → get_or r.window (block_at r a.psn.0 + j) false ≡ true
  unfolding sack_of block
  bit_entry a j e =
      let rest = drop (block_at r a.psn.0) r.window in
      sym (get_or-drop (block_at r a.psn.0) r.window j false) ∙ take_true 64 rest j (sym (bit_pack (take 64 rest) j) ∙ e)

  past_expected : (i : ℕ) → get_or r.window i false ≡ true → 0 < i
  past_expected i e = elim (ℕ_discrete i 0) [
    | yes z ↦ absurd (false≢true (sym H.missing.first ∙ ap A (omega arith) ∙ sym (H.window_is i) ∙ e))
    | no z ↦ omega arith
  ]

  not_half : (i : ℕ) → get_or r.window i false ≡ true → i + 1 < half
  not_half i e = omega (arith, in_range r.window i e, H.room_is, room_few s.receive_room s.receive_good)

  pub sack_tells : (a : Arrival) → Tells s A at (sack_of r a)
  unfolding sack_of block
  sack_tells a =
      let o : ℕ = block_at r a.psn.0 in
      record {
        cack_is = ap before H.expected_is;
        base_is = ap (λ (p : ℕ). after p o) H.expected_is ∙ after_after s.first at o ∙ ap (after s.first) (sym (base_is_at a));
        to_cack = H.missing.below;
        bits = λ j e. ap (λ (x : ℕ). A (x + j)) (base_is_at a) ∙ ap A (add_assoc at o j) ∙ sym (H.window_is (o + j)) ∙ bit_entry a j e;
        consistent = all_past r.expected o _ (λ j l e. (past_expected (o + j) (bit_entry a j e), not_half (o + j) (bit_entry a j e)));
      }

  -- the block is the one that has the packet's own PSN
  pub sack_says : (i : ℕ) (a : Arrival) → a.psn.0 ≡ after s.first i → A i ≡ true → Says at (sack_of r a) i
  unfolding sack_of block block_at
  sack_says i a is e = elim (dec_lt i at) [
    | yes p ↦ before_here p
    | no p ↦
        let l = r.window in
        let d : ℕ = distance r.expected a.psn.0 in
        let o : ℕ = block_at r a.psn.0 in
        let there : get_or l (i - at) false ≡ true = H.window_is (i - at) ∙ ap A (omega arith) ∙ e in
        let few : i - at < room r = in_range l (i - at) there in
        let small = room_few s.receive_room s.receive_good in
        let d_is : d ≡ i - at = ap₂ distance H.expected_is is ∙ ahead s.first at i (omega arith) (omega (arith, H.room_is)) in
        let o_is : o ≡ 64 * (d / 64) = rw (lt-ltb d (room r) (omega arith)) in
        in_block (d % 64) (omega arith) (omega (arith, base_is_at a))
        (bit_pack (take 64 (drop o l)) (d % 64) ∙ get_or-take 64 (drop o l) (d % 64) false (omega arith) ∙ get_or-drop o l (d % 64) false
        ∙ ap (λ (x : ℕ). get_or l x false) (omega arith) ∙ there)
  ]
