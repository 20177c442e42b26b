-- What a sender's record says of the set of packets accepted: all before place + 1 are in it, and so is what is retired ahead. A SACK
-- retires only what it names, and that is in the set. Assumes nothing.
use mathlib.Core.Path.{◌≡◌, refl, sym, ap, ap₂, ◌∙◌, subst}
use mathlib.Core.Bool.{Bool, true, false, cond, ◌||◌, false≢true}
use mathlib.Core.List.{List, [], ◌∷◌, ◌++◌, map}
use Prim.Native.Nat.{ℕ, zero, suc, ◌+◌, ◌-◌, ◌≤◌, ◌<◌}
use native.Mathlib.Omega.{arith}
use native.Mathlib.Nat.{add_assoc, add-zero}
use native.Mathlib.Decide.{dec_lt}
use lib.Dec.{ltb, leb, eqb}
use lib.ListN.{length, get_or, drop, length-map, length-append, length-drop, get_or-map}
use lib.Seq.{get_or-drop}
use borrow.Author.Tests.{ltb-true, leb-true}
use Rattle.psn.specs.declared.Psn.{Psn}
use Rattle.psn.proofs.Circle.{after_zero, after_after, lands}
use Rattle.word.specs.Word.{bit_at}
use Rattle.rules.specs.Numbers.{turn, after, before, distance}
use Rattle.lists.specs.Lists.{lead, update}
use Rattle.promise.specs.Outcome.{left}
use Rattle.rules.specs.Sender.{Entry, Sender, outstanding, nth, next, unused, fresh, with_entries, new, index}
use Rattle.rules.specs.Retire.{is_retired, retired, retire, named, up_to, has_bit, settle, after_sack}
use Rattle.rules.specs.Marks.{with_mark, markable, mark, nacked}
use Rattle.rules.specs.Sending.{timer, nack}
use Rattle.rules.specs.declared.Answer.{Answer}
use Rattle.rules.specs.declared.Answer.TheVariants as answer
use Rattle.rules.specs.declared.Sack.{Sack}
use Rattle.lists.proofs.Joined.{and_true_each}
use Rattle.lists.proofs.Lists.{lead_true, lead_false, lead_le, length_update, map_update}
use Rattle.promise.proofs.Outcomes.{After, after_unless, after_cond, after_done}
use Rattle.delivery.specs.Network.{Start}
use Rattle.delivery.specs.Wire.{Near, base_number}
use Rattle.delivery.specs.Promise.{retired_at}
use Rattle.delivery.proofs.Rooms.{room_used, room_few}
use Rattle.delivery.proofs.Places.{past_before, before_on, place_moved}
use Rattle.delivery.proofs.Holds.{Tells}

-- low: the number of place + 1; n: how many were sent
pub record Keeps (s : Start) (A : ℕ → Bool) (n : ℕ) (x : Sender) (low : ℕ) : Type 0 where
  pub room_is : x.room ≡ s.send_room
  pub place_is : x.place ≡ before (after s.first low)
  pub next_is : low + outstanding x ≡ n
  pub room_left : outstanding x ≤ s.send_room
  pub below : (i : ℕ) → i < low → A i ≡ true
  pub ahead : (k : ℕ) → retired_at x k ≡ true → A (low + k) ≡ true
  pub first_open : retired_at x 0 ≡ false

-- ---- events that leave the place and what is retired alone
pub record Quiet (x y : Sender) : Type 0 where
  pub room_same : y.room ≡ x.room
  pub place_same : y.place ≡ x.place
  pub outstanding_same : outstanding y ≡ outstanding x
  pub retired_same : (k : ℕ) → retired_at y k ≡ retired_at x k

pub quiet_self : (x : Sender) → Quiet x x
quiet_self x = record { room_same = refl; place_same = refl; outstanding_same = refl; retired_same = λ k. refl }

pub quiet_update : (x : Sender) (b : Bool) (i : ℕ) → Quiet x (with_entries x (update (with_mark b) x.entries i))
unfolding with_entries
quiet_update x b i = record {
  room_same = refl;
  place_same = refl;
  outstanding_same = length_update (with_mark b) x.entries i;
  retired_same = λ k. ap (λ (l : List Bool). get_or l k false) (map_update is_retired (with_mark b) x.entries i (λ e. refl));
}

quiet_mark : (tell : ℕ → Answer) (x : Sender) (p : ℕ) → After (Quiet x) x (mark tell x p)
unfolding mark
quiet_mark tell x p =
    after_cond (Quiet x) x (get_or (map markable x.entries) (index x p) false) _ _
    (λ _. after_done (Quiet x) x _ _ (quiet_update x true (index x p)))
    (λ _. after_done (Quiet x) x _ _ (quiet_self x))

pub quiet_timer : (x : Sender) (p : Psn) → Quiet x (left x (timer x p))
unfolding timer
quiet_timer x p =
    let Q = quiet_self x in
    let all : After (Quiet x) x (timer x p) = after_unless (Quiet x) x _ _ Q (λ _. quiet_mark answer.Expired x p.0) in
    all.holds

pub quiet_nack : (x : Sender) (p : Psn) (reason : ℕ) → Quiet x (left x (nack x p reason))
unfolding nack nacked
quiet_nack x p reason =
    let Q = quiet_self x in
    let all : After (Quiet x) x (nack x p reason) =
    after_unless (Quiet x) x _ _ Q
    (λ _. after_cond (Quiet x) x (leb reason 4) _ _ (λ _. quiet_mark answer.Marked x p.0) (λ _. after_done (Quiet x) x _ _ Q)) in
    all.holds

module _ {s : Start} {A : ℕ → Bool} {n : ℕ} {x : Sender} {low : ℕ} (K : Keeps s A n x low) where
  pub sender_used : unused x ≡ false
  sender_used = ap (λ (m : ℕ). eqb m 0) K.room_is ∙ room_used s.send_room s.send_good

  pub nth_is : (i : ℕ) → nth x i ≡ after s.first (low + i)
  nth_is i = ap (λ (p : ℕ). after p (1 + i)) K.place_is ∙ past_before s.first low i

  pub keeps_quiet : (y : Sender) → Quiet x y → Keeps s A n y low
  keeps_quiet y Q = record {
    room_is = Q.room_same ∙ K.room_is;
    place_is = Q.place_same ∙ K.place_is;
    next_is = omega (arith, K.next_is, Q.outstanding_same);
    room_left = omega (arith, K.room_left, Q.outstanding_same);
    below = K.below;
    ahead = λ k e. K.ahead k (sym (Q.retired_same k) ∙ e);
    first_open = Q.retired_same 0 ∙ K.first_open;
  }

  -- more is accepted
  pub keeps_more : (B : ℕ → Bool) → ((i : ℕ) → A i ≡ true → B i ≡ true) → Keeps s B n x low
  keeps_more B more = record {
    room_is = K.room_is;
    place_is = K.place_is;
    next_is = K.next_is;
    room_left = K.room_left;
    below = λ i h. more i (K.below i h);
    ahead = λ k h. more (low + k) (K.ahead k h);
    first_open = K.first_open;
  }

-- ---- send: the new entry is not retired
pub retired_new : (l : List Entry) (z k : ℕ) → get_or (map is_retired (l ++ (new z ∷ []))) k false ≡ get_or (map is_retired l) k false
retired_new [] z zero = refl
retired_new [] z (suc k) = refl
retired_new (e ∷ l) z zero = refl
retired_new (e ∷ l) z (suc k) = retired_new l z k

module _ {s : Start} {A : ℕ → Bool} {n : ℕ} {x : Sender} {low : ℕ} (K : Keeps s A n x low) where
  pub keeps_send : (z : ℕ) → outstanding x < x.room → Keeps s A (suc n) (with_entries x (x.entries ++ (new z ∷ []))) low
  unfolding with_entries
  keeps_send z h = record {
    room_is = K.room_is;
    place_is = K.place_is;
    next_is = simp length-append (omega (arith, K.next_is));
    room_left = simp length-append (omega (arith, K.room_is));
    below = K.below;
    ahead = λ k e. K.ahead k (sym (retired_new x.entries z k) ∙ e);
    first_open = retired_new x.entries z 0 ∙ K.first_open;
  }

  pub next_number : next x ≡ after s.first n
  unfolding next
  next_number = nth_is K (outstanding x) ∙ ap (after s.first) K.next_is

-- ---- SACK
-- what is retired was so, or passes
retire_only : (f : ℕ → Bool) (l : List Entry) (B : ℕ → Bool) → ((i : ℕ) → i < length l → f i ≡ true → B i ≡ true)
    → ((i : ℕ) → get_or (map is_retired l) i false ≡ true → B i ≡ true) → (i : ℕ) → get_or (map is_retired (retire f l)) i false ≡ true → B i ≡ true
unfolding retire
retire_only f [] B passes was i e = absurd (false≢true e)
retire_only f (x ∷ l) B passes was zero e = go (f zero) refl e
  where
    go : (b : Bool) → f zero ≡ b → (cond b (retired x) x).retired ≡ true → B zero ≡ true
    go true p e = passes zero (omega arith) p
    go false p e = was zero e
retire_only f (x ∷ l) B passes was (suc i) e =
    retire_only (λ k. f (suc k)) l (λ k. B (suc k)) (λ k h p. passes (suc k) (omega arith) p) (λ k p. was (suc k) p) i e

retire_length : (f : ℕ → Bool) (l : List Entry) → length (map is_retired (retire f l)) ≡ length l
unfolding retire
retire_length f [] = refl
retire_length f (x ∷ l) = ap suc (retire_length (λ k. f (suc k)) l)

or_cases : (a b : Bool) (P : Type 0) → (a || b) ≡ true → (a ≡ true → P) → (b ≡ true → P) → P
or_cases true b P e f g = f refl
or_cases false b P e f g = g e

-- what is retired by a SACK or was before, and how far that moves the place
abbrev pub retired_row : Sender → Sack → List Bool
retired_row x k = map is_retired (retire (named x k.cack.0 k.block) x.entries)

abbrev pub moves : Sender → Sack → ℕ
moves x k = lead (retired_row x k)

-- what is retired after it
pub retired_after : (x : Sender) (k : Sack) (i : ℕ) → retired_at (after_sack x k.cack.0 k.block) i ≡ get_or (retired_row x k) (moves x k + i) false
unfolding settle after_sack
retired_after x k i =
    let l : List Entry = retire (named x k.cack.0 k.block) x.entries in
    let m : ℕ = moves x k in
    get_or-map is_retired (drop m l) i (new 0) ∙ ap is_retired (get_or-drop m l i (new 0)) ∙ sym (get_or-map is_retired l (m + i) (new 0))

-- cack within what is outstanding
up_to_cack : (x : Sender) (cack i : ℕ) → i < up_to x cack → (distance x.place cack ≤ outstanding x) × (i < distance x.place cack)
unfolding up_to
up_to_cack x cack i h = go (leb (distance x.place cack) (outstanding x)) refl h
  where
    go : (b : Bool) → leb (distance x.place cack) (outstanding x) ≡ b → i < cond b (distance x.place cack) 0
        → (distance x.place cack ≤ outstanding x) × (i < distance x.place cack)
    go true e h = (leb-true (distance x.place cack) (outstanding x) e, h)
    go false e h = absurd (omega arith)

module _ {s : Start} {A : ℕ → Bool} {n : ℕ} {x : Sender} {low : ℕ} (K : Keeps s A n x low) (here : ℕ) (k : Sack) (T : Tells s A here k)
    (near : Near here low) (bits_near : (j : ℕ) → j < 64 → bit_at k.block.bitmap j ≡ true → Near (base_number here k + j + 1) low) where
  abbrev f : ℕ → Bool
  f = named x k.cack.0 k.block

  abbrev row : List Bool
  row = retired_row x k

  abbrev m : ℕ
  m = moves x k

  row_length : length row ≡ outstanding x
  row_length = retire_length f x.entries

  by_cack : (i : ℕ) → i < up_to x k.cack.0 → A (low + i) ≡ true
  by_cack i h =
      let c : ℕ = distance x.place k.cack.0 in
      let g = up_to_cack x k.cack.0 i h in
      let place : x.place ≡ after s.first (low + (turn - 1)) = K.place_is ∙ after_after s.first low (turn - 1) in
      let cack : k.cack.0 ≡ after s.first (here + (turn - 1)) = T.cack_is ∙ after_after s.first here (turn - 1) in
      let few = room_few s.send_room s.send_good in
      let is : here + (turn - 1) ≡ low + (turn - 1) + c =
      lands s.first (low + (turn - 1)) (here + (turn - 1)) c (ap₂ distance (sym place) (sym cack)) (omega (arith, K.room_left)) (omega arith) in
      T.to_cack (low + i) (omega arith)

  by_bit : (i : ℕ) → i < outstanding x → has_bit k.block (nth x i) ≡ true → A (low + i) ≡ true
  unfolding has_bit
  by_bit i h e =
      let d : ℕ = distance k.block.base.0 (nth x i) in
      let g = and_true_each (ltb d 64) (bit_at k.block.bitmap d) e in
      let d_small : d < 64 = ltb-true d 64 g.0 in
      let b : ℕ = base_number here k in
      let nb = bits_near d d_small g.1 in
      let few = room_few s.send_room s.send_good in
      let is : low + i ≡ b + d =
      lands s.first b (low + i) d (ap₂ distance (sym T.base_is) (sym (nth_is K i))) (omega (arith, nb)) (omega (arith, nb, K.room_left)) in
      ap A is ∙ T.bits d g.1

  row_accepted : (i : ℕ) → get_or row i false ≡ true → A (low + i) ≡ true
  unfolding named
  row_accepted = retire_only f x.entries (λ i. A (low + i))
      (λ i h e. or_cases (ltb i (up_to x k.cack.0)) (has_bit k.block (nth x i)) (A (low + i) ≡ true) e
      (λ p. by_cack i (ltb-true i _ p)) (by_bit i h))
      K.ahead

  pub keeps_sack : Keeps s A n (after_sack x k.cack.0 k.block) (low + moves x k)
  unfolding settle after_sack
  keeps_sack =
      let m_le : m ≤ length row = lead_le row in
      let len : length row ≡ outstanding x = row_length in
      let l : List Entry = retire f x.entries in
      let rest = retired_after x k in
      let left_over : length (drop m l) ≡ outstanding x - m = length-drop m l ∙ ap (λ (n : ℕ). n - m) (sym (length-map l is_retired) ∙ len) in
      record {
        room_is = K.room_is;
        place_is = ap (λ (p : ℕ). after p m) K.place_is ∙ before_on s.first low m;
        next_is = omega (arith, left_over, K.next_is);
        room_left = omega (arith, left_over, K.room_left);
        below = λ i p. elim (dec_lt i low) [
          | yes q ↦ K.below i q
          | no q ↦ subst (λ (y : ℕ). A y ≡ true) (omega arith) (row_accepted (i - low) (lead_true row (i - low) (omega arith)))
        ];
        ahead = λ j e. ap A (add_assoc low m j) ∙ row_accepted (m + j) (sym (rest j) ∙ e);
        first_open = rest 0 ∙ ap (λ (y : ℕ). get_or row y false) (add-zero m) ∙ lead_false row;
      }

  pub place_moves : distance x.place (after_sack x k.cack.0 k.block).place ≡ moves x k
  place_moves =
      let few : m < turn = omega (arith, lead_le row, row_length, K.room_left, room_few s.send_room s.send_good) in
      place_moved s.first low m _ _ K.place_is keeps_sack.place_is few

-- ---- a sender of which n packets were sent and all are retired
unfoldable pub rest : Start → ℕ → Sender
rest s n = record { room = s.send_room; place = before (after s.first n); entries = [] }

pub fresh_rests : (s : Start) → fresh s.send_room s.first ≡ rest s 0
unfolding fresh rest
fresh_rests s = ap (λ (p : ℕ). record { room = s.send_room; place = before p; entries = [] }) (sym (after_zero s.first s.first_low))

pub rest_keeps : (s : Start) (A : ℕ → Bool) (n : ℕ) → ((i : ℕ) → i < n → A i ≡ true) → Keeps s A n (rest s n) n
unfolding rest
rest_keeps s A n below = record {
  room_is = refl;
  place_is = refl;
  next_is = omega arith;
  room_left = omega arith;
  below = below;
  ahead = λ k e. absurd (false≢true e);
  first_open = refl;
}

no_entries : {B : Type 0} (l : List B) → length l ≡ 0 → l ≡ []
no_entries [] h = refl
no_entries (b ∷ l) h = absurd (omega arith)

pub keeps_rests : {s : Start} {A : ℕ → Bool} {n : ℕ} {x : Sender} {low : ℕ} → Keeps s A n x low → outstanding x ≡ 0 → x ≡ rest s n
unfolding rest
keeps_rests {s} {n = n} {x = x} {low = low} K none =
    let low_is : low ≡ n = omega (arith, K.next_is) in
    let place : x.place ≡ before (after s.first n) = K.place_is ∙ ap (λ (i : ℕ). before (after s.first i)) low_is in
    let entries : x.entries ≡ [] = no_entries x.entries none in
    λ i. record { room = K.room_is i; place = place i; entries = entries i }
