-- 01, Slips we have seen on benches: what rules each of them out for every record, beside the cases of the bench. Assumes nothing.
use mathlib.Core.Path.{◌≡◌, refl}
use mathlib.Core.Bool.{Bool, true, false, cond, ◌||◌, false≢true}
use mathlib.Core.List.{List, [], ◌∷◌, map}
use Prim.Native.Nat.{ℕ, zero, suc, ◌<◌}
use native.Mathlib.Omega.{arith}
use lib.ListN.{get_or}
use borrow.Author.Tests.{leb-true, lt-leb, le-ltb}
use Rattle.rules.specs.Numbers.{half, behind, distance, trimmed, trimmed_last_hop}
use Rattle.promise.specs.Outcome.{left}
use Rattle.rules.specs.Receiver.{Receiver, judge, verdict, judged}
use Rattle.rules.specs.Receiving.{arrive, arrive_refusals}
use Rattle.rules.specs.Sender.{Entry, Sender, outstanding, nth}
use Rattle.rules.specs.Retire.{up_to, has_bit, named, retire, retired, is_retired}
use Rattle.rules.specs.declared.Arrival.{Arrival}
use Rattle.rules.specs.declared.Block.{Block}
use Rattle.promise.proofs.Outcomes.{After, after_unless, after_done}

-- ---- "Accepting a trimmed packet": it changes nothing, wherever its PSN lies
abbrev Same : Receiver → Receiver → Type 0
Same r s = s ≡ r

judged_trimmed : (r : Receiver) (a : Arrival) (t l k b n : Bool) → (t || l) ≡ true → After (Same r) r (judged r a (judge t l k b n))
unfolding judge judged
judged_trimmed r a true l k b n h = after_done (Same r) r _ _ refl
judged_trimmed r a false true k b n h = after_done (Same r) r _ _ refl
judged_trimmed r a false false k b n h = absurd (false≢true h)

pub trimmed_keeps : (r : Receiver) (a : Arrival) → (trimmed a.flags || trimmed_last_hop a.flags) ≡ true → left r (arrive r a) ≡ r
unfolding arrive verdict
trimmed_keeps r a h =
    let all : After (Same r) r (arrive r a) = after_unless (Same r) r (arrive_refusals r a) _ refl λ _. judged_trimmed r a _ _ _ _ _ h in
    all.holds

-- ---- "Reading a clear bitmap bit as loss, or un-retiring by it"
-- an entry that is not named stays as it is
pub unnamed_stays : (f : ℕ → Bool) (l : List Entry) (i : ℕ) (d : Entry) → f i ≡ false → get_or (retire f l) i d ≡ get_or l i d
unfolding retire
unnamed_stays f [] i d h = refl
unnamed_stays f (e ∷ l) zero d h = rw h
unnamed_stays f (e ∷ l) (suc i) d h = unnamed_stays (λ j. f (suc j)) l i d h

-- what is retired stays retired
pub stays_retired : (f : ℕ → Bool) (l : List Entry) (i : ℕ) → get_or (map is_retired l) i false ≡ true → get_or (map is_retired (retire f l)) i false ≡ true
unfolding retire
stays_retired f [] i h = h
stays_retired f (e ∷ l) zero h = go (f zero)
  where
    go : (b : Bool) → (cond b (retired e) e).retired ≡ true
    go true = refl
    go false = h
stays_retired f (e ∷ l) (suc i) h = stays_retired (λ j. f (suc j)) l i h

-- ---- "Dropping a late SACK whole because its cack is old: its set bits still count"
pub late_bits_count : (x : Sender) (cack : ℕ) (b : Block) (i : ℕ) → outstanding x < half → behind x.place cack ≡ true
    → named x cack b i ≡ has_bit b (nth x i)
unfolding named up_to
late_bits_count x cack b i n h =
    let far = leb-true half (distance x.place cack) h in
    rw (lt-leb (distance x.place cack) (outstanding x) (omega arith), le-ltb i 0 (omega arith))
