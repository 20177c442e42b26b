-- Demand 3: what holds in every world of a run is what is promised. Once nothing is unretired all are accepted, which leaves both records,
-- but for the count, as the run without loss does. Assumes nothing.
use mathlib.Core.Path.{◌≡◌, refl, sym, ap, ap₂, ◌∙◌}
use mathlib.Core.Bool.{Bool, true, cond, false≢true}
use mathlib.Core.List.{List, [], ◌∷◌}
use Prim.Native.Nat.{ℕ, ◌<◌}
use native.Mathlib.Omega.{arith}
use native.Mathlib.Decide.{dec_lt}
use lib.ListN.{length}
use Rattle.rules.specs.Numbers.{after}
use Rattle.promise.specs.Outcome.{left}
use Rattle.rules.specs.Receiver.{Receiver}
use Rattle.rules.specs.Receiving.{arrive}
use Rattle.rules.specs.Sender.{outstanding}
use Rattle.delivery.specs.Network.{Start}
use Rattle.delivery.specs.Rules.{World}
use Rattle.delivery.specs.Promise.{among, plain, ascending, lossless, compared, retired_at, Delivers}
use Rattle.delivery.proofs.Sets.{all}
use Rattle.delivery.proofs.Keeps.{keeps_rests}
use Rattle.delivery.proofs.Invariant.{Inv, invariant}
use Rattle.delivery.proofs.Order.{in_ascending_order}
use Rattle.delivery.proofs.Lossless.{lossless_sender, lossless_receiver}

ascending_same : (s : Start) (A B : ℕ → Bool) (l : List ℕ) → ((j : ℕ) → j < length l → A j ≡ B j) → ascending s A l ≡ ascending s B l
unfolding ascending
ascending_same s A B [] h = refl
ascending_same s A B (z ∷ l) h =
    ap₂ (λ (b : Bool) (r : Receiver). cond b (left r (arrive r (plain (after s.first (length l)) z))) r)
    (h (length l) (omega arith)) (ascending_same s A B l (λ j p. h j (omega arith)))

module _ {s : Start} {w : World} (I : Inv s w) where
  in_order : compared w.receiving ≡ compared (ascending s (among w.accepted) w.sent)
  in_order = in_ascending_order I.holds w.sent I.sizes I.bound

  module _ (done : (k : ℕ) → k < outstanding w.sending → retired_at w.sending k ≡ true) where
    nothing_left : outstanding w.sending ≡ 0
    nothing_left = elim (dec_lt 0 (outstanding w.sending)) [ yes p ↦ absurd (false≢true (sym I.keeps.first_open ∙ done 0 p)) | no p ↦ omega arith ]

    all_accepted : (j : ℕ) → j < length w.sent → among w.accepted j ≡ all j
    unfolding all
    all_accepted j h = I.keeps.below j (omega (arith, I.keeps.next_is, nothing_left))

    in_the_end : (w.sending ≡ (lossless s w.sent).0) × (compared w.receiving ≡ compared (lossless s w.sent).1)
    in_the_end = (
      keeps_rests I.keeps nothing_left ∙ sym (lossless_sender s w.sent I.sizes),
      in_order ∙ ap compared (ascending_same s (among w.accepted) all w.sent all_accepted ∙ sym (lossless_receiver s w.sent)),
    )

pub delivers : Delivers
delivers s w run =
    let I = invariant run in
    record {
      place_is = I.keeps.place_is;
      next_is = I.keeps.next_is;
      expected_is = I.holds.expected_is;
      accepted_before = I.holds.missing.below;
      expected_open = I.holds.missing.first;
      once = I.once;
      retired_before = I.keeps.below;
      retired_ahead = I.keeps.ahead;
      in_order = in_order I;
      counted = I.counted;
      in_the_end = in_the_end I;
    }
