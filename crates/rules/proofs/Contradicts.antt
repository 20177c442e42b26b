-- 02, No. 3: which PSNs a cack speaks of, and which blocks it does not. Assumes nothing.
use mathlib.Core.Path.{◌≡◌, refl, sym, ap, ◌∙◌}
use mathlib.Core.Bool.{Bool, true, false, ◌&&◌, ◌||◌}
use Prim.Native.Nat.{ℕ, ◌+◌, ◌-◌, ◌<◌}
use native.Mathlib.Omega.{arith}
use native.Mathlib.Decide.{ℕ_discrete}
use lib.Dec.{leb, eqb}
use borrow.Author.Tests.{eq-eqb, ne_eqb, le-leb, lt-leb}
use Rattle.psn.proofs.Circle.{after_after, after_turn, ahead}
use Rattle.word.specs.Word.{bit_at}
use Rattle.lists.proofs.Lists.{any_none}
use Rattle.rules.specs.Numbers.{turn, half, before, behind, after, distance, psn}
use Rattle.rules.specs.Retire.{any_set, at_odds, contradicts}

-- ---- "a set bit whose PSN is cack + 1, or is cack or behind it", of two PSNs
pub at_odds_is : (cack p : ℕ) → cack < turn → p < turn → at_odds cack p ≡ ((eqb p (after cack 1) || eqb p cack) || behind cack p)
unfolding at_odds after distance
at_odds_is cack p l m = ap (λ (b : Bool). b || behind cack p) (go (ℕ_discrete p (after cack 1)) (ℕ_discrete p cack))
  where
    go : Dec (p ≡ after cack 1) → Dec (p ≡ cack) → leb (distance cack p) 1 ≡ (eqb p (after cack 1) || eqb p cack)
    go (yes e) q = rw (eq-eqb p (after cack 1) e) (le-leb (distance cack p) 1 (omega arith))
    go (no e) (yes f) = rw (ne_eqb p (after cack 1) e, eq-eqb p cack f) (le-leb (distance cack p) 1 (omega arith))
    go (no e) (no f) = rw (ne_eqb p (after cack 1) e, ne_eqb p cack f) (lt-leb (distance cack p) 1 (omega arith))

-- ---- a block that begins o after E, and whose set bits are past E and not half round the circle: the cack before E says nothing of them
past_cack : (E i : ℕ) → i < half → distance (before E) (after E i) ≡ i + 1
past_cack E i l = ap (distance (before E)) (sym (after_turn E i)) ∙ ahead E (turn - 1) (i + turn) (omega arith) (omega arith) ∙ omega arith

pub all_past : (E o bitmap : ℕ) → ((j : ℕ) → j < 64 → bit_at bitmap j ≡ true → (0 < o + j) × (o + j + 1 < half))
    → contradicts (before E) (record { base = psn (after E o); bitmap = bitmap }) ≡ false
unfolding contradicts any_set at_odds
all_past E o bitmap h = any_none 64 _ (λ j l. go j (bit_at bitmap j) (h j l))
  where
    go : (j : ℕ) (b : Bool) → (b ≡ true → (0 < o + j) × (o + j + 1 < half)) → (b && at_odds (before E) (after (after E o) j)) ≡ false
    go j false k = refl
    go j true k =
        let d = o + j + 1 in
        let is : distance (before E) (after (after E o) j) ≡ d = ap (distance (before E)) (after_after E o j) ∙ past_cack E (o + j) (omega (arith, k refl)) in
        rw (is, lt-leb d 1 (omega (arith, k refl)), lt-leb half d (omega (arith, k refl)))
