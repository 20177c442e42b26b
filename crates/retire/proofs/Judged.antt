-- Which SACKs contradict themselves, by a bit of the block; which packet numbers are unsent, and which SACKs name one, by cack or by a bit.
-- The word of such bits shows whether there is one. Assumes nothing.
use mathlib.Core.Path.{◌≡◌, sym, ap, ap₂, ◌∙◌}
use mathlib.Core.Bool.{Bool, true, false, not, ◌&&◌, ◌||◌, or-true}
use Prim.Native.Nat.{ℕ, ◌+◌, ◌%◌, ◌^◌, ◌≤◌, ◌<◌}
use native.Mathlib.Omega.{arith}
use native.Mathlib.Decide.{ℕ_discrete, dec_lt}
use lib.Count.{count_trailing_zeros}
use lib.Dec.{ltb, leb, eqb}
use borrow.Author.Tests.{lt-ltb, le-ltb, le-leb, lt-leb, eq-eqb, ne_eqb}
use Rattle.psn.specs.Psn.{turn, half, after, distance}
use Rattle.psn.proofs.Circle.{distance_on}
use Rattle.lists.specs.Lists.{any}
use Rattle.lists.proofs.Lists.{any_none, any_some}
use Rattle.word.specs.Word.{bit_at, Bits}
use Rattle.word.proofs.Bits.{bit_none, first_bit, some_bit}
use Rattle.rules.specs.Sender.{Sender, index, unsent}
use Rattle.rules.specs.Retire.{any_set, at_odds, contradicts, unsent_cack, unsent_bit, names_unsent}
use Rattle.rules.specs.declared.Block.{Block}
use Rattle.retire.specs.Rows.{ahead}
use Rattle.retire.specs.Front.{Stands}

-- a word is 0 where none of its bits is set
any_bit : (w : ℕ) (f : ℕ → Bool) → w < 2 ^ 64 → Bits w f → not (eqb w 0) ≡ any 64 f
any_bit w f small e = go (ℕ_discrete w 0)
  where
    go : Dec (w ≡ 0) → not (eqb w 0) ≡ any 64 f
    go (yes z) = ap not (eq-eqb w 0 z) ∙ sym (any_none 64 f (λ i l. sym (e i l) ∙ ap (λ (v : ℕ). bit_at v i) z ∙ bit_none i))
    go (no z) =
        let t = count_trailing_zeros 64 w in
        let l = some_bit w t small z (first_bit 64 w) in
        ap not (ne_eqb w 0 z) ∙ sym (any_some 64 f t l (sym (e t l) ∙ (first_bit 64 w).here l))

-- a block's set bits whose packet numbers pass
any_set_is : (w : ℕ) (f : ℕ → Bool) (b : Block) → w < 2 ^ 64 → Bits w (λ j. bit_at b.bitmap j && f (after b.base.0 j)) → not (eqb w 0) ≡ any_set f b
unfolding any_set
any_set_is w f b small e = any_bit w (λ j. bit_at b.bitmap j && f (after b.base.0 j)) small e

-- a block without a set bit has none that passes
pub none_set : (f : ℕ → Bool) (b : Block) → b.bitmap ≡ 0 → any_set f b ≡ false
unfolding any_set
none_set f b e =
    any_none 64 (λ j. bit_at b.bitmap j && f (after b.base.0 j))
    (λ j l. ap (λ (t : Bool). t && f (after b.base.0 j)) (ap (λ (w : ℕ). bit_at w j) e ∙ bit_none j))

-- ---- what lies at 0 or 1 from cack, or behind it, does not lie 2 or more ahead
not_ahead : (d : ℕ) → not (ahead 2 d) ≡ (leb d 1 || leb half d)
not_ahead d = go (leb half d) (dec_lt d 2)
  where
    go : (b : Bool) → Dec (d < 2) → not (leb 2 d && not b) ≡ (leb d 1 || b)
    go b (yes l) = rw (lt-leb 2 d l, le-leb d 1 (omega arith))
    go true (no l) = rw (le-leb 2 d (omega arith)) (sym (or-true (leb d 1)))
    go false (no l) = rw (le-leb 2 d (omega arith), lt-leb d 1 (omega arith))

-- o is the block's base from cack, and w has the set bits that do not lie so
pub contradicts_by_bit : (cack : ℕ) (b : Block) (o w : ℕ) → o ≡ distance cack b.base.0 → w < 2 ^ 64
    → Bits w (λ j. bit_at b.bitmap j && not (ahead 2 ((o + j) % turn))) → not (eqb w 0) ≡ contradicts cack b
unfolding contradicts at_odds
contradicts_by_bit cack b o w o_is small e =
    any_set_is w (at_odds cack) b small
    (λ j l. e j l ∙ ap (λ (t : Bool). bit_at b.bitmap j && t) (ap (λ (d : ℕ). not (ahead 2 d)) (at j) ∙ not_ahead (distance cack (after b.base.0 j))))
  where
    at : (j : ℕ) → (o + j) % turn ≡ distance cack (after b.base.0 j)
    at j = ap (λ (i : ℕ). (i + j) % turn) o_is ∙ distance_on cack b.base.0 j

-- ---- a record at this place, with n outstanding
module _ (x : Sender) (place n : ℕ) (h : Stands x place n) where
  pub index_is : (p : ℕ) → index x p ≡ distance (after place 1) p
  unfolding index
  index_is p = ap (λ (a : ℕ). distance (after a 1) p) h.place_is

  pub unsent_is : (p : ℕ) → unsent x p ≡ ahead n (distance (after place 1) p)
  unfolding unsent index
  unsent_is p = ap₂ (λ (m i : ℕ). ahead m i) h.outstanding_is (index_is p)

  pub is_sent : (p : ℕ) → distance (after place 1) p < n → unsent x p ≡ false
  is_sent p l = unsent_is p ∙ ap (λ (b : Bool). b && not (leb half (distance (after place 1) p))) (lt-leb n (distance (after place 1) p) l)

  pub is_past : (p : ℕ) → n ≤ distance (after place 1) p → unsent x p ≡ not (leb half (distance (after place 1) p))
  is_past p l = unsent_is p ∙ ap (λ (b : Bool). b && not (leb half (distance (after place 1) p))) (le-leb n (distance (after place 1) p) l)

  -- ---- a SACK, d being its cack's distance from the place
  module _ (cack : ℕ) (b : Block) (d : ℕ) (d_is : d ≡ distance place cack) where
    abbrev past_cack : Bool
    past_cack = ltb n d && not (leb half d)

    cack_is : unsent_cack x cack ≡ past_cack
    unfolding unsent_cack
    cack_is = ap₂ (λ (m e : ℕ). ltb m e && not (leb half e)) h.outstanding_is (ap (λ (a : ℕ). distance a cack) h.place_is ∙ sym d_is)

    -- cack itself is unsent
    pub unsent_by_cack : n < d → d < half → names_unsent x cack b ≡ true
    unfolding names_unsent
    unsent_by_cack k l = ap (λ (t : Bool). t || unsent_bit x b) (cack_is ∙ both)
      where
        both : past_cack ≡ true
        both = rw (lt-ltb n d k, lt-leb half d l)

    -- it is not: n outstanding reach to it, or it is behind
    module _ (near : n < d → d < half → ⊥) where
      cack_sent : unsent_cack x cack ≡ false
      cack_sent = cack_is ∙ not_past (dec_lt n d) (dec_lt d half)
        where
          not_past : Dec (n < d) → Dec (d < half) → past_cack ≡ false
          not_past (yes k) (yes l) = absurd (near k l)
          not_past (yes k) (no l) = rw (lt-ltb n d k, le-leb half d (omega arith))
          not_past (no k) l = rw (le-ltb n d (omega arith))

      -- no bit is set
      pub unsent_by_none : b.bitmap ≡ 0 → names_unsent x cack b ≡ false
      unfolding names_unsent unsent_bit
      unsent_by_none e = ap₂ (λ (s t : Bool). s || t) cack_sent (none_set (unsent x) b e)

      -- a bit is unsent or none is: o is the index of the block's base, and w has the set bits that are unsent
      pub unsent_by_bit : (o w : ℕ) → o ≡ distance (after place 1) b.base.0 → w < 2 ^ 64
          → Bits w (λ j. bit_at b.bitmap j && ahead n ((o + j) % turn)) → not (eqb w 0) ≡ names_unsent x cack b
      unfolding names_unsent unsent_bit
      unsent_by_bit o w o_is small e =
          any_set_is w (unsent x) b small
          (λ j l. e j l ∙ ap (λ (t : Bool). bit_at b.bitmap j && t) (ap (ahead n) (at j) ∙ sym (unsent_is (after b.base.0 j))))
          ∙ ap (λ (t : Bool). t || any_set (unsent x) b) (sym cack_sent)
        where
          at : (j : ℕ) → (o + j) % turn ≡ distance (after place 1) (after b.base.0 j)
          at j = ap (λ (i : ℕ). (i + j) % turn) o_is ∙ distance_on (after place 1) b.base.0 j
