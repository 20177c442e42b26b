-- A block over a row's words: it lies in two of them, and past the circle's end the second is the row's first. Assumes nothing.
use mathlib.Core.Path.{◌≡◌, refl, sym, ap, ap₂, ◌∙◌}
use mathlib.Core.Bool.{Bool, false, ◌&&◌, ◌||◌, and-false, or-false}
use Prim.Native.Nat.{ℕ, suc, ◌+◌, ◌-◌, ◌*◌, ◌/◌, ◌%◌, ◌^◌, ◌≤◌, ◌<◌}
use native.Mathlib.Omega.{arith}
use native.Mathlib.Decide.{ℕ_discrete, dec_lt}
use lib.Dec.{eqb, ltb}
use borrow.Author.Tests.{eq-eqb, lt-ltb, le-ltb}
use Rattle.psn.specs.Psn.{turn, after, distance}
use Rattle.psn.proofs.Circle.{distance_lt, distance_on, distance_back}
use Rattle.word.specs.Word.{bit_at}
use Rattle.word.proofs.Bits.{bit_none, bit_suc, bit_past, bit_shr, bit_mod, bit_shl_low, bit_shl_high}
use Rattle.rules.specs.Retire.{has_bit}
use Rattle.rules.specs.declared.Block.{Block}
use Rattle.retire.specs.Rows.{in_word, named_by_block}
use Rattle.retire.proofs.Words.{in_word_else}

-- ---- numbers: a block begins o after the row's first, which lies x after it, and bit p lies d after the block's first
module _ (o x p d : ℕ) (d_is : d ≡ (x + p) % turn) where
  ahead : o < turn → x < turn → (o + x) % turn ≡ 0 → p < turn → o ≤ p → d ≡ p - o
  ahead a b c l h = omega arith

  behind : o < turn → x < turn → (o + x) % turn ≡ 0 → p < o → d ≡ turn + p - o
  behind a b c h = omega arith

-- where o and p are, d is
module _ (o p d : ℕ) (at_or_after : o ≤ p → d ≡ p - o) (before : p < o → d ≡ turn + p - o) where
  same_word : p / 64 ≡ o / 64 → o % 64 ≤ p % 64 → d ≡ p % 64 - o % 64
  same_word e h = at_or_after (omega arith) ∙ omega arith

  same_word_behind : o < turn → p / 64 ≡ o / 64 → p % 64 < o % 64 → 64 ≤ d
  same_word_behind l e h = omega (arith, before (omega arith))

  next_word : o < turn → p / 64 ≡ (o / 64 + 1) % (turn / 64) → d ≡ suc (63 - o % 64 + p % 64)
  next_word l e = go (dec_lt p o)
    where
      go : Dec (p < o) → d ≡ suc (63 - o % 64 + p % 64)
      go (yes h) = before h ∙ omega arith
      go (no h) = at_or_after (omega arith) ∙ omega arith

  other_word : o < turn → p < turn → (p / 64 ≡ o / 64 → ⊥) → (p / 64 ≡ (o / 64 + 1) % (turn / 64) → ⊥) → 64 ≤ d
  other_word l k m n = go (dec_lt p o)
    where
      go : Dec (p < o) → 64 ≤ d
      go (yes h) = let e = before h in omega (arith, e, m, n)
      go (no h) = let e = at_or_after (omega arith) in omega (arith, e, m, n)

-- without a set bit it names nothing
pub no_bits : (first : ℕ) (b : Block) (p : ℕ) → b.bitmap ≡ 0 → named_by_block first b p ≡ false
unfolding has_bit
no_bits first b p e =
    let d = distance b.base.0 (after first p) in
    ap (λ (w : ℕ). ltb d 64 && bit_at w d) e ∙ ap (λ (t : Bool). ltb d 64 && t) (bit_none d) ∙ and-false (ltb d 64)

-- it begins o after the row's first packet number
module _ (first : ℕ) (b : Block) (o : ℕ) (o_is : o ≡ distance first b.base.0) where
  -- its two words, and the bits that it has in each
  abbrev pub low_word : ℕ
  low_word = o / 64

  abbrev pub high_word : ℕ
  high_word = (o / 64 + 1) % (turn / 64)

  abbrev pub low_bits : ℕ
  low_bits = b.bitmap * 2 ^ (o % 64) % 2 ^ 64

  abbrev pub high_bits : ℕ
  high_bits = b.bitmap / 2 / 2 ^ (63 - o % 64)

  -- the row's first packet number from the block's, and bit p
  abbrev x : ℕ
  x = distance b.base.0 first

  abbrev d : ℕ → ℕ
  d p = (x + p) % turn

  o_low : o < turn
  o_low = omega (arith, o_is, distance_lt first b.base.0)

  x_low : x < turn
  x_low = distance_lt b.base.0 first

  back : (o + x) % turn ≡ 0
  back = ap (λ (n : ℕ). (n + x) % turn) o_is ∙ distance_back first b.base.0

  module _ (small : b.bitmap < 2 ^ 64) (p : ℕ) (l : p < turn) where
    on : o ≤ p → d p ≡ p - o
    on = ahead o x p (d p) refl o_low x_low back l

    off : p < o → d p ≡ turn + p - o
    off = behind o x p (d p) refl o_low x_low back

    names_at : named_by_block first b p ≡ (ltb (d p) 64 && bit_at b.bitmap (d p))
    unfolding has_bit
    names_at = ap (λ (n : ℕ). ltb n 64 && bit_at b.bitmap n) (sym (distance_on b.base.0 first p))

    -- bit p stands in the word
    at_bit : (j w : ℕ) → p / 64 ≡ j → in_word j w p ≡ bit_at w (p % 64)
    at_bit j w e = ap (λ (t : Bool). t && bit_at w (p % 64)) (eq-eqb (p / 64) j e)

    in_low : p / 64 ≡ low_word → (ltb (d p) 64 && bit_at b.bitmap (d p)) ≡ bit_at low_bits (p % 64)
    in_low e = go (dec_lt (p % 64) (o % 64)) ∙ sym (bit_mod 64 (b.bitmap * 2 ^ (o % 64)) (p % 64) (omega arith))
      where
        go : Dec (p % 64 < o % 64) → (ltb (d p) 64 && bit_at b.bitmap (d p)) ≡ bit_at (b.bitmap * 2 ^ (o % 64)) (p % 64)
        go (yes k) =
            let far = same_word_behind o p (d p) on off o_low e k in
            rw (le-ltb (d p) 64 far) (sym (bit_shl_low b.bitmap (o % 64) (p % 64) k))
        go (no k) =
            let r = p % 64 - o % 64 in
            let d_is : d p ≡ r = same_word o p (d p) on off e (omega arith) in
            let i_is : p % 64 ≡ o % 64 + r = omega arith in
            rw (d_is, lt-ltb r 64 (omega arith)) (sym (ap (bit_at (b.bitmap * 2 ^ (o % 64))) i_is ∙ bit_shl_high b.bitmap (o % 64) r))

    in_high : p / 64 ≡ high_word → (ltb (d p) 64 && bit_at b.bitmap (d p)) ≡ bit_at high_bits (p % 64)
    in_high e = ap (λ (n : ℕ). ltb n 64 && bit_at b.bitmap n) d_is ∙ go (dec_lt (suc n) 64) ∙ sym shifted
      where
        n : ℕ
        n = 63 - o % 64 + p % 64

        d_is : d p ≡ suc n
        d_is = next_word o p (d p) on off o_low e

        shifted : bit_at high_bits (p % 64) ≡ bit_at b.bitmap (suc n)
        shifted = bit_shr (b.bitmap / 2) (63 - o % 64) (p % 64) ∙ sym (bit_suc b.bitmap n)

        go : Dec (suc n < 64) → (ltb (suc n) 64 && bit_at b.bitmap (suc n)) ≡ bit_at b.bitmap (suc n)
        go (yes k) = rw (lt-ltb (suc n) 64 k)
        go (no k) = rw (le-ltb (suc n) 64 (omega arith)) (sym (bit_past 64 b.bitmap (suc n) small (omega arith)))

    pub two_words : named_by_block first b p ≡ (in_word low_word low_bits p || in_word high_word high_bits p)
    two_words = names_at ∙ go (ℕ_discrete (p / 64) low_word) (ℕ_discrete (p / 64) high_word)
      where
        go : Dec (p / 64 ≡ low_word) → Dec (p / 64 ≡ high_word)
            → (ltb (d p) 64 && bit_at b.bitmap (d p)) ≡ (in_word low_word low_bits p || in_word high_word high_bits p)
        go (yes e) h =
            in_low e
            ∙ sym (ap₂ (λ (s t : Bool). s || t) (at_bit low_word low_bits e) (in_word_else high_word high_bits p (λ q. omega (arith, o_low)))
            ∙ or-false (bit_at low_bits (p % 64)))
        go (no n) (yes e) =
            in_high e ∙ sym (ap₂ (λ (s t : Bool). s || t) (in_word_else low_word low_bits p n) (at_bit high_word high_bits e))
        go (no n) (no m) =
            let far = other_word o p (d p) on off o_low l n m in
            rw (le-ltb (d p) 64 far)
            (sym (ap₂ (λ (s t : Bool). s || t) (in_word_else low_word low_bits p n) (in_word_else high_word high_bits p m)))

    -- and where the second has none, in one
    pub one_word : high_bits ≡ 0 → named_by_block first b p ≡ in_word low_word low_bits p
    one_word e =
        two_words
        ∙ ap (λ (t : Bool). in_word low_word low_bits p || t)
        (ap (λ (t : Bool). eqb (p / 64) high_word && t) (ap (λ (w : ℕ). bit_at w (p % 64)) e ∙ bit_none (p % 64)) ∙ and-false (eqb (p / 64) high_word))
        ∙ or-false (in_word low_word low_bits p)
