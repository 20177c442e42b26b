-- What the operations do to each bit of a number: each law halves the number, or moves the digit that is asked for to the lowest place. Assumes nothing.
use mathlib.Core.Path.{◌≡◌, refl, sym, ap, ap₂, ◌∙◌}
use mathlib.Core.Bool.{Bool, true, false, not, cond, ◌&&◌, ◌||◌, or-false}
use Prim.Native.Nat.{ℕ, zero, suc, ◌+◌, ◌-◌, ◌*◌, ◌/◌, ◌%◌, ◌^◌, ◌≤◌, ◌<◌, min, max}
use native.Mathlib.Omega.{arith}
use native.Mathlib.Nat.{pow-suc, one-mul, mod-eq_of_lt}
use native.Mathlib.Decide.{ℕ_discrete, dec_lt}
use lib.Dec.{ltb, eqb, eqb-suc-suc}
use lib.Pow.{pow_pos, pow-lt, shr-shr, shl-shr, field, mod-mod-pow}
use lib.Bits.{bit_and, bit_or, shifted_half, shifted_even}
use lib.Count.{ones, ones_in, ones_step, count_trailing_zeros, under}
use borrow.Author.Tests.{eq-eqb, ne_eqb, lt-ltb, le-ltb}
use Rattle.std.specs.Int.{w64}
use Rattle.std.proofs.lemmas.Nat.Bits.{bit_at-suc, bit_at-zero, bit_at_and as digit_and, bit_at_or as digit_or, bit_at-lt, bit_at_above, bit_at_ones, bit_at_ones_above, bit_at-pow_same, bit_at-pow_other, bit_at_not}
use Rattle.lists.specs.Index.{total, tally, First}
use Rattle.word.specs.Word.{bit_at, Bits}
use Rattle.lists.proofs.Index.{total_first, weigh_same}

-- a digit is 0 or 1
two : (P : ℕ → Type 0) → P 0 → P 1 → (d : ℕ) → d < 2 → P d
two P a b zero h = a
two P a b (suc zero) h = b
two P a b (suc (suc d)) h = absurd (omega arith)

-- ---- one bit, by halves
-- as a test of the library's digit
pub bit_suc : (n i : ℕ) → bit_at n (suc i) ≡ bit_at (n / 2) i
unfolding bit_at
bit_suc n i = ap (λ (d : ℕ). eqb d 1) (bit_at-suc n i)

pub bit_none : (i : ℕ) → bit_at 0 i ≡ false
unfolding bit_at
bit_none i = ap (λ (d : ℕ). eqb d 1) (bit_at-zero i)

-- the lowest bit, by the remainder
pub bit_even : (w : ℕ) → w % 2 ≡ 0 → bit_at w 0 ≡ false
unfolding bit_at
bit_even w e = ne_eqb (w / 2 ^ 0 % 2) 1 (omega arith)

pub bit_odd : (w : ℕ) → w % 2 ≡ 1 → bit_at w 0 ≡ true
unfolding bit_at
bit_odd w e = eq-eqb (w / 2 ^ 0 % 2) 1 (omega arith)

-- the lowest bit as a number
pub bit_zero : (w : ℕ) → cond (bit_at w 0) 1 0 ≡ w % 2
bit_zero w = two (λ d. w % 2 ≡ d → cond (bit_at w 0) 1 0 ≡ d) (λ e. rw (bit_even w e)) (λ e. rw (bit_odd w e)) (w % 2) (omega arith) refl

odd : (w : ℕ) → bit_at w 0 ≡ true → w % 2 ≡ 1
odd w e = sym (bit_zero w) ∙ ap (λ (b : Bool). cond b 1 0) e

even : (w : ℕ) → bit_at w 0 ≡ false → w % 2 ≡ 0
even w e = sym (bit_zero w) ∙ ap (λ (b : Bool). cond b 1 0) e

-- two numbers with the same bits are one
pub same_bits : (n v w : ℕ) → v < 2 ^ n → w < 2 ^ n → ((i : ℕ) → i < n → bit_at v i ≡ bit_at w i) → v ≡ w
same_bits zero v w p q h = omega arith
same_bits (suc n) v w p q h =
    let s = pow-suc 2 n in
    let last : v % 2 ≡ w % 2 = sym (bit_zero v) ∙ ap (λ (b : Bool). cond b 1 0) (h 0 (omega arith)) ∙ bit_zero w in
    let rest : v / 2 ≡ w / 2 = same_bits n (v / 2) (w / 2) (omega arith) (omega arith) (λ i l. sym (bit_suc v i) ∙ h (suc i) (omega arith) ∙ bit_suc w i) in
    omega arith

pub bits_one : (v w : ℕ) (f : ℕ → Bool) → v < 2 ^ 64 → w < 2 ^ 64 → Bits v f → Bits w f → v ≡ w
bits_one v w f p q a b = same_bits 64 v w p q (λ i l. a i l ∙ sym (b i l))

-- no bit past the end
pub bit_past : (n w i : ℕ) → w < 2 ^ n → n ≤ i → bit_at w i ≡ false
unfolding bit_at
bit_past n w i p q = ap (λ (d : ℕ). eqb d 1) (bit_at_above w n i p q)

-- ---- words that are given by their bits
-- the bits below k
pub bit_low : (k i : ℕ) → bit_at (2 ^ k - 1) i ≡ ltb i k
unfolding bit_at
bit_low k i = elim (dec_lt i k) [
  | yes l ↦ ap (λ (d : ℕ). eqb d 1) (bit_at_ones k i l) ∙ sym (lt-ltb i k l)
  | no l ↦ ap (λ (d : ℕ). eqb d 1) (bit_at_ones_above k i (omega arith)) ∙ sym (le-ltb i k (omega arith))
]

-- bit d alone
pub bit_one : (d i : ℕ) → bit_at (2 ^ d) i ≡ eqb i d
unfolding bit_at
bit_one d i = elim (ℕ_discrete i d) [
  | yes e ↦ ap (λ (j : ℕ). eqb (2 ^ d / 2 ^ j % 2) 1) e ∙ ap (λ (b : ℕ). eqb b 1) (bit_at-pow_same d) ∙ sym (eq-eqb i d e)
  | no n ↦ ap (λ (b : ℕ). eqb b 1) (bit_at-pow_other d i n) ∙ sym (ne_eqb i d n)
]

-- 1, shifted within a word of n bits
pub shl_one : (n i : ℕ) → i < n → (1 * 2 ^ i) % 2 ^ n ≡ 2 ^ i
shl_one n i h = ap (λ (x : ℕ). x % 2 ^ n) (one-mul (2 ^ i)) ∙ mod-eq_of_lt (pow-lt h)

-- ---- and, or, not
-- on two digits
both : (P : ℕ → ℕ → Type 0) → P 0 0 → P 0 1 → P 1 0 → P 1 1 → (a b : ℕ) → a < 2 → b < 2 → P a b
both P p00 p01 p10 p11 a b l m = two (λ a. (b : ℕ) → b < 2 → P a b) (two (P 0) p00 p01) (two (P 1) p10 p11) a l b m

pub bit_at_and : (v w i : ℕ) → bit_at (bit_and v w) i ≡ (bit_at v i && bit_at w i)
unfolding bit_at
bit_at_and v w i =
    ap (λ (d : ℕ). eqb d 1) (digit_and v w i)
    ∙ both (λ a b. eqb (min a b) 1 ≡ (eqb a 1 && eqb b 1)) refl refl refl refl _ _ (bit_at-lt v i) (bit_at-lt w i)

pub bit_at_or : (v w i : ℕ) → bit_at (bit_or v w) i ≡ (bit_at v i || bit_at w i)
unfolding bit_at
bit_at_or v w i =
    ap (λ (d : ℕ). eqb d 1) (digit_or v w i)
    ∙ both (λ a b. eqb (max a b) 1 ≡ (eqb a 1 || eqb b 1)) refl refl refl refl _ _ (bit_at-lt v i) (bit_at-lt w i)

-- a word, flipped
pub bit_not : (w i : ℕ) → w < 2 ^ 64 → i < 64 → bit_at ((2 ^ 64 - 1) - w) i ≡ not (bit_at w i)
unfolding bit_at
bit_not w i h l =
    ap (λ (d : ℕ). eqb d 1) (bit_at_not w64 w i h l) ∙ two (λ d. eqb (1 - d) 1 ≡ not (eqb d 1)) refl refl _ (bit_at-lt w i)

pub bit_and_not : (v w i : ℕ) → w < 2 ^ 64 → i < 64 → bit_at (bit_and v ((2 ^ 64 - 1) - w)) i ≡ (bit_at v i && not (bit_at w i))
bit_and_not v w i h l = bit_at_and v ((2 ^ 64 - 1) - w) i ∙ ap (λ (b : Bool). bit_at v i && b) (bit_not w i h l)

-- ---- shifts
pub bit_shr : (w k i : ℕ) → bit_at (w / 2 ^ k) i ≡ bit_at w (k + i)
unfolding bit_at
bit_shr w k i = ap (λ (x : ℕ). eqb (x % 2) 1) (shr-shr w k i)

pub bit_mod : (n w i : ℕ) → i < n → bit_at (w % 2 ^ n) i ≡ bit_at w i
unfolding bit_at
bit_mod n w i h =
    let j : ℕ = n - suc i in
    let n_is : n ≡ (j + 1) + i = omega arith in
    ap (λ (x : ℕ). eqb (x % 2) 1) (ap (λ (m : ℕ). w % 2 ^ m / 2 ^ i) n_is ∙ field w (j + 1) i) ∙ ap (λ (x : ℕ). eqb x 1) (mod-mod-pow (w / 2 ^ i) j 1)

pub bit_shl_low : (w k i : ℕ) → i < k → bit_at (w * 2 ^ k) i ≡ false
bit_shl_low w zero i h = absurd (omega arith)
bit_shl_low w (suc k) zero h = bit_even (w * 2 ^ suc k) (shifted_even w k)
bit_shl_low w (suc k) (suc i) h = bit_suc (w * 2 ^ suc k) i ∙ ap (λ (x : ℕ). bit_at x i) (shifted_half w k) ∙ bit_shl_low w k i (omega arith)

pub bit_shl_high : (w k i : ℕ) → bit_at (w * 2 ^ k) (k + i) ≡ bit_at w i
unfolding bit_at
bit_shl_high w k i = ap (λ (x : ℕ). eqb (x % 2) 1) (sym (shr-shr (w * 2 ^ k) k i) ∙ ap (λ (x : ℕ). x / 2 ^ i) (shl-shr w k))

-- n bits out of two words of n bits, from bit s of the first on
pub funnel : (n a b s i : ℕ) → a < 2 ^ n → s ≤ n → i < n
    → bit_at (bit_or (a / 2 ^ s) (b * 2 ^ (n - s) % 2 ^ n)) i ≡ cond (ltb (s + i) n) (bit_at a (s + i)) (bit_at b (s + i - n))
funnel n a b s i small q h =
    bit_at_or (a / 2 ^ s) (b * 2 ^ (n - s) % 2 ^ n) i ∙ ap₂ (λ (x y : Bool). x || y) (bit_shr a s i) (bit_mod n (b * 2 ^ (n - s)) i h)
    ∙ pick (dec_lt (s + i) n)
  where
    pick : Dec (s + i < n) → (bit_at a (s + i) || bit_at (b * 2 ^ (n - s)) i) ≡ cond (ltb (s + i) n) (bit_at a (s + i)) (bit_at b (s + i - n))
    pick (yes y) = rw (lt-ltb (s + i) n y, bit_shl_low b (n - s) i (omega arith)) (or-false (bit_at a (s + i)))
    pick (no y) =
        let i_is : i ≡ (n - s) + (s + i - n) = omega arith in
        rw (le-ltb (s + i) n (omega arith), bit_past n a (s + i) small (omega arith)) (ap (bit_at (b * 2 ^ (n - s))) i_is ∙ bit_shl_high b (n - s) (s + i - n))

-- ---- counts
first_odd : (n w : ℕ) → w % 2 ≡ 1 → First (bit_at w) (suc n) 0
first_odd n w e = record { within = omega arith; none = λ i h. absurd (omega arith); here = λ h. bit_odd w e }

first_even : (n w t : ℕ) → w % 2 ≡ 0 → First (bit_at (w / 2)) n t → First (bit_at w) (suc n) (suc t)
first_even n w t e rest = record { within = omega (arith, rest.within); none = below; here = λ h. bit_suc w t ∙ rest.here (omega arith) }
  where
    below : (i : ℕ) → i < suc t → bit_at w i ≡ false
    below zero h = bit_even w e
    below (suc i) h = bit_suc w i ∙ rest.none i (omega arith)

-- the machine's count of the zeros below the lowest set bit
pub first_bit : (n w : ℕ) → First (bit_at w) n (count_trailing_zeros n w)
unfolding count_trailing_zeros
first_bit zero w = record { within = omega arith; none = λ i h. absurd (omega arith); here = λ h. absurd (omega arith) }
first_bit (suc n) w =
    let t = count_trailing_zeros n (w / 2) in
    two (λ d. w % 2 ≡ d → First (bit_at w) (suc n) (under d t)) (λ e. first_even n w t e (first_bit n (w / 2))) (first_odd n w) (w % 2) (omega arith) refl

-- a word that is not 0 has a set bit
pub some_bit : (w t : ℕ) → w < 2 ^ 64 → (w ≡ 0 → ⊥) → First (bit_at w) 64 t → t < 64
some_bit w t small n f = go (dec_lt t 64)
  where
    go : Dec (t < 64) → t < 64
    go (yes h) = h
    go (no h) = absurd (n (same_bits 64 w 0 small (pow_pos 64) (λ i l. f.none i (omega arith) ∙ sym (bit_none i))))

-- a number and the number less 1: of the bits that are set in both, the lowest set bit t is none, and all others are
pub bit_less : (t w i : ℕ) → bit_at w t ≡ true → ((k : ℕ) → k < t → bit_at w k ≡ false)
    → (bit_at w i && bit_at (w - 1) i) ≡ (bit_at w i && not (eqb i t))
bit_less zero w zero here below = ap (λ (b : Bool). bit_at w 0 && b) (bit_even (w - 1) (omega (arith, odd w here)) ∙ sym (ap not (eq-eqb 0 0 refl)))
bit_less zero w (suc i) here below =
    let half : (w - 1) / 2 ≡ w / 2 = omega (arith, odd w here) in
    ap (λ (b : Bool). bit_at w (suc i) && b) (bit_suc (w - 1) i ∙ ap (λ (v : ℕ). bit_at v i) half ∙ sym (bit_suc w i))
    ∙ both (bit_at w (suc i)) ∙ ap (λ (b : Bool). bit_at w (suc i) && not b) (sym (ne_eqb (suc i) 0 (λ e. omega arith)))
  where
    both : (b : Bool) → (b && b) ≡ (b && true)
    both true = refl
    both false = refl
bit_less (suc t) w zero here below = rw (below 0 (omega arith))
bit_less (suc t) w (suc i) here below =
    let half : (w - 1) / 2 ≡ w / 2 - 1 = omega (arith, even w (below 0 (omega arith))) in
    ap₂ (λ (a b : Bool). a && b) (bit_suc w i) (bit_suc (w - 1) i ∙ ap (λ (v : ℕ). bit_at v i) half)
    ∙ bit_less t (w / 2) i (sym (bit_suc w t) ∙ here) (λ k l. sym (bit_suc w k) ∙ below (suc k) (omega arith))
    ∙ ap₂ (λ (a b : Bool). a && not b) (sym (bit_suc w i)) (sym (eqb-suc-suc i t))

-- the machine's count of the ones
pub ones_total : (n w : ℕ) → w < 2 ^ n → ones w ≡ tally n (bit_at w)
unfolding total ones ones_in
ones_total zero w h = let z : w ≡ 0 = omega arith in ap ones z
ones_total (suc n) w h =
    ones_step w
    ∙ ap₂ (λ (x y : ℕ). x + y) (sym (bit_zero w)) (ones_total n (w / 2) (omega arith) ∙ weigh_same n _ _ _ (λ i p. sym (bit_suc w i)))
    ∙ sym (total_first n (λ i. cond (bit_at w i) 1 0))
