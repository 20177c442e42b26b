-- Values joined into one number by their widths, and a number parted: each undoes the other, and each goes field by field.
-- Assumes nothing.
use mathlib.Core.Path.{◌≡◌, refl, sym, ap, ap₂, ◌∙◌}
use mathlib.Core.List.{List, [], ◌∷◌}
use Prim.Native.Nat.{ℕ, zero, suc, ◌+◌, ◌*◌, ◌/◌, ◌%◌, ◌^◌, ◌≤◌, ◌<◌}
use native.Mathlib.Nat.{zero-mod, mod-lt, mod-mod, mod-eq_of_lt, mul_assoc, lt_of_lt_of_le}
use native.Mathlib.Numerals.{add-one}
use native.Mathlib.Omega.{arith}
use lib.Arith.{digits_lt}
use lib.ListN.{length, get_or, take, drop}
use lib.Pow.{pow_pos, pow_mono, pow-add, high, mod-pow-add}
use Rattle.lists.specs.Lists.{sum}
use Rattle.fields.specs.Fields.{joined, parted, Fits}
use Rattle.fields.specs.Parts.{cut}
use Rattle.fields.proofs.Cuts.{cut_under}

-- ---- sums
pub sum_parts : (ws : List ℕ) (i : ℕ) → sum ws ≡ sum (take i ws) + sum (drop i ws)
unfolding sum
sum_parts ws zero = omega arith
sum_parts [] (suc i) = refl
sum_parts (w ∷ ws) (suc i) = omega (arith, sum_parts ws i)

pub sum_more : (ws : List ℕ) (i : ℕ) → i < length ws → sum (take (suc i) ws) ≡ sum (take i ws) + get_or ws i 0
unfolding sum
sum_more [] i h = absurd (omega arith)
sum_more (w ∷ ws) zero h = omega arith
sum_more (w ∷ ws) (suc i) h = omega (arith, sum_more ws i (omega arith))

-- the next field's place, with the index as code counts it
pub sum_next : (ws : List ℕ) (i : ℕ) → i < length ws → sum (take (i + 1) ws) ≡ sum (take i ws) + get_or ws i 0
sum_next ws i h = rw add-one (sum_more ws i h)

pub sum_within : (ws : List ℕ) (i : ℕ) → sum (take i ws) ≤ sum ws
sum_within ws i = omega (arith, sum_parts ws i)

-- ---- joined
pub joined_lt : (ws vs : List ℕ) → joined ws vs < 2 ^ sum ws
unfolding joined sum
joined_lt [] vs = omega arith
joined_lt (w ∷ ws) [] = lt_of_lt_of_le (joined_lt ws []) (pow_mono (omega arith))
joined_lt (w ∷ ws) (v ∷ vs) = rw (pow-add 2 w (sum ws)) (digits_lt (mod-lt v (pow_pos w)) (joined_lt ws vs))

-- one field more
pub joined_more : (ws vs : List ℕ) (i : ℕ) → i < length ws
    → joined (take (suc i) ws) vs ≡ joined (take i ws) vs * 2 ^ get_or ws i 0 + get_or vs i 0 % 2 ^ get_or ws i 0
unfolding joined sum
joined_more [] vs i h = absurd (omega arith)
joined_more (w ∷ ws) [] zero h = omega (arith, zero-mod (2 ^ w))
joined_more (w ∷ ws) (v ∷ vs) zero h = omega arith
joined_more (w ∷ ws) [] (suc i) h = joined_more ws [] i (omega arith)
joined_more (w ∷ ws) (v ∷ vs) (suc i) h =
    let m = v % 2 ^ w in
    let p : 2 ^ sum (take (suc i) ws) ≡ 2 ^ sum (take i ws) * 2 ^ get_or ws i 0 =
    ap (λ (n : ℕ). 2 ^ n) (sum_more ws i (omega arith)) ∙ pow-add 2 (sum (take i ws)) (get_or ws i 0) in
    omega (arith, ap (λ (n : ℕ). m * n) p, joined_more ws vs i (omega arith))

-- ---- parted
pub length_parted : (ws : List ℕ) (n : ℕ) → length (parted ws n) ≡ length ws
unfolding parted
length_parted [] n = refl
length_parted (w ∷ ws) n = ap suc (length_parted ws n)

pub parted_at : (ws : List ℕ) (n i : ℕ) → i < length ws → get_or (parted ws n) i 0 ≡ cut (sum (drop (suc i) ws)) (get_or ws i 0) n
unfolding parted cut
parted_at [] n i h = absurd (omega arith)
parted_at (w ∷ ws) n zero h = refl
parted_at (w ∷ ws) n (suc i) h = parted_at ws n i (omega arith)

pub parted_fits : (ws : List ℕ) (n : ℕ) → Fits ws (parted ws n)
unfolding parted Fits
parted_fits [] n = refl
parted_fits (w ∷ ws) n = (mod-lt (n / 2 ^ sum ws) (pow_pos w), parted_fits ws n)

-- what stands above the fields does not matter
pub parted_low : (ws : List ℕ) (h n : ℕ) → parted ws (h * 2 ^ sum ws + n) ≡ parted ws n
unfolding parted sum cut
parted_low [] h n = refl
parted_low (w ∷ ws) h n =
    let s = sum ws in
    let e : h * 2 ^ (w + s) ≡ h * 2 ^ w * 2 ^ s = ap (λ (x : ℕ). h * x) (pow-add 2 w s) ∙ sym (mul_assoc h (2 ^ w) (2 ^ s)) in
    ap₂ (λ (x : ℕ) (l : List ℕ). x ∷ l) (cut_under s w (w + s) h n (omega arith))
    (ap (λ (x : ℕ). parted ws (x + n)) e ∙ parted_low ws (h * 2 ^ w) n)

-- ---- the one undoes the other
pub parted_joined : (ws vs : List ℕ) → Fits ws vs → parted ws (joined ws vs) ≡ vs
unfolding parted joined Fits
parted_joined [] vs f = sym f
parted_joined (w ∷ ws) [] f = absurd f
parted_joined (w ∷ ws) (v ∷ vs) f =
    let first : (v % 2 ^ w * 2 ^ sum ws + joined ws vs) / 2 ^ sum ws % 2 ^ w ≡ v =
    ap (λ (x : ℕ). x % 2 ^ w) (high (v % 2 ^ w) (sum ws) (joined_lt ws vs)) ∙ mod-mod v (2 ^ w) ∙ mod-eq_of_lt f.0 in
    ap₂ (λ (x : ℕ) (l : List ℕ). x ∷ l) first (parted_low ws (v % 2 ^ w) (joined ws vs) ∙ parted_joined ws vs f.1)

pub joined_parted : (ws : List ℕ) (n : ℕ) → joined ws (parted ws n) ≡ n % 2 ^ sum ws
unfolding parted joined sum
joined_parted [] n = omega arith
joined_parted (w ∷ ws) n =
    ap₂ (λ (x y : ℕ). x * 2 ^ sum ws + y) (mod-mod (n / 2 ^ sum ws) (2 ^ w)) (joined_parted ws n) ∙ sym (mod-pow-add n w (sum ws))
