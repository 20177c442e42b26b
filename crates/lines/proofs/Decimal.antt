-- The fewest digits that hold a number are those that dividing by ten gives, by induction on how many they are. Assumes nothing.
use mathlib.Core.Path.{◌≡◌, refl, ap, ap₂, subst, ◌∙◌}
use mathlib.Core.List.{List, [], ◌∷◌, ◌++◌}
use Prim.Native.Nat.{ℕ, zero, suc, ◌+◌, ◌-◌, ◌*◌, ◌/◌, ◌%◌, ◌^◌, ◌≤◌, ◌<◌}
use native.Mathlib.Omega.{arith}
use native.Mathlib.Nat.{pow-suc, one-le-pow, pow-le-pow_right, lt_of_not-le}
use borrow.Author.Tests.{lt-ltb, le-ltb}
use Rattle.io.specs.Digits.{last_digits, hex_digit_ascii, IsDigitCount}
use Rattle.lines.specs.Text.{digits_of}

glyph_is : (d : ℕ) → d < 10 → hex_digit_ascii d ≡ 48 + d
glyph_is d h = rw (lt-ltb d 10 h)

-- divided by ten, a number has one digit fewer
pub fewest_digits : (most k n : ℕ) → k ≤ most → IsDigitCount 10 1 n k → last_digits 10 k n ≡ digits_of most n
unfolding digits_of
fewest_digits zero zero n h f = refl
fewest_digits zero (suc k) n h f = absurd (omega arith)
fewest_digits (suc most) zero n h f = absurd (omega (arith, f.0))
fewest_digits (suc most) (suc zero) n h f =
    let small : n < 10 = omega (arith, f.1) in
    rw (lt-ltb n 10 small) (ap (λ (d : ℕ). d ∷ []) (ap hex_digit_ascii (let e : n % 10 ≡ n = omega arith in e) ∙ glyph_is n small))
fewest_digits (suc most) (suc (suc k)) n h f =
    let p : 10 ^ suc (suc k) ≡ 10 ^ suc k * 10 = pow-suc 10 (suc k) in
    let q : 10 ^ suc k ≡ 10 ^ k * 10 = pow-suc 10 k in
    let least : 10 ^ suc k ≤ n = subst (λ (m : ℕ). 10 ^ m ≤ n) (omega arith) (f.2 (omega arith)) in
    let positive : 1 ≤ 10 ^ k = one-le-pow k 10 (omega arith) in
    let same : k ≡ suc k - 1 = omega arith in
    let less : IsDigitCount 10 1 (n / 10) (suc k) = (omega arith, omega (arith, f.1), λ _. subst (λ (m : ℕ). 10 ^ m ≤ n / 10) same (omega arith)) in
    let front = fewest_digits most (suc k) (n / 10) (omega arith) less in
    let last = glyph_is (n % 10) (omega arith) in
    rw (le-ltb n 10 (omega arith)) (ap₂ (λ (l : List ℕ) (d : ℕ). l ++ (d ∷ [])) front last)

-- 64 bits hold no number of more than 20 digits
pub digits_fit : (k n : ℕ) → n < 2 ^ 64 → IsDigitCount 10 1 n k → k ≤ 20
digits_fit k n h f =
    let more : 21 ≤ k → ⊥ = λ l. omega (arith, f.2 (omega arith), pow-le-pow_right {n = 10} (omega arith) {i = 20} {j = k - 1} (omega arith)) in
    let below : k < 21 = lt_of_not-le more in
    omega arith
