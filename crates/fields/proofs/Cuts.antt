-- Bits taken out of a number and put into one: two neighbours are put as one. Assumes nothing.
use mathlib.Core.Path.{◌≡◌, sym, ap, ap₂, ◌∙◌}
use Prim.Native.Nat.{ℕ, ◌+◌, ◌-◌, ◌*◌, ◌/◌, ◌%◌, ◌^◌, ◌≤◌, ◌<◌}
use native.Mathlib.Nat.{add-zero, add_comm, mod-one, mod-lt, mod-eq_of_lt, div-eq_of_lt, mul_assoc, mul-add-div_right, mul-add-mod_self_right}
use native.Mathlib.Omega.{arith}
use lib.Arith.{digits_lt}
use lib.Pow.{pow_pos, pow-add, shr-shr, shr_lt, split, high, low, mod-pow-add, mod-mod-pow}
use Rattle.fields.specs.Parts.{cut, placed}

-- a power of two in three parts
parts : (t w r : ℕ) → t + w ≤ r → 2 ^ r ≡ 2 ^ (r - (t + w)) * 2 ^ w * 2 ^ t
parts t w r l =
    let e : r ≡ (r - (t + w)) + w + t = omega arith in
    ap (λ (x : ℕ). 2 ^ x) e ∙ pow-add 2 ((r - (t + w)) + w) t ∙ ap (λ (x : ℕ). x * 2 ^ t) (pow-add 2 (r - (t + w)) w)

-- a number above bit r, seen from a lower bit
above : (t w r h : ℕ) → t + w ≤ r → h * 2 ^ r ≡ h * 2 ^ (r - (t + w)) * 2 ^ w * 2 ^ t
above t w r h l = ap (λ (x : ℕ). h * x) (parts t w r l) ∙ omega arith

-- ---- taking
-- of what stands above the lowest bits
pub cut_above : (s t w n : ℕ) → cut t w (n / 2 ^ s) ≡ cut (s + t) w n
unfolding cut
cut_above s t w n = ap (λ (x : ℕ). x % 2 ^ w) (shr-shr n s t)

-- what stands above the bits does not matter
pub cut_under : (t w r h n : ℕ) → t + w ≤ r → cut t w (h * 2 ^ r + n) ≡ cut t w n
unfolding cut
cut_under t w r h n l =
    ap (λ (x : ℕ). (x + n) / 2 ^ t % 2 ^ w) (above t w r h l) ∙ ap (λ (x : ℕ). x % 2 ^ w) (mul-add-div_right (pow_pos t) (h * 2 ^ (r - (t + w)) * 2 ^ w) n)
    ∙ mul-add-mod_self_right (h * 2 ^ (r - (t + w))) (2 ^ w) (n / 2 ^ t)

-- ---- putting
pub placed_none : (t v n : ℕ) → placed t 0 v n ≡ n
unfolding placed
placed_none t v n = rw (add-zero, mod-one) (omega (arith, split n t))

pub placed_lt : (t w r v n : ℕ) → t + w ≤ r → n < 2 ^ r → placed t w v n < 2 ^ r
unfolding placed
placed_lt t w r v n l h =
    let e : (r - (t + w)) + (t + w) ≡ r = omega arith in
    let q_lt : n / 2 ^ (t + w) < 2 ^ (r - (t + w)) = shr_lt (r - (t + w)) (t + w) (rw e h) in
    rw (parts t w r l) (digits_lt (digits_lt q_lt (mod-lt v (pow_pos w))) (mod-lt n (pow_pos t)))

-- at the top of a number
pub placed_top : (t w v n : ℕ) → n < 2 ^ (t + w) → v < 2 ^ w → placed t w v n ≡ v * 2 ^ t + n % 2 ^ t
unfolding placed
placed_top t w v n p q = ap₂ (λ (x y : ℕ). (x * 2 ^ w + y) * 2 ^ t + n % 2 ^ t) (div-eq_of_lt p) (mod-eq_of_lt q) ∙ omega arith

pub placed_more : (t a b x y n : ℕ) → placed t b y (placed (t + b) a x n) ≡ placed t (a + b) (x * 2 ^ b + y % 2 ^ b) n
unfolding placed
placed_more t a b x y n =
    let h : ℕ = n / 2 ^ (t + b + a) * 2 ^ a + x % 2 ^ a in
    let r : ℕ = n % 2 ^ (t + b) in
    let z : ℕ = x * 2 ^ b + y % 2 ^ b in
    let y_lt : y % 2 ^ b < 2 ^ b = mod-lt y (pow_pos b) in
    let top : (h * 2 ^ (t + b) + r) / 2 ^ (t + b) ≡ h = high h (t + b) (mod-lt n (pow_pos (t + b))) in
    let bottom : (h * 2 ^ (t + b) + r) % 2 ^ t ≡ n % 2 ^ t =
    ap₂ (λ (u v : ℕ). (h * u + n % 2 ^ v) % 2 ^ t) (ap (λ (k : ℕ). 2 ^ k) (add_comm t b)) (add_comm t b)
    ∙ ap (λ (u : ℕ). (u + n % 2 ^ (b + t)) % 2 ^ t) (ap (λ (u : ℕ). h * u) (pow-add 2 b t) ∙ sym (mul_assoc h (2 ^ b) (2 ^ t)))
    ∙ mul-add-mod_self_right (h * 2 ^ b) (2 ^ t) (n % 2 ^ (b + t)) ∙ mod-mod-pow n b t in
    let new : z % 2 ^ (a + b) ≡ x % 2 ^ a * 2 ^ b + y % 2 ^ b =
    mod-pow-add z a b ∙ ap₂ (λ (u v : ℕ). u % 2 ^ a * 2 ^ b + v) (high x b y_lt) (low x b y_lt) in
    let old : n / 2 ^ (t + (a + b)) * 2 ^ (a + b) ≡ n / 2 ^ (t + b + a) * (2 ^ a * 2 ^ b) =
    ap₂ (λ (u v : ℕ). n / 2 ^ u * v) (omega arith) (pow-add 2 a b) in
    let both : h * 2 ^ b + y % 2 ^ b ≡ n / 2 ^ (t + (a + b)) * 2 ^ (a + b) + z % 2 ^ (a + b) = omega (arith, new, old) in
    ap₂ (λ (u v : ℕ). (u * 2 ^ b + y % 2 ^ b) * 2 ^ t + v) top bottom ∙ ap (λ (u : ℕ). u * 2 ^ t + n % 2 ^ t) both

-- in what stands above the lowest bits
pub placed_above : (s t w v n : ℕ) → placed (s + t) w v n ≡ placed t w v (n / 2 ^ s) * 2 ^ s + n % 2 ^ s
unfolding placed
placed_above s t w v n =
    let old : n / 2 ^ s / 2 ^ (t + w) ≡ n / 2 ^ (s + t + w) = shr-shr n s (t + w) ∙ ap (λ (k : ℕ). n / 2 ^ k) (omega arith) in
    let low_is : n % 2 ^ (s + t) ≡ n / 2 ^ s % 2 ^ t * 2 ^ s + n % 2 ^ s = ap (λ (k : ℕ). n % 2 ^ k) (add_comm s t) ∙ mod-pow-add n t s in
    let h : ℕ = n / 2 ^ (s + t + w) * 2 ^ w + v % 2 ^ w in
    ap₂ (λ (x y : ℕ). h * x + y) (pow-add 2 s t) low_is ∙ again h
    ∙ ap (λ (x : ℕ). ((x * 2 ^ w + v % 2 ^ w) * 2 ^ t + n / 2 ^ s % 2 ^ t) * 2 ^ s + n % 2 ^ s) (sym old)
  where
    again : (h : ℕ) → h * (2 ^ s * 2 ^ t) + (n / 2 ^ s % 2 ^ t * 2 ^ s + n % 2 ^ s) ≡ (h * 2 ^ t + n / 2 ^ s % 2 ^ t) * 2 ^ s + n % 2 ^ s
    again h = omega arith

-- what stands above the bits stays
pub placed_under : (t w r v h n : ℕ) → t + w ≤ r → placed t w v (h * 2 ^ r + n) ≡ h * 2 ^ r + placed t w v n
unfolding placed
placed_under t w r v h n l =
    let g : ℕ = h * 2 ^ (r - (t + w)) in
    let p : h * 2 ^ r ≡ g * 2 ^ w * 2 ^ t = above t w r h l in
    let both : g * 2 ^ w * 2 ^ t ≡ g * 2 ^ (t + w) = omega (arith, ap (λ (x : ℕ). g * x) (pow-add 2 t w)) in
    let top : (h * 2 ^ r + n) / 2 ^ (t + w) ≡ g + n / 2 ^ (t + w) =
    ap (λ (x : ℕ). (x + n) / 2 ^ (t + w)) (p ∙ both) ∙ mul-add-div_right (pow_pos (t + w)) g n in
    let bottom : (h * 2 ^ r + n) % 2 ^ t ≡ n % 2 ^ t = ap (λ (x : ℕ). (x + n) % 2 ^ t) p ∙ mul-add-mod_self_right (g * 2 ^ w) (2 ^ t) n in
    ap₂ (λ (x y : ℕ). (x * 2 ^ w + v % 2 ^ w) * 2 ^ t + y) top bottom ∙ omega (arith, p)
