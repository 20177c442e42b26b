-- A number and the bytes that spell it undo one another, by induction on the bytes with the highest taken off. Assumes nothing.
use mathlib.Core.Path.{◌≡◌, refl, sym, ap, ap₂, ◌∙◌, subst}
use mathlib.Core.List.{List, [], ◌∷◌, ◌++◌}
use Prim.Native.Nat.{ℕ, zero, suc, ◌+◌, ◌*◌, ◌/◌, ◌%◌, ◌^◌, ◌≤◌, ◌<◌}
use native.Mathlib.Nat.{mul_assoc, pow-suc, one-le-pow, pow-le-pow_right, div-eq_of_lt, mod-one, mul-add-div_right}
use native.Mathlib.Omega.{arith}
use lib.Arith.{mod-mul, digits_lt}
use lib.ListN.{length, take, drop, length-append, length-take}
use lib.Pow.{pow-add}
use lib.Seq.{get_or-drop}
use Rattle.fields.specs.Fields.{Bytes, number, spell}

-- ---- bytes
pub bytes_drop : (n : ℕ) (l : List ℕ) → Bytes l → Bytes (drop n l)
bytes_drop n l h i = rw get_or-drop (h (n + i))

pub bytes_take : (n : ℕ) (l : List ℕ) → Bytes l → Bytes (take n l)
bytes_take zero l h zero = omega arith
bytes_take zero l h (suc i) = omega arith
bytes_take (suc n) [] h i = h i
bytes_take (suc n) (a ∷ l) h zero = h 0
bytes_take (suc n) (a ∷ l) h (suc i) = bytes_take n l (λ j. h (suc j)) i

-- ---- a number and its bytes
pos : (n : ℕ) → 0 < 256 ^ n
pos n = one-le-pow n 256 (omega arith)

pub bytes_spell : (n v : ℕ) → Bytes (spell n v)
unfolding spell
bytes_spell zero v i = omega arith
bytes_spell (suc n) v zero = omega arith
bytes_spell (suc n) v (suc i) = bytes_spell n v i

pub length_spell : (w v : ℕ) → length (spell w v) ≡ w
unfolding spell
length_spell zero v = refl
length_spell (suc w) v = ap suc (length_spell w v)

pub number_lt : (l : List ℕ) → Bytes l → number l < 256 ^ length l
unfolding number
number_lt [] h = omega arith
number_lt (b ∷ l) h =
    let d : b * 256 ^ length l + number l < 256 * 256 ^ length l = digits_lt (h 0) (number_lt l (λ i. h (suc i))) in
    omega (arith, pow-suc 256 (length l))

-- of at most w bytes
pub number_take_lt : (w : ℕ) (l : List ℕ) → Bytes l → number (take w l) < 256 ^ w
number_take_lt w l h =
    let n : length (take w l) ≤ w = omega (arith, length-take w l) in
    let p : 256 ^ length (take w l) ≤ 256 ^ w = pow-le-pow_right (omega arith) n in
    omega (arith, number_lt (take w l) (bytes_take w l h))

pub number_spell : (w v : ℕ) → number (spell w v) ≡ v % 256 ^ w
unfolding spell number
number_spell zero v = sym (mod-one v)
number_spell (suc w) v =
    ap₂ (λ (n x : ℕ). v / 256 ^ w % 256 * 256 ^ n + x) (length_spell w v) (number_spell w v)
    ∙ sym (mod-mul v {m = 256} {c = 256 ^ w} (omega arith) (pos w)) ∙ ap (λ (x : ℕ). v % x) (omega (arith, pow-suc 256 w))

-- what stands above the bytes does not matter
spell_low : (n x v : ℕ) → spell n (x * 256 ^ n + v) ≡ spell n v
unfolding spell
spell_low zero x v = refl
spell_low (suc n) x v =
    let P = 256 ^ n in
    let e : x * 256 ^ suc n ≡ x * 256 * P = ap (λ (y : ℕ). x * y) (omega (arith, pow-suc 256 n)) ∙ sym (mul_assoc x 256 P) in
    let h : (x * 256 ^ suc n + v) / P % 256 ≡ v / P % 256 =
    ap (λ (y : ℕ). (y + v) / P % 256) e ∙ ap (λ (y : ℕ). y % 256) (mul-add-div_right (pos n) (x * 256) v) ∙ (omega arith) in
    ap₂ (λ (b : ℕ) (l : List ℕ). b ∷ l) h (ap (λ (y : ℕ). spell n (y + v)) e ∙ spell_low n (x * 256) v)

pub spell_number : (l : List ℕ) → Bytes l → spell (length l) (number l) ≡ l
unfolding spell number
spell_number [] h = refl
spell_number (b ∷ l) h =
    let P = 256 ^ length l in
    let z : number l / P ≡ 0 = div-eq_of_lt (number_lt l (λ i. h (suc i))) in
    let d : (b * P + number l) / P % 256 ≡ b = ap (λ (y : ℕ). y % 256) (mul-add-div_right (pos (length l)) b (number l)) ∙ omega (arith, h 0) in
    ap₂ (λ (x : ℕ) (r : List ℕ). x ∷ r) d (spell_low (length l) b (number l) ∙ spell_number l (λ i. h (suc i)))

-- the first w bytes of a list, spelled again
pub spell_number_take : (w : ℕ) (l : List ℕ) → Bytes l → w ≤ length l → spell w (number (take w l)) ≡ take w l
spell_number_take w l b h =
    let n : length (take w l) ≡ w = omega (arith, length-take w l) in
    subst (λ (m : ℕ). spell m (number (take w l)) ≡ take w l) n (spell_number (take w l) (bytes_take w l b))

-- two lists of bytes, of one length and with one number, are one
pub number_one : (l m : List ℕ) → Bytes l → Bytes m → length l ≡ length m → number l ≡ number m → l ≡ m
number_one l m p q n e = sym (spell_number l p) ∙ ap₂ spell n e ∙ spell_number m q

-- ---- a list in parts
pub number_append : (l m : List ℕ) → number (l ++ m) ≡ number l * 256 ^ length m + number m
unfolding number
number_append [] m = omega arith
number_append (b ∷ l) m =
    let p : 256 ^ length (l ++ m) ≡ 256 ^ length l * 256 ^ length m = ap (λ (n : ℕ). 256 ^ n) (length-append l m) ∙ pow-add 256 (length l) (length m) in
    let e : b * 256 ^ length (l ++ m) ≡ b * (256 ^ length l * 256 ^ length m) = ap (λ (n : ℕ). b * n) p in
    omega (arith, number_append l m)

pub bytes_append : (l m : List ℕ) → Bytes l → Bytes m → Bytes (l ++ m)
bytes_append [] m p q i = q i
bytes_append (b ∷ l) m p q zero = p 0
bytes_append (b ∷ l) m p q (suc i) = bytes_append l m (λ j. p (suc j)) q i
