-- Bytes seen in their number: the first bytes are its high bits, and bits of one byte are bits of it. Assumes nothing.
use mathlib.Core.Path.{◌≡◌, refl, sym, ap, ap₂, ◌∙◌}
use mathlib.Core.List.{List, [], ◌∷◌, ◌++◌}
use Prim.Native.Nat.{ℕ, zero, suc, ◌+◌, ◌-◌, ◌*◌, ◌/◌, ◌%◌, ◌^◌, ◌≤◌, ◌<◌}
use native.Mathlib.Nat.{pow-suc}
use native.Mathlib.Omega.{arith}
use lib.ListN.{length, get_or, set, take, drop, length-set, length-drop, take-append-drop}
use lib.Pow.{pow-add, high, low}
use lib.Seq.{take-suc, take-suc-set, drop-set-lt}
use Rattle.fields.specs.Fields.{Bytes, number}
use Rattle.fields.specs.Parts.{cut, placed}
use Rattle.fields.proofs.Spelling.{bytes_drop, number_lt, number_append}
use Rattle.fields.proofs.Cuts.{cut_above, cut_under, placed_above, placed_under}

-- a byte is eight bits
pub byte_bits : (n : ℕ) → 256 ^ n ≡ 2 ^ (8 * n)
byte_bits zero = refl
byte_bits (suc n) =
    let e : 8 * suc n ≡ 8 * n + 8 = omega arith in
    omega (arith, pow-suc 256 n, byte_bits n, ap (λ (m : ℕ). 2 ^ m) e, pow-add 2 (8 * n) 8)

-- ---- the first bytes and the others
pub number_parts : (l : List ℕ) (k : ℕ) → number l ≡ number (take k l) * 2 ^ (8 * (length l - k)) + number (drop k l)
number_parts l k =
    ap number (sym (take-append-drop k l)) ∙ number_append (take k l) (drop k l)
    ∙ ap (λ (n : ℕ). number (take k l) * n + number (drop k l)) (byte_bits (length (drop k l)) ∙ ap (λ (n : ℕ). 2 ^ (8 * n)) (length-drop k l))

module _ (l : List ℕ) (k : ℕ) (b : Bytes l) where
  drop_lt : number (drop k l) < 2 ^ (8 * (length l - k))
  drop_lt = rw (← length-drop k l, ← byte_bits) (number_lt (drop k l) (bytes_drop k l b))

  pub number_take : number (take k l) ≡ number l / 2 ^ (8 * (length l - k))
  number_take = sym (ap (λ (n : ℕ). n / 2 ^ (8 * (length l - k))) (number_parts l k) ∙ high (number (take k l)) (8 * (length l - k)) drop_lt)

  pub number_drop : number (drop k l) ≡ number l % 2 ^ (8 * (length l - k))
  number_drop = sym (ap (λ (n : ℕ). n % 2 ^ (8 * (length l - k))) (number_parts l k) ∙ low (number (take k l)) (8 * (length l - k)) drop_lt)

-- bits of some of the bytes
pub window_cut : (l : List ℕ) (first last t w : ℕ) → Bytes l → first ≤ last → last ≤ length l → t + w ≤ 8 * (last - first)
    → cut t w (number (take (last - first) (drop first l))) ≡ cut (8 * (length l - last) + t) w (number l)
window_cut l first last t w b f e h =
    let s = 8 * (length l - last) in
    let place : 8 * (length (drop first l) - (last - first)) ≡ s = omega (arith, length-drop first l) in
    ap (cut t w) (number_take (drop first l) (last - first) (bytes_drop first l b) ∙ ap (λ (n : ℕ). number (drop first l) / 2 ^ n) place)
    ∙ cut_above s t w (number (drop first l))
    ∙ sym (ap (cut (s + t) w) (number_parts l first) ∙ cut_under (s + t) w (8 * (length l - first)) (number (take first l)) (number (drop first l)) (omega arith))

-- ---- one byte
number_last : (l : List ℕ) (b : ℕ) → number (l ++ b ∷ []) ≡ number l * 2 ^ 8 + b
unfolding number
number_last l b = number_append l (b ∷ []) ∙ omega arith

module _ (l : List ℕ) (k below many : ℕ) (b : Bytes l) (h : k < length l) (small : below + many ≤ 8) where
  upto : number l / 2 ^ (8 * (length l - suc k)) ≡ number (take k l) * 2 ^ 8 + get_or l k 0
  upto = sym (number_take l (suc k) b) ∙ ap number (take-suc l k 0 h) ∙ number_last (take k l) (get_or l k 0)

  pub byte_placed : (v : ℕ) → number (set l k (placed below many v (get_or l k 0))) ≡ placed (8 * (length l - suc k) + below) many v (number l)
  byte_placed v =
      let r = 8 * (length l - suc k) in
      let b' = placed below many v (get_or l k 0) in
      let m = set l k b' in
      let a = number (take k l) in
      let front : number (take (suc k) m) ≡ a * 2 ^ 8 + b' = ap number (take-suc-set l k b' h) ∙ number_last (take k l) b' in
      let back : number (drop (suc k) m) ≡ number l % 2 ^ r = ap number (drop-set-lt (suc k) l k b' (omega arith)) ∙ number_drop l (suc k) b in
      let whole : number m ≡ number (take (suc k) m) * 2 ^ r + number (drop (suc k) m) =
      number_parts m (suc k) ∙ ap (λ (n : ℕ). number (take (suc k) m) * 2 ^ (8 * (n - suc k)) + number (drop (suc k) m)) (length-set l k b') in
      let new : placed below many v (number l / 2 ^ r) ≡ a * 2 ^ 8 + b' =
      ap (placed below many v) upto ∙ placed_under below many 8 v a (get_or l k 0) small in
      whole ∙ ap₂ (λ (x y : ℕ). x * 2 ^ r + y) (front ∙ sym new) back ∙ sym (placed_above r below many v (number l))
