-- Widths of 0 at the end change nothing: not the number, not the bytes, and each is read as 0. Assumes nothing.
use mathlib.Core.Path.{◌≡◌, refl, ap, ap₂, ◌∙◌}
use mathlib.Core.List.{List, [], ◌∷◌, ◌++◌}
use Prim.Native.Nat.{ℕ, zero, suc, ◌+◌, ◌*◌, ◌/◌, ◌%◌, ◌^◌, ◌≤◌}
use native.Mathlib.Nat.{mod-one}
use native.Mathlib.Omega.{arith}
use lib.ListN.{length, get_or, take, replicate}
use Rattle.lists.specs.Lists.{sum}
use Rattle.lists.proofs.Lists.{get_or_alike}
use Rattle.fields.specs.Fields.{number, spell, joined, parted, size, encode, decode, Layout}

pub sum_padded : (ws : List ℕ) (k : ℕ) → sum (ws ++ replicate k 0) ≡ sum ws
unfolding sum
sum_padded [] zero = refl
sum_padded [] (suc k) = omega (arith, sum_padded [] k)
sum_padded (w ∷ ws) k = ap (λ (n : ℕ). w + n) (sum_padded ws k)

pub layout_padded : (ws : List ℕ) (k : ℕ) → Layout ws → Layout (ws ++ replicate k 0)
layout_padded ws k h = record {
  whole = ap (λ (n : ℕ). n % 8) (sum_padded ws k) ∙ h.whole;
  narrow = narrow_padded ws k h.narrow;
  short = omega (arith, sum_padded ws k, h.short);
}
  where
    narrow_padded : (ws : List ℕ) (k : ℕ) → ((i : ℕ) → get_or ws i 0 ≤ 64) → (i : ℕ) → get_or (ws ++ replicate k 0) i 0 ≤ 64
    narrow_padded [] k h i = omega (arith, get_or_alike {A = ℕ} 0 k i)
    narrow_padded (w ∷ ws) k h zero = h 0
    narrow_padded (w ∷ ws) k h (suc i) = narrow_padded ws k (λ j. h (suc j)) i

pub joined_padded : (ws vs : List ℕ) (k : ℕ) → length vs ≡ length ws → joined (ws ++ replicate k 0) (vs ++ replicate k 0) ≡ joined ws vs
unfolding joined
joined_padded [] [] zero e = refl
joined_padded [] [] (suc k) e = omega (arith, joined_padded [] [] k refl)
joined_padded [] (v ∷ vs) k e = absurd (omega arith)
joined_padded (w ∷ ws) [] k e = absurd (omega arith)
joined_padded (w ∷ ws) (v ∷ vs) k e =
    ap₂ (λ (m n : ℕ). v % 2 ^ w * 2 ^ m + n) (sum_padded ws k) (joined_padded ws vs k (omega arith))

pub parted_padded : (ws : List ℕ) (n k : ℕ) → parted (ws ++ replicate k 0) n ≡ parted ws n ++ replicate k 0
unfolding parted
parted_padded [] n zero = refl
parted_padded [] n (suc k) = ap₂ (λ (x : ℕ) (l : List ℕ). x ∷ l) (mod-one (n / 2 ^ sum (replicate k 0))) (parted_padded [] n k)
parted_padded (w ∷ ws) n k =
    ap₂ (λ (x : ℕ) (l : List ℕ). x ∷ l) (ap (λ (m : ℕ). n / 2 ^ m % 2 ^ w) (sum_padded ws k)) (parted_padded ws n k)

pub encode_padded : (ws vs : List ℕ) (k : ℕ) → length vs ≡ length ws → encode (ws ++ replicate k 0) (vs ++ replicate k 0) ≡ encode ws vs
unfolding encode
encode_padded ws vs k e = ap₂ spell (ap (λ (n : ℕ). n / 8) (sum_padded ws k)) (joined_padded ws vs k e)

pub decode_padded : (ws l : List ℕ) (k : ℕ) → decode (ws ++ replicate k 0) l ≡ decode ws l ++ replicate k 0
unfolding decode
decode_padded ws l k =
    parted_padded ws (number (take (size (ws ++ replicate k 0)) l)) k
    ∙ ap (λ (n : ℕ). parted ws (number (take (n / 8) l)) ++ replicate k 0) (sum_padded ws k)
