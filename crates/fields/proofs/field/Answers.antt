-- `fields::field` meets its contract: the bytes that the field lies in are one number, and the field is cut out of it. Assumes nothing.
use Rattle.std.proofs.Common.{rules, ◌≡◌, ◌+◌, ◌-◌, ◌*◌, ◌/◌, ◌%◌, ◌^◌, ◌≤◌, ◌<◌, ℕ, List, [], ◌∷◌, length, take, drop, suc, refl, ap, ◌∙◌, arith, bit_or, bit_and, fold}
use Rattle.std.proofs.lemmas.Grind.{or_after_shift}
use native.Mathlib.Nat.{pow-suc, pow-le-pow_right, one-mul, mod-one}
use lib.Bits.{and_mask}
use lib.ListN.{length-take}
use lib.Pow.{shl_exact}
use Rattle.fields.specs.Fields.{Bytes, number}
use Rattle.fields.specs.Parts.{cut}
use Rattle.fields.proofs.Spelling.{bytes_drop, bytes_take}
use Rattle.fields.proofs.OneByte.{window_cut}
use Rattle.fields.proofs.field.Goals as goal

-- the number so far with one more byte
abbrev next : ℕ → ℕ → ℕ
next n b = bit_or (n * 2 ^ 8 % 2 ^ 128) b

folded : (xs : List ℕ) (n k : ℕ) → Bytes xs → n < 256 ^ k → k + length xs ≤ 16 → fold next n xs ≡ n * 256 ^ length xs + number xs
unfolding number
folded [] n k h small short = omega arith
folded (x ∷ xs) n k h small short =
    let up : suc k ≤ 16 = omega arith in
    let room : 256 ^ suc k ≤ 256 ^ 16 = pow-le-pow_right (omega arith) up in
    let one : next n x ≡ n * 256 + x = or_after_shift n 256 (2 ^ 128) x refl (h 0) (omega (arith, pow-suc 256 k)) in
    let more = folded xs (n * 256 + x) (suc k) (λ i. h (suc i)) (omega (arith, pow-suc 256 k, h 0)) (omega arith) in
    ap (λ (m : ℕ). fold next m xs) one ∙ more ∙ omega (arith, ap (λ (m : ℕ). n * m) (pow-suc 256 (length xs)))

masked : (n t w : ℕ) → w ≤ 64 → bit_and (n / 2 ^ t) (1 * 2 ^ w % 2 ^ 128 - 1) ≡ cut t w n
unfolding cut
masked n t w h =
    ap (λ (x : ℕ). bit_and (n / 2 ^ t) (x - 1)) (shl_exact {a = 1} 1 w 128 (omega arith) (omega arith) ∙ one-mul (2 ^ w)) ∙ and_mask (n / 2 ^ t) w

pub returns-then-width-eq0 : goal.returns-then-width-eq0
unfolding cut
returns-then-width-eq0 c = rw (c.if-width-eq0.true, mod-one) refl

pub returns : goal.returns
returns c =
    let l = c.args.bytes.now in
    let first = c.args.from / 8 in
    let last = c.div_ceil-last.result in
    let width = c.args.width in
    let end = c.args.from + width in
    let window = take (last - first) (drop first l) in
    let bytes : Bytes l = λ i. (c.type_inv.bytes i).fits in
    let all : c.fold-number.result ≡ fold next 0 window = search rules in
    let summed = folded window 0 0 (bytes_take _ _ (bytes_drop _ l bytes)) (omega arith) (omega (arith, length-take (last - first) (drop first l))) in
    let value : c.fold-number.result ≡ number window = omega (arith, all, summed) in
    let place : 8 * (length l - last) + (8 * last - end) ≡ 8 * length l - end = omega arith in
    rw (value, masked (number window) (8 * last - end) width c.requires.narrow, ← place)
    (window_cut l first last (8 * last - end) width bytes (omega arith) (omega arith) (omega arith))
