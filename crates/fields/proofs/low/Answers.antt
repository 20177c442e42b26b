-- `fields::low` meets its contract: one less than a power of two masks the bits below. Assumes nothing.
use mathlib.Core.Path.{◌≡◌, ap, ◌∙◌}
use Prim.Native.Nat.{ℕ, ◌-◌, ◌*◌, ◌%◌, ◌^◌, ◌≤◌}
use native.Mathlib.Nat.{one-mul}
use native.Mathlib.Omega.{arith}
use lib.Bits.{bit_and, and_mask}
use lib.Pow.{pow_pos, shl_exact}
use Rattle.fields.proofs.low.Goals as goal

one : (k : ℕ) → k ≤ 8 → (1 * 2 ^ k) % 2 ^ 64 ≡ 2 ^ k
one k h = shl_exact {a = 1} 1 k 64 (omega arith) (omega arith) ∙ one-mul (2 ^ k)

pub overflow_sub-result : goal.overflow_sub-result
overflow_sub-result c = omega (arith, one c.args.many c.requires, pow_pos c.args.many)

pub returns : goal.returns
returns c =
    let v = c.args.v in
    let k = c.args.many in
    ap (λ (x : ℕ). bit_and v (x - 1)) (one k c.requires) ∙ and_mask v k
