-- `fields::put` meets its contract: so many bits of v, the highest first, stand in the bytes' number. Assumes nothing.
use Rattle.std.proofs.Common.{◌≡◌, ◌+◌, ◌-◌, ◌*◌, ◌/◌, ◌%◌, ◌^◌, ◌≤◌, ◌<◌, min, suc, ℕ, List, length, get_or, sym, ap, ap₂, ◌∙◌, arith, rules}
use native.Mathlib.Nat.{sub_self, sub-add-eq}
use lib.ListN.{set, length-set}
use lib.Pow.{shr-shr, split}
use Rattle.fields.specs.Fields.{Bytes, number}
use Rattle.fields.specs.Parts.{placed}
use Rattle.fields.proofs.Cuts.{placed_none, placed_more}
use Rattle.fields.proofs.OneByte.{byte_placed}
use Rattle.fields.proofs.put.Goals as goal

-- where the bits of a step stand: of the byte's, and of the number's
place_is : (n at many : ℕ) → at % 8 + many ≤ 8 → at / 8 < n → 8 * (n - suc (at / 8)) + (8 - at % 8 - many) ≡ 8 * n - (at + many)
place_is n at many few inside = omega arith

-- one step more: n is what the number was before all
step_puts : (l : List ℕ) (from at end many v n : ℕ) → Bytes l → from ≤ at → at < end → end ≤ 8 * length l → many ≡ min (8 - at % 8) (end - at)
    → number l ≡ placed (8 * length l - at) (at - from) (v / 2 ^ (end - at)) n
    → number (set l (at / 8) (placed (8 - at % 8 - many) many (v / 2 ^ (end - at - many)) (get_or l (at / 8) 0)))
    ≡ placed (8 * length l - (at + many)) (at + many - from) (v / 2 ^ (end - (at + many))) n
step_puts l from at end many v n b begun more long m e =
    let k = 8 * length l - (at + many) in
    let y = v / 2 ^ (end - (at + many)) in
    let few : at % 8 + many ≤ 8 = omega arith in
    let inside : at / 8 < length l = omega arith in
    let left : 8 * length l - at ≡ k + many = omega arith in
    let ahead : end - at ≡ end - (at + many) + many = omega arith in
    let behind : at - from + many ≡ at + many - from = omega arith in
    let now : v / 2 ^ (end - at - many) ≡ y = ap (λ (x : ℕ). v / 2 ^ x) (sym (sub-add-eq end at many)) in
    let high : v / 2 ^ (end - at) ≡ y / 2 ^ many = ap (λ (x : ℕ). v / 2 ^ x) ahead ∙ sym (shr-shr v (end - (at + many)) many) in
    let before : number l ≡ placed (k + many) (at - from) (y / 2 ^ many) n = e ∙ ap₂ (λ (t x : ℕ). placed t (at - from) x n) left high in
    ap (λ (x : ℕ). number (set l (at / 8) (placed (8 - at % 8 - many) many x (get_or l (at / 8) 0)))) now
    ∙ byte_placed l (at / 8) (8 - at % 8 - many) many b inside (omega arith) y
    ∙ ap₂ (λ (t x : ℕ). placed t many y x) (place_is (length l) at many few inside) before
    ∙ placed_more k (at - from) many (y / 2 ^ many) y n
    ∙ ap₂ (λ (w x : ℕ). placed k w x n) behind (split y many)

pub loop-at-init : goal.loop-at-init
loop-at-init c = record {
  begun = omega arith;
  within = omega arith;
  value = simp (sub_self, placed_none);
}

pub loop-at-preserved : goal.loop-at-preserved
loop-at-preserved c =
    let a = c.args in
    let l = c.loop-at in
    let bytes : Bytes l.bytes = search rules in
    let put_in = step_puts l.bytes a.from l.at (a.from + a.width) c.min-many.result a.v (number a.bytes.now) bytes l.invariant.begun c.loop-at-test.true
    (omega arith) c.min-many.ensures l.invariant.value in
    record {
      begun = omega arith;
      within = omega arith;
      value = rw (c.over.ensures, length-set) put_in;
    }
