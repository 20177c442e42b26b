-- A word's set bits one by one from the lowest on: what is left weighs less by it. Assumes nothing.
use mathlib.Core.Path.{◌≡◌, sym, ap, ◌∙◌}
use mathlib.Core.Bool.{Bool, true, false, not, cond, ◌&&◌}
use Prim.Native.Nat.{ℕ, ◌+◌, ◌^◌, ◌<◌}
use native.Mathlib.Omega.{arith}
use native.Mathlib.Decide.{ℕ_discrete}
use lib.Dec.{eqb}
use borrow.Author.Tests.{eq-eqb, ne_eqb}
use Rattle.lists.specs.Index.{total, weigh, First}
use Rattle.lists.proofs.Index.{total_both, total_window, weigh_same}
use Rattle.word.specs.Word.{bit_at, Bits}
use Rattle.word.proofs.Bits.{some_bit}

-- one that passes, apart from all others
weigh_apart : (n t : ℕ) (f : ℕ → Bool) (g : ℕ → ℕ) → t < n → f t ≡ true → g t + weigh n (λ i. f i && not (eqb i t)) g ≡ weigh n f g
unfolding total
weigh_apart n t f g l here =
    ap (λ (x : ℕ). x + weigh n (λ i. f i && not (eqb i t)) g) (sym alone)
    ∙ total_both n (λ i. cond (eqb i t) (g t) 0) _ _ (λ i k. split i (ℕ_discrete i t))
  where
    alone : total n (λ i. cond (eqb i t) (g t) 0) ≡ g t
    alone =
        total_window t 1 n (λ i. cond (eqb i t) (g t) 0) (λ i k. off i (λ e. omega arith)) (λ i k m. off i (λ e. omega arith)) (omega arith)
        ∙ ap (λ (b : Bool). 0 + cond b (g t) 0) (eq-eqb (t + 0) t (omega arith)) ∙ omega arith
      where
        off : (i : ℕ) → (i ≡ t → ⊥) → cond (eqb i t) (g t) 0 ≡ 0
        off i e = ap (λ (b : Bool). cond b (g t) 0) (ne_eqb i t e)

    split : (i : ℕ) → Dec (i ≡ t) → cond (eqb i t) (g t) 0 + cond (f i && not (eqb i t)) (g i) 0 ≡ cond (f i) (g i) 0
    split i (yes e) = rw (eq-eqb i t e, e, here) (omega arith)
    split i (no e) = rw (ne_eqb i t e) (both (f i))
      where
        both : (b : Bool) → 0 + cond (b && true) (g i) 0 ≡ cond b (g i) 0
        both true = omega arith
        both false = omega arith

-- t is the lowest set bit of a word, and rest the word without it
module _ (left t rest : ℕ) (small : left < 2 ^ 64) (n : left ≡ 0 → ⊥) (f : First (bit_at left) 64 t) (e : Bits rest (λ i. bit_at left i && not (eqb i t)))
    (g : ℕ → ℕ) where
  pub walk_goes : g t + weigh 64 (bit_at rest) g ≡ weigh 64 (bit_at left) g
  walk_goes =
      let l = some_bit left t small n f in
      ap (λ (x : ℕ). g t + x) (weigh_same 64 _ _ g e) ∙ weigh_apart 64 t (bit_at left) g l (f.here l)
