-- What retiring does to the table of a function, by its length. Assumes nothing.
use mathlib.Core.Path.{◌≡◌, refl, sym, ap, ◌∙◌}
use mathlib.Core.Bool.{Bool, not, cond, ◌&&◌}
use mathlib.Core.List.{List, ◌∷◌}
use Prim.Native.Nat.{ℕ, zero, suc, ◌+◌}
use Rattle.lists.specs.Index.{total, weigh, table}
use Rattle.lists.proofs.Index.{total_first}
use Rattle.rules.specs.Sender.{Entry}
use Rattle.rules.specs.Retire.{retire, retired, over_newly}

pub retire_table : (g : ℕ → Bool) (n : ℕ) (f : ℕ → Entry) → retire g (table n f) ≡ table n (λ i. cond (g i) (retired (f i)) (f i))
unfolding retire table
retire_table g zero f = refl
retire_table g (suc n) f = ap (λ (l : List Entry). cond (g zero) (retired (f zero)) (f zero) ∷ l) (retire_table (λ i. g (suc i)) n (λ i. f (suc i)))

-- whatever is counted of the newly retired
pub newly_table : (w : Entry → ℕ) (g : ℕ → Bool) (n : ℕ) (f : ℕ → Entry)
    → over_newly w g (table n f) ≡ weigh n (λ i. g i && not (f i).retired) (λ i. w (f i))
unfolding over_newly table total
newly_table w g zero f = refl
newly_table w g (suc n) f =
    ap (λ (m : ℕ). cond (g zero && not (f zero).retired) (w (f zero)) 0 + m) (newly_table w (λ i. g (suc i)) n (λ i. f (suc i)))
    ∙ sym (total_first n (λ i. cond (g i && not (f i).retired) (w (f i)) 0))
