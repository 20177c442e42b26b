-- The values of a line stand before zeros, by induction on the values. Assumes nothing.
use Rattle.std.proofs.Common.{◌≡◌, ℕ, zero, suc, ◌≤◌, List, [], ◌∷◌, ◌++◌, length, take, drop, replicate, sym, ap, arith}
use Rattle.std.proofs.lemmas.List.{take-replicate}

pub values_first : (l : List ℕ) (n m : ℕ) → n ≤ m → length l ≤ n
    → l ++ drop (length l) (replicate {A = ℕ} n 0) ≡ take n (l ++ replicate {A = ℕ} m 0)
values_first [] n m h k = sym (take-replicate {X = ℕ} n m 0 h)
values_first (x ∷ l) zero m h k = absurd (omega arith)
values_first (x ∷ l) (suc n) m h k = ap (λ (t : List ℕ). x ∷ t) (values_first l n m (omega arith) (omega arith))
