-- What the rules' words for lists do to the table of a function, each by the table's length. Assumes nothing.
use mathlib.Core.Path.{◌≡◌, refl, sym, ap, ap₂, ◌∙◌}
use mathlib.Core.Bool.{Bool, false, not, cond}
use mathlib.Core.List.{List, ◌∷◌}
use Prim.Native.Nat.{ℕ, zero, suc, ◌+◌, ◌≤◌, ◌<◌}
use native.Mathlib.Omega.{arith}
use native.Mathlib.Decide.{dec_lt}
use lib.Dec.{eqb, eqb-suc-suc}
use lib.ListN.{get_or, get_or-eq_default}
use borrow.Author.Tests.{ne_eqb, not-true, not-false}
use Rattle.lists.specs.Index.{total, First, table}
use Rattle.lists.proofs.Index.{length_table, get_or_table, is_table, total_first, table_same}
use Rattle.lists.specs.Lists.{lead, slide, sum, update}
use Rattle.lists.proofs.Lists.{get_or_slide, length_slide}

-- those that stand true before the first that is false
pub lead_table : (n : ℕ) (f : ℕ → Bool) (k : ℕ) → First (λ i. not (f i)) n k → lead (table n f) ≡ k
unfolding lead table
lead_table zero f k h = omega (arith, h.within)
lead_table (suc n) f zero h = rw (not-true (f zero) (h.here (omega arith)))
lead_table (suc n) f (suc k) h =
    rw (not-false (f zero) (h.none zero (omega arith)))
    (ap suc (lead_table n (λ i. f (suc i)) k (record {
      within = omega (arith, h.within);
      none = λ i l. h.none (suc i) (omega arith);
      here = λ l. h.here (omega arith);
    })))

-- moved on, where nothing past the end is true
pub slide_table : (n : ℕ) (f : ℕ → Bool) (k : ℕ) → k ≤ n → ((i : ℕ) → n ≤ i → f i ≡ false) → slide k (table n f) ≡ table n (λ i. f (k + i))
slide_table n f k h past =
    is_table (slide k (table n f)) n (λ i. f (k + i)) false (length_slide k (table n f) (omega (arith, length_table n f)) ∙ length_table n f)
    (λ i l. get_or_slide k (table n f) i ∙ entry i (dec_lt (k + i) n))
  where
    entry : (i : ℕ) → Dec (k + i < n) → get_or (table n f) (k + i) false ≡ f (k + i)
    entry i (yes l) = get_or_table n f (k + i) false l
    entry i (no l) = get_or-eq_default (table n f) false (omega (arith, length_table n f)) ∙ sym (past (k + i) (omega arith))

pub sum_table : (n : ℕ) (f : ℕ → ℕ) → sum (table n f) ≡ total n f
unfolding sum table total
sum_table zero f = refl
sum_table (suc n) f = ap (λ (m : ℕ). f zero + m) (sum_table n (λ i. f (suc i))) ∙ sym (total_first n f)

pub update_table : {A : Type 0} (g : A → A) (n : ℕ) (f : ℕ → A) (i : ℕ) → update g (table n f) i ≡ table n (λ j. cond (eqb j i) (g (f j)) (f j))
unfolding update table
update_table g zero f i = refl
update_table {A} g (suc n) f zero =
    ap (λ (l : List A). g (f zero) ∷ l)
    (table_same n _ _ (λ j p. sym (ap (λ (b : Bool). cond b (g (f (suc j))) (f (suc j))) (ne_eqb (suc j) zero (omega arith)))))
update_table {A} g (suc n) f (suc i) =
    ap₂ (λ (x : A) (l : List A). x ∷ l) (sym (ap (λ (b : Bool). cond b (g (f zero)) (f zero)) (ne_eqb zero (suc i) (omega arith))))
    (update_table g n (λ j. f (suc j)) i ∙ table_same n _ _ (λ j p. ap (λ (b : Bool). cond b (g (f (suc j))) (f (suc j))) (sym (eqb-suc-suc j i))))
