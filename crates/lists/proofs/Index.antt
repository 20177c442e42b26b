-- Laws on functions of the index: each is counted up from 0, or compares two lists at every index. Assumes nothing.
use mathlib.Core.Path.{◌≡◌, refl, sym, ap, ap₂, ◌∙◌}
use mathlib.Core.Bool.{Bool, true, false, cond, false≢true, ◌&&◌}
use mathlib.Core.List.{List, [], ◌∷◌, ◌++◌, map}
use Prim.Native.Nat.{ℕ, zero, suc, ◌+◌, ◌-◌, ◌*◌, ◌≤◌, ◌<◌}
use native.Mathlib.Omega.{arith}
use native.Mathlib.Nat.{add-zero, add-suc, zero-add, suc-add, sub-zero, zero-sub, suc-sub-suc}
use native.Mathlib.Decide.{ℕ_discrete, dec_lt}
use lib.Dec.{eqb}
use lib.ListN.{length, get_or, take, drop, set, length-set}
use lib.Seq.{get_or-set_same, get_or-set_other, ext_get_or}
use borrow.Author.Count.{below_more}
use borrow.Author.Tests.{eq-eqb, ne_eqb}
use Rattle.lists.specs.Index.{total, weigh, tally, First, table}

-- ---- sums
pub total_same : (n : ℕ) (f g : ℕ → ℕ) → ((i : ℕ) → i < n → f i ≡ g i) → total n f ≡ total n g
unfolding total
total_same zero f g h = refl
total_same (suc n) f g h = ap₂ (λ (x y : ℕ). x + y) (total_same n f g (λ i p. h i (omega arith))) (h n (omega arith))

pub total_none : (n : ℕ) (f : ℕ → ℕ) → ((i : ℕ) → i < n → f i ≡ 0) → total n f ≡ 0
unfolding total
total_none zero f h = refl
total_none (suc n) f h = omega (arith, total_none n f (λ i p. h i (omega arith)), h n (omega arith))

pub total_add : (m n : ℕ) (f : ℕ → ℕ) → total (m + n) f ≡ total m f + total n (λ i. f (m + i))
unfolding total
total_add m zero f = rw (add-zero m) (sym (add-zero (total m f)))
total_add m (suc n) f = rw add-suc (omega (arith, total_add m n f))

-- index by index
pub total_both : (n : ℕ) (f g h : ℕ → ℕ) → ((i : ℕ) → i < n → f i + g i ≡ h i) → total n f + total n g ≡ total n h
unfolding total
total_both zero f g h e = refl
total_both (suc n) f g h e = omega (arith, total_both n f g h (λ i p. e i (omega arith)), e n (omega arith))

pub total_le : (n b : ℕ) (f : ℕ → ℕ) → ((i : ℕ) → f i ≤ b) → total n f ≤ n * b
unfolding total
total_le zero b f h = omega arith
total_le (suc n) b f h = omega (arith, total_le n b f h, h n, more)
  where
    more : suc n * b ≡ n * b + b
    more = omega arith

-- where all outside of s .. s + n - 1 weighs nothing
pub total_window : (s n m : ℕ) (f : ℕ → ℕ) → ((i : ℕ) → i < s → f i ≡ 0) → ((i : ℕ) → s + n ≤ i → i < m → f i ≡ 0)
    → s + n ≤ m → total m f ≡ total n (λ i. f (s + i))
total_window s n m f low high h =
    let r = m - (s + n) in
    let e : m ≡ s + (n + r) = omega arith in
    let past : total r (λ i. f (s + (n + i))) ≡ 0 = total_none r _ (λ i p. high (s + (n + i)) (omega arith) (omega arith)) in
    ap (λ (k : ℕ). total k f) e ∙ total_add s (n + r) f ∙ omega (arith, total_none s f low, total_add n r (λ i. f (s + i)), past)

-- the first term by itself
pub total_first : (n : ℕ) (f : ℕ → ℕ) → total (suc n) f ≡ f 0 + total n (λ i. f (suc i))
unfolding total
total_first zero f = omega arith
total_first (suc n) f = omega (arith, total_first n f)

-- ---- weights of what passes
pub weigh_same : (n : ℕ) (f g : ℕ → Bool) (w : ℕ → ℕ) → ((i : ℕ) → i < n → f i ≡ g i) → weigh n f w ≡ weigh n g w
weigh_same n f g w h = total_same n _ _ (λ i p. ap (λ (b : Bool). cond b (w i) 0) (h i p))

-- those that pass two tests, as the weight of those that pass the first
pub tally_both : (n : ℕ) (f g : ℕ → Bool) → tally n (λ i. f i && g i) ≡ weigh n f (λ i. cond (g i) 1 0)
tally_both n f g = total_same n _ _ (λ i p. each (f i) (g i))
  where
    each : (a b : Bool) → ◌≡◌ {A = ℕ} (cond (a && b) 1 0) (cond a (cond b 1 0) 0)
    each true b = refl
    each false b = refl

pub tally_le : (n : ℕ) (f : ℕ → Bool) → tally n f ≤ n
tally_le n f = omega (arith, total_le n 1 (λ i. cond (f i) 1 0) (λ i. one (f i)))
  where
    one : (b : Bool) → cond b 1 0 ≤ 1
    one true = omega arith
    one false = omega arith

-- ---- the first that passes
pub first_one : (f : ℕ → Bool) (n r s : ℕ) → First f n r → First f n s → r ≡ s
first_one f n r s a b = go (dec_lt r s) (dec_lt s r)
  where
    never : (x y : ℕ) → First f n x → First f n y → x < y → ⊥
    never x y p q l = false≢true (sym (q.none x l) ∙ p.here (omega (arith, q.within)))

    go : Dec (r < s) → Dec (s < r) → r ≡ s
    go (yes l) d = absurd (never r s a b l)
    go (no l) (yes m) = absurd (never s r b a m)
    go (no l) (no m) = omega arith

-- a walk over the indices from 0 on: one more that fails, one that passes, the end
module _ (f : ℕ → Bool) (r : ℕ) (before : (i : ℕ) → i < r → f i ≡ false) where
  pub none_more : f r ≡ false → (i : ℕ) → i < r + 1 → f i ≡ false
  none_more = below_more (λ i. f i ≡ false) r before

  pub first_here : (n : ℕ) → r < n → f r ≡ true → First f n r
  first_here n l e = record { within = omega arith; none = before; here = λ m. e }

  pub first_end : (n : ℕ) → r ≡ n → First f n r
  first_end n e = record { within = omega arith; none = before; here = λ m. absurd (omega arith) }

-- the first that passes, counted from s on
pub first_from : (f : ℕ → Bool) (s n r : ℕ) → First f (s + n) r → s ≤ r → First (λ i. f (s + i)) n (r - s)
first_from f s n r h l = record {
  within = omega (arith, h.within);
  none = λ i k. h.none (s + i) (omega arith);
  here = λ k. ap f (omega arith) ∙ h.here (omega arith);
}

-- ---- the list of a function's values
module _ {A : Type 0} where
  pub length_table : (n : ℕ) (f : ℕ → A) → length (table n f) ≡ n
  unfolding table
  length_table zero f = refl
  length_table (suc n) f = ap suc (length_table n (λ i. f (suc i)))

  pub get_or_table : (n : ℕ) (f : ℕ → A) (i : ℕ) (d : A) → i < n → get_or (table n f) i d ≡ f i
  unfolding table
  get_or_table zero f i d h = absurd (omega arith)
  get_or_table (suc n) f zero d h = refl
  get_or_table (suc n) f (suc i) d h = get_or_table n (λ k. f (suc k)) i d (omega arith)

  -- a list is the table of a function if they agree at every index
  pub is_table : (l : List A) (n : ℕ) (f : ℕ → A) (d : A) → length l ≡ n → ((i : ℕ) → i < n → get_or l i d ≡ f i) → l ≡ table n f
  is_table l n f d e h =
      ext_get_or d l (table n f) (e ∙ sym (length_table n f)) (λ i p. h i (omega arith) ∙ sym (get_or_table n f i d (omega arith)))

  pub table_same : (n : ℕ) (f g : ℕ → A) → ((i : ℕ) → i < n → f i ≡ g i) → table n f ≡ table n g
  unfolding table
  table_same zero f g h = refl
  table_same (suc n) f g h =
      ap₂ (λ (x : A) (l : List A). x ∷ l) (h zero (omega arith)) (table_same n (λ i. f (suc i)) (λ i. g (suc i)) (λ i p. h (suc i) (omega arith)))

  pub set_table : (n : ℕ) (f : ℕ → A) (i : ℕ) (v : A) → set (table n f) i v ≡ table n (λ j. cond (eqb j i) v (f j))
  set_table n f i v =
      is_table (set (table n f) i v) n (λ j. cond (eqb j i) v (f j)) v (length-set (table n f) i v ∙ length_table n f)
      (λ j p. at j p (ℕ_discrete j i))
    where
      at : (j : ℕ) → j < n → Dec (j ≡ i) → get_or (set (table n f) i v) j v ≡ cond (eqb j i) v (f j)
      at j p (yes e) = rw (eq-eqb j i e) (ap (λ (x : ℕ). get_or (set (table n f) i v) x v) e ∙ get_or-set_same (table n f) i v v (omega (arith, length_table n f)))
      at j p (no e) = rw (ne_eqb j i e) (get_or-set_other (table n f) i j v v e ∙ get_or_table n f j v p)

  pub drop_table : (m n : ℕ) (f : ℕ → A) → drop m (table n f) ≡ table (n - m) (λ i. f (m + i))
  unfolding table
  drop_table zero n f = simp (zero-add, sub-zero)
  drop_table (suc m) zero f = simp zero-sub
  drop_table (suc m) (suc n) f = simp (suc-add, suc-sub-suc) (drop_table m n (λ i. f (suc i)))

  pub take_table : (m n : ℕ) (f : ℕ → A) → m ≤ n → take m (table n f) ≡ table m f
  unfolding table
  take_table zero n f h = refl
  take_table (suc m) zero f h = absurd (omega arith)
  take_table (suc m) (suc n) f h = ap (λ (l : List A). f zero ∷ l) (take_table m n (λ i. f (suc i)) (omega arith))

  pub map_table : {B : Type 0} (g : A → B) (n : ℕ) (f : ℕ → A) → map g (table n f) ≡ table n (λ i. g (f i))
  unfolding table
  map_table g zero f = refl
  map_table {B} g (suc n) f = ap (λ (l : List B). g (f zero) ∷ l) (map_table g n (λ i. f (suc i)))

  -- one element more
  pub table_snoc : (n : ℕ) (f : ℕ → A) → table n f ++ (f n ∷ []) ≡ table (suc n) f
  unfolding table
  table_snoc zero f = refl
  table_snoc (suc n) f = ap (λ (l : List A). f zero ∷ l) (table_snoc n (λ i. f (suc i)))
