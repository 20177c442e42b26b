-- Laws of the rules' words for lists, by induction on the list: where the leading trues end, what stands in a list that is slid, and what
-- an update, a set or a drop keeps. Assumes nothing.
use mathlib.Core.Path.{◌≡◌, refl, sym, ap, ◌∙◌}
use mathlib.Core.Bool.{Bool, true, false, ◌||◌, or-true, false≢true}
use mathlib.Core.List.{List, [], ◌∷◌, ◌++◌, map}
use Prim.Native.Nat.{ℕ, zero, suc, ◌+◌, ◌≤◌, ◌<◌}
use native.Mathlib.Omega.{arith}
use native.Mathlib.Decide.{ℕ_discrete}
use lib.ListN.{length, get_or, drop, set, replicate, length-append, length-drop, length-replicate}
use lib.Seq.{get_or-drop}
use Rattle.lists.specs.Lists.{lead, slide, any, update, All}

-- ---- lead
pub lead_true : (l : List Bool) (i : ℕ) → i < lead l → get_or l i false ≡ true
unfolding lead
lead_true [] i h = absurd (omega arith)
lead_true (false ∷ l) i h = absurd (omega arith)
lead_true (true ∷ l) zero h = refl
lead_true (true ∷ l) (suc i) h = lead_true l i (omega arith)

pub lead_false : (l : List Bool) → get_or l (lead l) false ≡ false
unfolding lead
lead_false [] = refl
lead_false (false ∷ l) = refl
lead_false (true ∷ l) = lead_false l

pub lead_le : (l : List Bool) → lead l ≤ length l
unfolding lead
lead_le [] = omega arith
lead_le (false ∷ l) = omega arith
lead_le (true ∷ l) = omega (arith, lead_le l)

-- ---- slide
pub get_or_alike : {A : Type 0} (a : A) (m i : ℕ) → get_or (replicate m a) i a ≡ a
get_or_alike a zero i = refl
get_or_alike a (suc m) zero = refl
get_or_alike a (suc m) (suc i) = get_or_alike a m i

get_or_pad : (l : List Bool) (m i : ℕ) → get_or (l ++ replicate m false) i false ≡ get_or l i false
get_or_pad [] m i = get_or_alike false m i
get_or_pad (b ∷ l) m zero = refl
get_or_pad (b ∷ l) m (suc i) = get_or_pad l m i

pub get_or_slide : (k : ℕ) (l : List Bool) (i : ℕ) → get_or (slide k l) i false ≡ get_or l (k + i) false
unfolding slide
get_or_slide k l i = get_or_pad (drop k l) k i ∙ get_or-drop k l i false

pub length_slide : (k : ℕ) (l : List Bool) → k ≤ length l → length (slide k l) ≡ length l
unfolding slide
length_slide k l h = simp (length-append, length-drop, length-replicate) (omega arith)

-- what is true stands inside the list
pub in_range : (l : List Bool) (i : ℕ) → get_or l i false ≡ true → i < length l
in_range [] i h = absurd (false≢true h)
in_range (b ∷ l) zero h = omega arith
in_range (b ∷ l) (suc i) h = omega (arith, in_range l i h)

-- ---- any
pub any_none : (n : ℕ) (f : ℕ → Bool) → ((i : ℕ) → i < n → f i ≡ false) → any n f ≡ false
unfolding any
any_none zero f h = refl
any_none (suc n) f h = rw (h n (omega arith)) (any_none n f (λ i p. h i (omega arith)))

pub any_some : (n : ℕ) (f : ℕ → Bool) (i : ℕ) → i < n → f i ≡ true → any n f ≡ true
unfolding any
any_some zero f i l e = absurd (omega arith)
any_some (suc n) f i l e = go (ℕ_discrete i n) (λ m. any_some n f i m e)
  where
    go : Dec (i ≡ n) → (i < n → any n f ≡ true) → (f n || any n f) ≡ true
    go (yes q) more = ap (λ (t : Bool). t || any n f) (sym (ap f q) ∙ e)
    go (no q) more = ap (λ (t : Bool). f n || t) (more (omega arith)) ∙ or-true (f n)

-- ---- update
module _ {A : Type 0} where
  pub length_update : (g : A → A) (l : List A) (i : ℕ) → length (update g l i) ≡ length l
  unfolding update
  length_update g [] i = refl
  length_update g (a ∷ l) zero = refl
  length_update g (a ∷ l) (suc i) = ap suc (length_update g l i)

  -- a test that the change does not touch
  pub map_update : {B : Type 0} (t : A → B) (g : A → A) (l : List A) (i : ℕ) → ((a : A) → t (g a) ≡ t a) → map t (update g l i) ≡ map t l
  unfolding update
  map_update t g [] i h = refl
  map_update t g (a ∷ l) zero h = ap (λ (b : _). b ∷ map t l) (h a)
  map_update t g (a ∷ l) (suc i) h = ap (λ (m : List _). t a ∷ m) (map_update t g l i h)

  -- ---- every entry
  pub all_update : (P : A → Type 0) (g : A → A) (l : List A) (i : ℕ) → ((a : A) → P a → P (g a)) → All P l → All P (update g l i)
  unfolding All update
  all_update P g [] i h p = p
  all_update P g (a ∷ l) zero h p = (h a p.0, p.1)
  all_update P g (a ∷ l) (suc i) h p = (p.0, all_update P g l i h p.1)

  pub all_snoc : (P : A → Type 0) (l : List A) (a : A) → All P l → P a → All P (l ++ (a ∷ []))
  unfolding All
  all_snoc P [] a p h = (h, tt)
  all_snoc P (b ∷ l) a p h = (p.0, all_snoc P l a p.1 h)

  pub all_drop : (P : A → Type 0) (k : ℕ) (l : List A) → All P l → All P (drop k l)
  unfolding All
  all_drop P zero l p = p
  all_drop P (suc k) [] p = p
  all_drop P (suc k) (a ∷ l) p = all_drop P k l p.1

-- ---- drop and set
pub map_drop : {A B : Type 0} (f : A → B) (k : ℕ) (l : List A) → map f (drop k l) ≡ drop k (map f l)
map_drop f zero l = refl
map_drop f (suc k) [] = refl
map_drop f (suc k) (a ∷ l) = map_drop f k l

pub map_set : {A B : Type 0} (f : A → B) (l : List A) (i : ℕ) (a : A) → map f (set l i a) ≡ set (map f l) i (f a)
map_set f [] i a = refl
map_set f (b ∷ l) zero a = refl
map_set f (b ∷ l) (suc i) a = ap (λ m. f b ∷ m) (map_set f l i a)

-- what holds of every element holds after one is set
pub all_set : {A : Type 0} (P : A → Type 0) (d : A) (l : List A) (i : ℕ) (a : A) → ((j : ℕ) → P (get_or l j d)) → P a → (j : ℕ) → P (get_or (set l i a) j d)
all_set P d [] i a all p j = all j
all_set P d (b ∷ l) zero a all p zero = p
all_set P d (b ∷ l) zero a all p (suc j) = all (suc j)
all_set P d (b ∷ l) (suc i) a all p zero = all zero
all_set P d (b ∷ l) (suc i) a all p (suc j) = all_set P d l i a (λ k. all (suc k)) p j
