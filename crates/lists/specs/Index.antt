-- Functions of the index: sums, tallies, the first that passes, and the list of a function's values.
use Rattle.std.specs.Prelude.{◌≡◌, Bool, true, false, cond, List, [], ◌∷◌, ℕ, zero, suc, ◌+◌, ◌≤◌, ◌<◌}

-- g 0 + g 1 + … + g (n - 1)
unfoldable pub total : ℕ → (ℕ → ℕ) → ℕ
total zero g = 0
total (suc n) g = total n g + g n

-- the weights of the indices below n that pass
abbrev pub weigh : ℕ → (ℕ → Bool) → (ℕ → ℕ) → ℕ
weigh n f w = total n (λ i. cond (f i) (w i) 0)

-- how many of the indices below n pass
abbrev pub tally : ℕ → (ℕ → Bool) → ℕ
tally n f = weigh n f (λ i. 1)

-- r is the first index below n that passes, or n where none does
pub record First (f : ℕ → Bool) (n r : ℕ) : Type 0 where
  pub within : r ≤ n
  pub none : (i : ℕ) → i < r → f i ≡ false
  pub here : r < n → f r ≡ true

-- the list f 0, f 1, …, f (n - 1)
unfoldable pub table : {A : Type 0} → ℕ → (ℕ → A) → List A
table zero f = []
table (suc n) f = f zero ∷ table n (λ i. f (suc i))
