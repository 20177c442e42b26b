-- Words for lists: how far the first run, one entry changed, does any pass, a sum, and a list of bits as one number.
use Rattle.std.specs.Prelude.{Bool, true, false, cond, ◌||◌, List, [], ◌∷◌, ◌++◌, ℕ, zero, suc, ◌+◌, ◌*◌, drop, replicate}

-- how many stand true before the first that is false
unfoldable pub lead : List Bool → ℕ
lead [] = 0
lead (false ∷ l) = 0
lead (true ∷ l) = suc (lead l)

-- the list moved on by k: the first k go, and as many come in false
unfoldable pub slide : ℕ → List Bool → List Bool
slide k l = drop k l ++ replicate k false

-- bit i of the number is entry i
unfoldable pub pack : List Bool → ℕ
pack [] = 0
pack (b ∷ l) = cond b 1 0 + 2 * pack l

-- does one of 0, 1, …, n - 1 pass
unfoldable pub any : ℕ → (ℕ → Bool) → Bool
any zero f = false
any (suc n) f = f n || any n f

unfoldable pub sum : List ℕ → ℕ
sum [] = 0
sum (n ∷ l) = n + sum l

-- entry i changed by g
unfoldable pub update : {A : Type 0} → (A → A) → List A → ℕ → List A
update g [] i = []
update g (a ∷ l) zero = g a ∷ l
update g (a ∷ l) (suc i) = a ∷ update g l i

-- every entry of a list
unfoldable pub All : {A : Type 0} → (A → Type 0) → List A → Type 0
All P [] = Unit {0}
All P (a ∷ l) = P a × All P l
