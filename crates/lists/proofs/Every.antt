-- What a test finds of each entry of a list and of the default holds at every index. Assumes nothing.
use mathlib.Core.Path.{◌≡◌}
use mathlib.Core.Bool.{Bool, true, ◌&&◌}
use mathlib.Core.List.{List, [], ◌∷◌}
use Prim.Native.Nat.{ℕ, zero, suc}
use lib.ListN.{get_or}
use Rattle.lists.proofs.Joined.{and_true_each}

unfoldable pub every : {A : Type 0} → (A → Bool) → List A → Bool
every f [] = true
every f (a ∷ l) = f a && every f l

pub every_at : {A : Type 0} (f : A → Bool) (l : List A) (d : A) → every f l ≡ true → f d ≡ true → (i : ℕ) → f (get_or l i d) ≡ true
unfolding every
every_at f [] d h e i = e
every_at f (a ∷ l) d h e zero = (and_true_each (f a) (every f l) h).0
every_at f (a ∷ l) d h e (suc i) = every_at f l d (and_true_each (f a) (every f l) h).1 e i
