-- The sizes of the packets sent: what is sent later changes none of them. Assumes nothing.
use mathlib.Core.Path.{◌≡◌, refl, ap, ◌∙◌}
use mathlib.Core.Bool.{true}
use mathlib.Core.List.{List, [], ◌∷◌}
use Prim.Native.Nat.{ℕ, ◌<◌}
use native.Mathlib.Omega.{arith}
use native.Mathlib.Decide.{ℕ_discrete}
use lib.ListN.{length}
use borrow.Author.Tests.{eq-eqb, ne_eqb}
use Rattle.rules.specs.Numbers.{size_ok}
use Rattle.lists.specs.Lists.{All}
use Rattle.delivery.specs.Network.{size_of}

-- every packet sent has a good size
abbrev pub Sizes : List ℕ → Type 0
Sizes l = All (λ z. size_ok z ≡ true) l

pub size_of_older : (z : ℕ) (l : List ℕ) (i : ℕ) → i < length l → size_of (z ∷ l) i ≡ size_of l i
unfolding size_of
size_of_older z l i h = rw (ne_eqb (length l) i (omega arith))

pub size_of_newest : (z : ℕ) (l : List ℕ) → size_of (z ∷ l) (length l) ≡ z
unfolding size_of
size_of_newest z l = rw (eq-eqb (length l) (length l) refl)

-- the sizes sent are good
pub size_sent : (l : List ℕ) (i : ℕ) → Sizes l → i < length l → size_ok (size_of l i) ≡ true
unfolding All
size_sent [] i k h = absurd (omega arith)
size_sent (z ∷ l) i k h = elim (ℕ_discrete i (length l)) [
  | yes e ↦ ap (λ (j : ℕ). size_ok (size_of (z ∷ l) j)) e ∙ ap size_ok (size_of_newest z l) ∙ k.0
  | no e ↦ ap size_ok (size_of_older z l i (omega arith)) ∙ size_sent l i k.1 (omega arith)
]
