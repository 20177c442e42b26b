-- Sets of packet numbers: one more in a set, and those of a set below a number. Assumes nothing.
use mathlib.Core.Path.{◌≡◌, sym, ap, ◌∙◌}
use mathlib.Core.Bool.{Bool, true, false, ◌&&◌, ◌||◌, false≢true, or-true}
use mathlib.Core.Logic.{◌≢◌}
use Prim.Native.Nat.{ℕ, suc, ◌≤◌, ◌<◌}
use native.Mathlib.Omega.{arith}
use native.Mathlib.Decide.{ℕ_discrete, dec_lt}
use lib.Dec.{ltb, eqb}
use borrow.Author.Tests.{eq-eqb, ne_eqb, lt-ltb, le-ltb}

unfoldable pub all : ℕ → Bool
all j = true

-- ---- i and the set A
unfoldable pub plus : ℕ → (ℕ → Bool) → ℕ → Bool
plus i A j = eqb i j || A j

pub plus_same : (i j : ℕ) (A : ℕ → Bool) → i ≡ j → plus i A j ≡ true
unfolding plus
plus_same i j A e = rw (eq-eqb i j e)

pub plus_other : (i j : ℕ) (A : ℕ → Bool) → i ≢ j → plus i A j ≡ A j
unfolding plus
plus_other i j A e = rw (ne_eqb i j e)

pub plus_more : (i j : ℕ) (A : ℕ → Bool) → A j ≡ true → plus i A j ≡ true
unfolding plus
plus_more i j A e = rw e (or-true (eqb i j))

-- ---- the first that is not in a set
pub record Missing (A : ℕ → Bool) (a : ℕ) : Type 0 where
  pub below : (i : ℕ) → i < a → A i ≡ true
  pub first : A a ≡ false

pub at_most : {A : ℕ → Bool} {a : ℕ} → Missing A a → (n : ℕ) → A n ≡ false → a ≤ n
at_most {A} {a} M n out = elim (dec_lt n a) [ yes p ↦ absurd (false≢true (sym out ∙ M.below n p)) | no p ↦ omega arith ]

pub at_least : {A : ℕ → Bool} {a : ℕ} → Missing A a → (n : ℕ) → ((i : ℕ) → i < n → A i ≡ true) → n ≤ a
at_least {A} {a} M n within = elim (dec_lt a n) [ yes p ↦ absurd (false≢true (sym M.first ∙ within a p)) | no p ↦ omega arith ]

pub only_one : {A : ℕ → Bool} {a b : ℕ} → Missing A a → Missing A b → a ≡ b
only_one {A} {a} {b} M N = omega (arith, at_most M b N.first, at_least M b N.below)

-- ---- those of A below n
unfoldable pub only : ℕ → (ℕ → Bool) → ℕ → Bool
only n A j = ltb j n && A j

module _ (n : ℕ) (A : ℕ → Bool) (j : ℕ) where
  pub only_in : j < n → only n A j ≡ A j
  unfolding only
  only_in h = rw (lt-ltb j n h)

  pub only_out : n ≤ j → only n A j ≡ false
  unfolding only
  only_out h = rw (le-ltb j n h)

-- n + 1 of them
module _ (n : ℕ) (A : ℕ → Bool) (j : ℕ) where
  other : n ≢ j → only n A j ≡ only (suc n) A j
  other e = elim (dec_lt j n) [
    | yes p ↦ only_in n A j p ∙ sym (only_in (suc n) A j (omega arith))
    | no p ↦ only_out n A j (omega arith) ∙ sym (only_out (suc n) A j (omega arith))
  ]

  pub only_plus : A n ≡ true → plus n (only n A) j ≡ only (suc n) A j
  only_plus a = elim (ℕ_discrete n j) [
    | yes e ↦ plus_same n j (only n A) e ∙ sym a ∙ ap A e ∙ sym (only_in (suc n) A j (omega arith))
    | no e ↦ plus_other n j (only n A) e ∙ other e
  ]

  pub only_skip : A n ≡ false → only n A j ≡ only (suc n) A j
  only_skip a = elim (ℕ_discrete n j) [
    | yes e ↦ only_out n A j (omega arith) ∙ sym a ∙ ap A e ∙ sym (only_in (suc n) A j (omega arith))
    | no e ↦ other e
  ]
