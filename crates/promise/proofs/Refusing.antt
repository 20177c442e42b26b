-- From a function's early returns to its rule's list of refusals: the tests before the i-th were passed by, one after the other, and the
-- i-th refuses, or none is left. By the list. Assumes nothing.
use mathlib.Core.Path.{◌≡◌, refl, ap}
use mathlib.Core.Bool.{Bool, true, false, cond}
use mathlib.Core.List.{[], ◌∷◌, ◌++◌}
use mathlib.Core.Logic.{◌⊎◌, inl, inr}
use Prim.Native.Nat.{ℕ, zero, suc}
use lib.ListN.{length}
use Rattle.promise.specs.Line.{Line}
use Rattle.promise.specs.Outcome.{Outcome, Refused, Refusals, unless, first_of, on_paper}

-- whether the i-th test passes, and the number of its refusal
unfoldable pub test : Refusals → ℕ → Bool
test [] i = false
test (r ∷ l) zero = r.0
test (r ∷ l) (suc i) = test l i

unfoldable pub number : Refusals → ℕ → ℕ
number [] i = 0
number (r ∷ l) zero = r.1
number (r ∷ l) (suc i) = number l i

-- none of the first i passes
unfoldable pub Past : Refusals → ℕ → Type 0
Past l zero = Unit {0}
Past [] (suc i) = Unit {0}
Past (r ∷ l) (suc i) = (r.0 ≡ false) × Past l i

-- the number of each that passes has a property
unfoldable pub Each : (ℕ → Type 0) → Refusals → Type 0
Each P [] = Unit {0}
Each P (r ∷ l) = (r.0 ≡ true → P r.1) × Each P l

-- one more is passed by
pub past : (l : Refusals) (i : ℕ) → Past l i → test l i ≡ false → Past l (suc i)
unfolding Past test
past [] i p e = tt
past (r ∷ l) zero p e = (e, tt)
past (r ∷ l) (suc i) p e = (p.0, past l i p.1 e)

module _ {A S : Type 0} where
  -- the i-th refuses
  pub refused_at : (l : Refusals) (o : Outcome A S) (i : ℕ) → Past l i → test l i ≡ true → unless l o ≡ Refused (number l i)
  unfolding Past test number unless
  refused_at [] o i p e = cc
  refused_at (r ∷ l) o zero p e = rw e
  refused_at (r ∷ l) o (suc i) p e = rw p.0 (refused_at l o i p.1 e)

  -- none is left
  pub none_left : (l : Refusals) (o : Outcome A S) → Past l (length l) → unless l o ≡ o
  unfolding Past unless
  none_left [] o p = refl
  none_left (r ∷ l) o p = rw p.0 (none_left l o p.1)

  -- a property of an outcome, by the tests
  pub through : (P : Outcome A S → Type 0) (l : Refusals) (o : Outcome A S) → ((n : ℕ) → P (Refused n)) → (Past l (length l) → P o) → P (unless l o)
  unfolding Past unless
  through P [] o r h = h tt
  through P (t ∷ l) o r h = by t.0 (r t.1) (λ e. through P l o r (λ p. h (e, p)))
    where
      by : (b : Bool) → P (Refused t.1) → (b ≡ false → P (unless l o)) → P (cond b (Refused t.1) (unless l o))
      by true p q = p
      by false p q = q refl

  -- the same, by the numbers of those tests alone that pass
  pub through_each : (P : Outcome A S → Type 0) (l : Refusals) (o : Outcome A S) → Each (λ n. P (Refused n)) l → P o → P (unless l o)
  unfolding Each unless
  through_each P [] o r h = h
  through_each P (t ∷ l) o r h = by t.0 r.0 (through_each P l o r.1 h)
    where
      by : (b : Bool) → (b ≡ true → P (Refused t.1)) → P (unless l o) → P (cond b (Refused t.1) (unless l o))
      by true p q = p refl
      by false p q = q

  -- two lists one after the other are one
  pub unless_both : (l m : Refusals) (o : Outcome A S) → unless (l ++ m) o ≡ unless l (unless m o)
  unfolding unless
  unless_both [] m o = refl
  unless_both (t ∷ l) m o = ap (cond t.0 (Refused t.1)) (unless_both l m o)

  -- one of the tests refuses, or what is done otherwise is done
  pub refused_or : (l : Refusals) (o : Outcome A S) → ((n : ℕ) × (unless l o ≡ Refused n)) ⊎ (unless l o ≡ o)
  unfolding unless
  refused_or [] o = inr refl
  refused_or (t ∷ l) o = by t.0 (refused_or l o)
    where
      by : (b : Bool) → ((n : ℕ) × (unless l o ≡ Refused n)) ⊎ (unless l o ≡ o)
          → ((n : ℕ) × (cond b (Refused t.1) (unless l o) ≡ Refused n)) ⊎ (cond b (Refused t.1) (unless l o) ≡ o)
      by true h = inl (t.1, refl)
      by false h = h

  -- the number on paper is that of the first whose test passes, where what is done otherwise has none
  pub first_refuses : (line : A → Line) (l : Refusals) (o : Outcome A S) → (on_paper line o).number ≡ 0 → (on_paper line (unless l o)).number ≡ first_of l
  unfolding unless first_of on_paper
  first_refuses line [] o h = h
  first_refuses line (t ∷ l) o h = by t.0 (first_refuses line l o h)
    where
      by : (b : Bool) → (on_paper line (unless l o)).number ≡ first_of l
          → (on_paper line (cond b (Refused t.1) (unless l o))).number ≡ cond b t.1 (first_of l)
      by true e = refl
      by false e = e
