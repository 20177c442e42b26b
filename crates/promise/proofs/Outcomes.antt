-- What holds of an outcome whatever the rule: a refusal leaves all as it was, and an invariant goes through each test. Assumes nothing.
use mathlib.Core.Path.{◌≡◌, refl, ap}
use mathlib.Core.Bool.{Bool, true, false, cond}
use mathlib.Core.List.{[], ◌∷◌}
use Prim.Native.Nat.{ℕ}
use lib.ListN.{length}
use Rattle.promise.specs.Line.{Line}
use Rattle.promise.specs.Outcome.{Outcome, Refused, Done, Refusals, unless, left, on_paper, within}
use Rattle.promise.proofs.Refusing.{Past, through}

module _ {A S : Type 0} where
  -- "a refused call changes no record"
  pub refused_keeps : (x : S) (o : Outcome A S) (n : ℕ) → o ≡ Refused n → left x o ≡ x
  unfolding left
  refused_keeps x o n e = ap (left x) e

  -- an invariant of a record holds after an event on x
  pub record After (P : S → Type 0) (x : S) (o : Outcome A S) : Type 0 where
    pub holds : P (left x o)

  -- it does where the rule refuses, or does what keeps it
  module _ (P : S → Type 0) (x : S) where
    pub after_refused : (n : ℕ) → P x → After P x (Refused n)
    unfolding left
    after_refused n p = record { holds = p }

    pub after_done : (y : S) (a : A) → P y → After P x (Done y a)
    unfolding left
    after_done y a p = record { holds = p }

    pub after_unless : (l : Refusals) (o : Outcome A S) → P x → (Past l (length l) → After P x o) → After P x (unless l o)
    after_unless l o p h = through (After P x) l o (λ n. after_refused n p) h

    pub after_cond : (b : Bool) (o q : Outcome A S) → (b ≡ true → After P x o) → (b ≡ false → After P x q) → After P x (cond b o q)
    after_cond true o q h k = h refl
    after_cond false o q h k = k refl

-- ---- a part and the whole
module _ {A S T : Type 0} (whole : S → T) where
  pub left_within : (x : S) (o : Outcome A S) → left (whole x) (within whole o) ≡ whole (left x o)
  unfolding left within
  left_within x (Refused n) = refl
  left_within x (Done y a) = refl

  pub on_paper_within : (line : A → Line) (o : Outcome A S) → on_paper line (within whole o) ≡ on_paper line o
  unfolding on_paper within
  on_paper_within line (Refused n) = refl
  on_paper_within line (Done y a) = refl

  -- tests before a part's outcome are tests before the whole's
  pub unless_within : (l : Refusals) (o : Outcome A S) → unless l (within whole o) ≡ within whole (unless l o)
  unfolding unless within
  unless_within [] o = refl
  unless_within (t ∷ l) o = by t.0 (unless_within l o)
    where
      by : (b : Bool) → unless l (within whole o) ≡ within whole (unless l o)
          → cond b (Refused t.1) (unless l (within whole o)) ≡ within whole (cond b (Refused t.1) (unless l o))
      by true e = refl
      by false e = e

  pub after_within : (P : S → Type 0) (Q : T → Type 0) (x : S) (z : T) (o : Outcome A S)
      → After P x o → Q z → ((y : S) → P y → Q (whole y)) → After Q z (within whole o)
  unfolding left within
  after_within P Q x z (Refused n) p q h = record { holds = q }
  after_within P Q x z (Done y a) p q h = record { holds = h y p.holds }
