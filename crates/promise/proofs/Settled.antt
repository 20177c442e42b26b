-- What `Meets` allows is settled where lines tell apart what an engine may give: two results with one line are one, and two records mean what
-- the rule leaves. Assumes nothing.
use mathlib.Core.Path.{◌≡◌, sym, ◌∙◌}
use Prim.Native.Nat.{ℕ}
use Rattle.std.specs.Prelude.{Result}
use Rattle.promise.specs.Line.{Line}
use Rattle.promise.specs.Outcome.{Outcome}
use Rattle.promise.specs.Promise.{told, Meets}

-- two of them with the same line are one
abbrev pub Apart : {A : Type 0} → (A → Line) → Type 0
Apart {A} line = (a b : A) → line a ≡ line b → a ≡ b

module _ {A E R S : Type 0} {line : A → Line} {number : E → ℕ} (apart : Apart (told line number)) {Sound : R → Type 0} {meaning : R → S} {x : R} {o : Outcome A S} where
  -- any two outcomes that the promise allows are equal, the records by what document 01 lists
  pub settled : (r q : Result A E) (y z : R) → Meets line number Sound meaning x o r y → Meets line number Sound meaning x o q z
      → (r ≡ q) × (meaning y ≡ meaning z)
  settled r q y z m n = (apart r q (m.answer_is ∙ sym n.answer_is), m.record_is ∙ sym n.record_is)
