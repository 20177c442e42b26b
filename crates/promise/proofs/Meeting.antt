-- How a promise is met: by a refusal that leaves the record as it was, by doing what the rule does, or by what a part of the record does.
-- Assumes nothing.
use mathlib.Core.Path.{◌≡◌, refl, sym, ap, ◌∙◌, subst}
use mathlib.Core.Bool.{true}
use Prim.Native.Nat.{ℕ}
use native.Mathlib.Omega.{arith}
use lib.ListN.{length}
use Rattle.std.specs.Prelude.{Result, Ok, Err}
use Rattle.promise.specs.Line.{Line, refused}
use Rattle.promise.specs.Outcome.{Outcome, Refused, Done, Refusals, unless, left, on_paper, within}
use Rattle.promise.specs.Promise.{told, Meets}
use Rattle.promise.proofs.Refusing.{Past, test, number, refused_at, none_left}
use Rattle.promise.proofs.Outcomes.{left_within, on_paper_within}

-- what is done is not refused
pub never_both : {A S : Type 0} (o : Outcome A S) (s : S) (b : A) (n : ℕ) → o ≡ Done s b → o ≡ Refused n → ⊥
never_both o s b n e h = let z : ◌≡◌ {A = ℕ} 0 1 = cc in omega arith

module _ {A E R S : Type 0} {line : A → Line} {number_of : E → ℕ} {Sound : R → Type 0} {meaning : R → S} {x : R} {r : Result A E} {y : R} where
  pub refuses : {o : Outcome A S} (n : ℕ) → o ≡ Refused n → told line number_of r ≡ refused n → y ≡ x → Sound x
      → Meets line number_of Sound meaning x o r y
  unfolding left on_paper
  refuses n e f g s = record {
    answer_is = f ∙ sym (ap (on_paper line) e);
    record_is = ap meaning g ∙ sym (ap (left (meaning x)) e);
    untouched = λ m h. g;
    sound = subst Sound (sym g) s;
  }

  -- an early return: the i-th of the rule's tests passes, and those before it did not
  pub returns_at : {o : Outcome A S} (l : Refusals) (d : Outcome A S) → o ≡ unless l d → (i : ℕ) → Past l i → test l i ≡ true
      → (e : E) → r ≡ Err e → number_of e ≡ number l i → y ≡ x → Sound x → Meets line number_of Sound meaning x o r y
  unfolding told
  returns_at l d e i p t b f g = refuses (number l i) (e ∙ refused_at l d i p t) (ap (told line number_of) f ∙ ap refused g)

  -- the last return: no test is left, and what the rule does is done
  pub passes : {o : Outcome A S} (l : Refusals) (d : Outcome A S) → o ≡ unless l d → Past l (length l)
      → Meets line number_of Sound meaning x d r y → Meets line number_of Sound meaning x o r y
  passes l d e p = subst (λ (o : Outcome A S). Meets line number_of Sound meaning x o r y) (sym (e ∙ none_left l d p))

  pub does : {o : Outcome A S} (s : S) (b : A) → o ≡ Done s b → r ≡ Ok b → meaning y ≡ s → Sound y → Meets line number_of Sound meaning x o r y
  unfolding left on_paper told
  does {o} s b e f g k = record {
    answer_is = ap (told line number_of) f ∙ sym (ap (on_paper line) e);
    record_is = g ∙ sym (ap (left (meaning x)) e);
    untouched = λ n h. absurd (never_both o s b n e h);
    sound = k;
  }

-- a refusal of the whole is one of the part
pub within_refused : {A S T : Type 0} (whole : S → T) (o : Outcome A S) (n : ℕ) → within whole o ≡ Refused n → o ≡ Refused n
unfolding within
within_refused whole (Refused m) n h = ap Refused (let same : m ≡ n = cc in same)
within_refused whole (Done s b) n h = absurd (never_both (Done (whole s) b) (whole s) b n refl h)

-- An event on a part p of the record x: `put y` is x with y in its place, and `whole` says the same of what the records mean.
pub part : {A E P Q R S : Type 0} {line : A → Line} {number_of : E → ℕ} {SoundP : P → Type 0} {meaningP : P → Q} {Sound : R → Type 0} {meaning : R → S}
    (put : P → R) (whole : Q → S) (x : R) (p : P) (o : Outcome A Q) (r : Result A E) (y : P)
    → put p ≡ x → ((q : P) → meaning (put q) ≡ whole (meaningP q)) → Meets line number_of SoundP meaningP p o r y → Sound (put y)
    → Meets line number_of Sound meaning x (within whole o) r (put y)
part {line = line} {meaningP = meaningP} {meaning = meaning} put whole x p o r y same means m sound = record {
  answer_is = m.answer_is ∙ sym (on_paper_within whole line o);
  record_is = means y ∙ ap whole m.record_is ∙ sym (left_within whole (meaningP p) o)
      ∙ ap (λ s. left s (within whole o)) (sym (means p) ∙ ap meaning same);
  untouched = λ n h. ap put (m.untouched n (within_refused whole o n h)) ∙ same;
  sound = sound;
}
