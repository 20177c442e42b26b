-- A number that was tried as a kind's: which are, and what the kind tells of the number. Assumes nothing.
use mathlib.Core.Path.{◌≡◌, refl, ap, ◌∙◌}
use mathlib.Core.Bool.{Bool, true, false, cond}
use Prim.Native.Nat.{ℕ, zero, suc, ◌≤◌, ◌<◌}
use native.Mathlib.Omega.{arith}
use borrow.Author.Tests.{leb-true, ltb-true}
use lib.Dec.{leb, ltb}
use Rattle.std.specs.Prelude.{Ok, Err}
use Rattle.lists.proofs.Joined.{and_true_each}
use Rattle.rules.specs.Numbered.{kind_number, kind_of_number}
use Rattle.rules.specs.Kinds.{layouts, kind_ok}
use Rattle.rules.specs.declared.Kind.{Kind}
use Rattle.rules.specs.declared.Refusal.TheVariants.{UnknownKind}

of_ok : {A E : Type 0} {a b : A} (e : E) (t : Bool) → Ok a ≡ cond t (Ok b) (Err e) → (t ≡ true) × (a ≡ b)
of_ok e true h = (refl, cc)
of_ok e false h = absurd cc

-- the numbers that are a kind's
pub kind_within : (n : ℕ) → kind_ok n ≡ true → (1 ≤ n) × (n < 9)
unfolding layouts
kind_within n h = let each = and_true_each (leb 1 n) (ltb n 9) h in (leb-true 1 n each.0, ltb-true n 9 each.1)

pub kind_forth : (n : ℕ) → kind_ok n ≡ true → kind_number (kind_of_number n) ≡ n
unfolding kind_of_number kind_number
kind_forth zero h = let w = kind_within zero h in absurd (omega arith)
kind_forth (suc zero) h = refl
kind_forth (suc (suc zero)) h = refl
kind_forth (suc (suc (suc zero))) h = refl
kind_forth (suc (suc (suc (suc zero)))) h = refl
kind_forth (suc (suc (suc (suc (suc zero))))) h = refl
kind_forth (suc (suc (suc (suc (suc (suc zero)))))) h = refl
kind_forth (suc (suc (suc (suc (suc (suc (suc zero))))))) h = refl
kind_forth (suc (suc (suc (suc (suc (suc (suc (suc zero)))))))) h = refl
kind_forth (suc (suc (suc (suc (suc (suc (suc (suc (suc n))))))))) h = let w = kind_within _ h in absurd (omega arith)

-- what `Kind::try_from` gave
pub kind_known : (n : ℕ) (k : Kind) → Ok k ≡ cond (kind_ok n) (Ok (kind_of_number n)) (Err UnknownKind) → (kind_ok n ≡ true) × (kind_number k ≡ n)
kind_known n k h = let t = of_ok UnknownKind (kind_ok n) h in (t.0, ap kind_number t.1 ∙ kind_forth n t.0)
