-- What a test's outcome tells: of each of two tests joined, of a choice's other side, of a test that cannot pass. By the cases of the
-- test. Assumes nothing.
use mathlib.Core.Path.{◌≡◌, refl}
use mathlib.Core.Bool.{Bool, true, false, cond, ◌&&◌, ◌||◌}

pub and_true_each : (a b : Bool) → (a && b) ≡ true → (a ≡ true) × (b ≡ true)
and_true_each true b e = (refl, e)
and_true_each false b e = (e, cc)

pub or_false_each : (a b : Bool) → (a || b) ≡ false → (a ≡ false) × (b ≡ false)
or_false_each false b e = (refl, e)
or_false_each true b e = (e, cc)

pub never_true : (b : Bool) → (b ≡ true → ⊥) → b ≡ false
never_true true h = absurd (h refl)
never_true false h = refl

-- a choice that is not its first side is its second
pub passed : {A : Type 0} {a o z : A} (b : Bool) → (a ≡ z → ⊥) → cond b a o ≡ z → (b ≡ false) × (o ≡ z)
passed true other h = absurd (other h)
passed false other h = (refl, h)
