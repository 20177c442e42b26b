-- `call_of` is safe: eight fields of 64 bits fill a call. Assumes nothing.
use Rattle.std.proofs.Common.{◌≡◌, ℕ, zero, suc, ◌≤◌, get_or, replicate, refl, arith, rules}
use Rattle.lists.specs.Lists.{sum}
use Rattle.fields.specs.Fields.{Laid}
use Rattle.calls.proofs.call_of.Goals as goal

narrow : (m i : ℕ) → get_or (replicate m 64) i 0 ≤ 64
narrow zero i = omega arith
narrow (suc m) zero = omega arith
narrow (suc m) (suc i) = narrow m i

eight : (n : ℕ) → n ≡ 64 → Laid (replicate 8 64) n 8
unfolding sum
eight n e = record { layout = record { whole = refl; narrow = narrow 8; short = omega arith }; enough = omega arith; each = refl }

pub read-requires : goal.read-requires
read-requires c = eight _ (search rules)
