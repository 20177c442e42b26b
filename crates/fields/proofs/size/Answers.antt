-- `fields::size` meets its contract: the words' sum and the library's are one. Assumes nothing.
use Rattle.std.proofs.Common.{◌≡◌, ◌^◌, ◌<◌, ℕ, List, refl, arith, rules}
use Rattle.std.specs.List.{sum_by}
use Rattle.std.proofs.lemmas.List.Recursion.{is_sum_by}
use Rattle.lists.specs.Lists.{sum}
use Rattle.fields.proofs.size.Goals as goal

sum_is : (ws : List ℕ) → sum ws ≡ sum_by (λ x. x) ws
unfolding sum
sum_is = is_sum_by sum (λ x. x) refl (λ _ _. refl)

pub sum-bits-requires-clause-fits : goal.sum-bits-requires-clause-fits
sum-bits-requires-clause-fits c =
    let fits : sum_by (λ x. x) c.args.widths.now < 2 ^ 64 = omega (arith, sum_is c.args.widths.now) in
    search rules

pub returns : goal.returns
returns c =
    let total : c.sum-bits.result ≡ sum_by (λ x. x) c.args.widths.now = search rules in
    rw (total, sum_is c.args.widths.now)
