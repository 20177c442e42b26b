-- `retire::unsent` meets its contract: an index below what is outstanding is sent, and any other is ahead or behind. Assumes nothing.
use mathlib.Core.Path.{◌≡◌, sym, ap, ◌∙◌}
use mathlib.Core.Bool.{not}
use Prim.Native.Nat.{ℕ}
use native.Mathlib.Omega.{arith}
use lib.Dec.{leb}
use borrow.Author.Tests.{lt-leb}
use Rattle.psn.specs.Psn.{half, after, distance}
use Rattle.word.proofs.Compare.{leb_not}
use Rattle.retire.proofs.Judged.{is_sent, is_past}
use Rattle.retire.proofs.unsent.Goals.{After-distance-i}
use Rattle.retire.proofs.unsent.Goals as goal

-- the index that is compared
index_is : (c : After-distance-i) → c.distance-i.result ≡ distance (after c.args.place.0 1) c.args.psn.0
index_is c = c.distance-i.ensures ∙ ap (λ (a : ℕ). distance a c.args.psn.0) c.after.ensures

pub returns-then-n-i : goal.returns-then-n-i
returns-then-n-i c = λ x h.
    let i = c.distance-i.result in
    let e = index_is (goal.at.returns-then-n-i c).After-distance-i in
    sym (is_past x c.args.place.0 c.args.n h c.args.psn.0 (omega (arith, e)) ∙ ap (λ (j : ℕ). not (leb half j)) (sym e) ∙ leb_not half i)

pub returns-else-n-i : goal.returns-else-n-i
returns-else-n-i c = λ x h.
    let e = index_is (goal.at.returns-else-n-i c).After-distance-i in
    lt-leb c.args.n c.distance-i.result (omega arith) ∙ sym (is_sent x c.args.place.0 c.args.n h c.args.psn.0 (omega (arith, e)))
