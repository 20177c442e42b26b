-- `retire::acknowledge` meets its contract: a SACK that names nothing moves nothing, and else the rows are retired up to where cack reaches and by
-- the block, run and shed. Assumes nothing.
use mathlib.Core.Path.{◌≡◌, sym, ap, subst, ◌∙◌}
use Prim.Native.Nat.{ℕ, ◌≤◌}
use native.Mathlib.Omega.{arith}
use borrow.Author.Rules.{rules}
use Rattle.psn.specs.Psn.{after, distance}
use Rattle.retire.specs.Rows.{nothing, Retires}
use Rattle.retire.specs.Front.{row_first, named_by, Moves}
use Rattle.retire.proofs.Front.{reaches, reaches_none, at_reach, at_place, moves, nothing_moves}
use Rattle.retire.proofs.acknowledge.Goals.{After-retire-sum, then-ahead-n, else-ahead-n}
use Rattle.retire.proofs.acknowledge.Goals as goal

-- where cack lies, from place + 1
index_is : (place next cack i : ℕ) → i ≡ distance next cack → next ≡ after place 1 → i ≡ distance (after place 1) cack
index_is place next cack i e next_is = e ∙ ap (λ (p : ℕ). distance p cack) next_is

-- the rows once they are retired
rows : (c : After-retire-sum) → let a = c.args in
    Retires a.retired.now a.marked.now a.sizes.now (row_first a.place.0) (named_by a.place.0 a.n a.cack.0 a.block)
    c.retire-sum.new.retired c.retire-sum.new.marked c.retire-sum.result
rows c =
    let a = c.args in
    let i_is = index_is a.place.0 _ a.cack.0 _ c.distance-ahead.ensures c.after.ensures in
    elim c.if-ahead-n.branch [
      | then-ahead-n w ↦
          at_reach _ _ _ a.place.0 a.n a.cack.0 a.block _ _ _ _ c.if-ahead-n.upto c.after-2.ensures c.retire-sum.ensures _
          (w.upto-is ∙ sym (reaches a.place.0 a.n a.cack.0 c.distance-ahead.result i_is c.requires.few w.if-ahead-n.true))
      | else-ahead-n w ↦
          at_place _ _ _ a.place.0 a.n a.cack.0 a.block _ _ _ _ c.if-ahead-n.upto c.after-2.ensures c.retire-sum.ensures c.requires w.upto-is
          (reaches_none a.place.0 a.n a.cack.0 c.distance-ahead.result i_is c.requires.few w.if-ahead-n.false)
    ]

pub returns-then-block-eq0 : goal.returns-then-block-eq0
returns-then-block-eq0 c =
    let a = c.args in
    let past : a.n ≤ c.distance-ahead.result =
    elim c.if-ahead-n.branch [ then-ahead-n w ↦ absurd (omega (arith, w.upto-is)) | else-ahead-n w ↦ w.if-ahead-n.false ] in
    let nothing_is : c.default.result ≡ record { sum = nothing; by = 0 } = search rules in
    let f = named_by a.place.0 a.n a.cack.0 a.block in
    subst (Moves a.retired.now a.marked.now a.sizes.now a.place.0 a.n f a.retired.now a.marked.now) (sym nothing_is)
    (nothing_moves a.retired.now a.marked.now a.sizes.now a.place.0 a.n a.cack.0 a.block c.requires c.if-block-eq0.true
    (reaches_none a.place.0 a.n a.cack.0 c.distance-ahead.result (index_is a.place.0 _ a.cack.0 _ c.distance-ahead.ensures c.after.ensures)
    c.requires.few past))

pub returns : goal.returns
returns c =
    moves _ _ _ _ _ _ c.requires _ _ _ (rows (goal.at.returns c).After-retire-sum) _ c.run_from-t.ensures c.shed.new.ws c.shed-2.new.ws
    c.shed.ensures c.shed-2.ensures
