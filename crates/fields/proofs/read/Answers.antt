-- `fields::read` meets its contract: after i fields those values are the first of the decoding. Assumes nothing.
use Rattle.std.proofs.Common.{◌≡◌, ℕ, List, get_or, refl, ap₂, ◌∙◌, arith}
use lib.ListN.{set}
use Rattle.lists.specs.Lists.{sum}
use Rattle.fields.specs.Fields.{decode}
use Rattle.fields.proofs.Joining.{sum_next}
use Rattle.fields.proofs.RoundTrip.{length_decode}
use Rattle.fields.proofs.Layouts.{field_at, decode_at, filled_more, filled_all}
use Rattle.fields.proofs.read.Goals as goal

pub loop-i-init : goal.loop-i-init
unfolding sum
loop-i-init c = record { place = refl; filled = refl }

pub field-requires : goal.field-requires
field-requires c = rw c.from-width.ensures (field_at _ _ _ _ _ c.requires c.loop-i-test.true c.loop-i.invariant.place)

pub overflow_add-at : goal.overflow_add-at
overflow_add-at c = omega (arith, (field_at _ _ _ _ _ c.requires c.loop-i-test.true c.loop-i.invariant.place).short)

pub loop-i-preserved : goal.loop-i-preserved
loop-i-preserved c =
    let ws = c.args.widths.now in
    let l = c.loop-i in
    let value : c.field.result ≡ get_or (decode ws c.args.bytes.now) l.i 0 =
    rw c.from-width.ensures at c.field.ensures ∙ decode_at ws _ _ l.at l.i c.requires (λ j. (c.type_inv.bytes j).fits) c.loop-i-test.true l.invariant.place in
    record {
      place = omega (arith, sum_next ws l.i c.loop-i-test.true);
      filled = ap₂ (λ (x : List ℕ) (v : ℕ). set x l.i v) l.invariant.filled value
          ∙ filled_more _ _ l.i (omega (arith, length_decode ws c.args.bytes.now)) (omega (arith, c.requires.each));
    }

pub returns : goal.returns
returns c =
    let ws = c.args.widths.now in
    c.loop-i.invariant.filled ∙ filled_all _ _ c.loop-i.i (omega (arith, length_decode ws c.args.bytes.now)) (omega (arith, c.requires.each))
