-- `fields::write` meets its contract: after some fields their bits stand at the top of the bytes' number. Assumes nothing.
use Rattle.std.proofs.Common.{◌≡◌, length, get_or, take, refl, sym, ◌∙◌, arith, rules}
use lib.Seq.{take_all}
use Rattle.std.proofs.lemmas.Slice.Zip.{zip_turn, zip_end}
use Rattle.std.proofs.lemmas.List.{length_push}
use Rattle.lists.specs.Lists.{sum}
use Rattle.fields.specs.Fields.{joined}
use Rattle.fields.proofs.Cuts.{placed_none}
use Rattle.fields.proofs.Joining.{sum_next}
use Rattle.fields.proofs.Layouts.{field_at, joined_put, written}
use Rattle.fields.proofs.write.Goals as goal

pub loop-width-init : goal.loop-width-init
unfolding sum joined
loop-width-init c = record { place = refl; joined_are = sym (placed_none _ _ _); bytes = λ j. (c.type_inv.bytes j).fits }

pub put-requires : goal.put-requires
put-requires c =
    let l = c.loop-width in
    let t = zip_turn c.args.widths.now c.args.values.now l.yielded c.into_iter-width-iterator.result l.width-iterator c.next.new.self _ (cc) (cc) l.yielded_by _ c.in-Some.is c.next.ensures.steps in
    rw (l.auto.bytes, c.from-width.ensures, t.2 0) (field_at _ _ _ _ _ c.requires t.0 l.invariant.place)

pub overflow_add-at : goal.overflow_add-at
overflow_add-at c =
    let l = c.loop-width in
    let t = zip_turn c.args.widths.now c.args.values.now l.yielded c.into_iter-width-iterator.result l.width-iterator c.next.new.self _ (cc) (cc) l.yielded_by _ c.in-Some.is c.next.ensures.steps in
    omega (arith, t.2 0, (field_at _ _ _ _ _ c.requires t.0 l.invariant.place).short)

pub loop-width-preserved : goal.loop-width-preserved
loop-width-preserved c =
    let ws = c.args.widths.now in
    let vs = c.args.values.now in
    let l = c.loop-width in
    let i = length l.yielded in
    let t = zip_turn ws vs l.yielded c.into_iter-width-iterator.result l.width-iterator c.next.new.self _ (cc) (cc) l.yielded_by _ c.in-Some.is c.next.ensures.steps in
    let width : c.from-width.result ≡ get_or ws i 0 = c.from-width.ensures ∙ t.2 0 in
    let put_in = rw (width, t.3 0) at c.put.ensures in
    rw (length_push l.yielded (c.in-Some.width, c.in-Some.value), width) (record {
      place = omega (arith, sum_next ws i t.0);
      joined_are = joined_put ws vs c.args.bytes.now l.bytes l.at i _ t.0 l.invariant.place (field_at _ _ _ _ _ c.requires t.0 l.invariant.place).within
          l.auto.bytes l.invariant.joined_are put_in;
      bytes = λ j. (c.type_inv.bytes j).fits;
    })

pub returns : goal.returns
returns c =
    let ws = c.args.widths.now in
    let l = c.loop-width in
    let t = zip_end ws c.args.values.now l.yielded c.into_iter-width-iterator.result l.width-iterator c.next.new.self _ (cc) (cc) l.yielded_by c.in-None.is c.next.ensures.steps in
    let all : take (length l.yielded) ws ≡ ws = take_all _ ws (omega (arith, c.requires.each)) in
    written ws _ _ l.bytes c.requires.layout c.requires.enough (search rules) l.invariant.bytes l.auto.bytes (rw (l.invariant.place, all) at l.invariant.joined_are)
