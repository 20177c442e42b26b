-- `Head::accept` meets its contract: the words after each call, by what the calls ensure, and the laws of accepting. Assumes nothing.
use Rattle.std.proofs.Common.{◌<◌, arith}
use Rattle.rules.proofs.Allowed.{room_numbers}
use Rattle.receiving.specs.Lent.{lent}
use Rattle.receiving.proofs.Entries.{fresh_within}
use Rattle.receiving.proofs.Accepting.{accept_started, accept_means}
use Rattle.receiving.proofs.Head.accept.Goals as goal

pub overflow_add-s : goal.overflow_add-s
overflow_add-s c =
    let x = lent c.args.self c.args.words.now in
    omega (arith, fresh_within x c.args.a c.requires.1, room_numbers x.head.room c.requires.0.room_good)

pub overflow_add-s-2 : goal.overflow_add-s-2
overflow_add-s-2 c = omega (arith, room_numbers c.args.self.room c.requires.0.room_good)

pub returns : goal.returns
returns c =
    let x = lent c.args.self c.args.words.now in
    let h = c.requires.0 in
    let l : c.distance-d.result < x.head.room = omega (arith, fresh_within x c.args.a c.requires.1) in
    record {
      started =
          accept_started x h c.distance-d.result l c.set.new.ws c.set.ensures c.run_from-t.result c.run_from-t.ensures c.shed.new.ws
          c.shed.ensures c.after.result c.after.ensures;
      accepted_is =
          accept_means x h c.distance-d.result l c.set.new.ws c.set.ensures c.run_from-t.result c.run_from-t.ensures c.shed.new.ws
          c.shed.ensures c.after.result c.after.ensures c.args.a c.distance-d.ensures;
    }
