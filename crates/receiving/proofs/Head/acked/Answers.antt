-- `Head::acked` meets its contract: the head with the new count, and its SACK. Assumes nothing.
use Rattle.std.proofs.Common.{refl}
use Rattle.receiving.specs.Lent.{lent}
use Rattle.receiving.proofs.Counting.{with_count_started, with_count_means}
use Rattle.receiving.proofs.Head.acked.Goals as goal

pub returns : goal.returns
returns c =
    let x = lent c.args.self c.args.words.now in
    let means = with_count_means x _ c.args.a refl in
    record { started = with_count_started x _ c.requires; counted_is = means; answer_is = cc }
