-- `Head::sack` meets its contract, value by value; the block is where the branch put it. Assumes nothing.
use Rattle.std.proofs.Common.{◌≡◌, ◌*◌, ◌/◌, cond, ltb, arith}
use Rattle.std.proofs.lemmas.Bool.Decides.{nat_tests}
use Rattle.rules.specs.Receiver.{sack_of}
use Rattle.receiving.specs.Lent.{lent, meaning}
use Rattle.receiving.proofs.Blocks.{block_is}
use Rattle.receiving.proofs.Head.sack.Goals as goal

pub returns : goal.returns
unfolding sack_of meaning
returns c =
    let d = c.distance-d.result in
    let begins : c.if-d-self.o ≡ cond (ltb d c.args.self.now.room) (64 * (d / 64)) 0 = grind (arith, nat_tests) in
    let block =
    block_is (lent c.args.self.now c.args.words.now) c.requires c.args.a.psn.0 d c.if-d-self.o c.distance-d.ensures begins c.after-2.result
    c.block.result c.after-2.ensures c.block.type_inv c.block.ensures in
    let cack = c.after.ensures in
    let rtx = c.flag.ensures in
    let mark = c.flag-2.ensures in
    λ i. record {
      cack = record { 0 = cack i };
      block = block i;
      count = c.args.self.now.count / 256;
      mpr = 0;
      entropy = c.args.a.entropy;
      rtx = rtx i;
      mark = mark i;
    }
