-- `Head::acknowledge` meets its contract: the rows and the place are as the rule leaves them. Assumes nothing.
use Rattle.sending.proofs.Acknowledged.{bytes_le, acknowledges}
use Rattle.sending.proofs.Head.acknowledge.Goals as goal

pub overflow_sub-self-2 : goal.overflow_sub-self-2
overflow_sub-self-2 c = bytes_le _ _ _ _ _ _ c.requires c.acknowledge-out.ensures

pub returns : goal.returns
returns c = acknowledges _ _ _ _ _ _ c.requires c.acknowledge-out.ensures _ c.after-self.ensures
