-- `new` meets its contract: from the first place on, all operations are still to come. Assumes nothing.
use Rattle.lent.proofs.Left.{left-all}
use Rattle.lent.proofs.Operations.new.Goals as goal

pub returns : goal.returns
returns c = left-all _
