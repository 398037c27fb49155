-- `end_of` meets its contract: the list ends first, or the operation does. Assumes nothing.
use Rattle.std.proofs.Common.{arith}
use Rattle.lent.proofs.Ends.{end-least}
use Rattle.lent.proofs.end_of.Goals as goal

pub returns : goal.returns
returns c = end-least _ _ _ _ (omega arith)
