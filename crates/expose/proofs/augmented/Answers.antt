-- `augmented` meets its contract: the edge, and the two walks. Assumes nothing.
use Rattle.expose.proofs.Laws.{augments}
use Rattle.expose.proofs.augmented.Goals as goal

pub returns : goal.returns
returns c = augments c.args.desk.now c.args.edge _ _ _ c.pair_up.ensures c.raise.ensures c.raise-2.ensures
