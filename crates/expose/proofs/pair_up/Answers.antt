-- `pair_up` meets its contract. Assumes nothing.
use Rattle.expose.proofs.Laws.{paired}
use Rattle.expose.proofs.pair_up.Goals as goal

pub returns : goal.returns
returns c = paired _ _ _ _ _ c.put.ensures c.put-2.ensures
