-- `improve_twice` meets its contract: the two-call law. Assumes nothing.
use Rattle.twice.proofs.Two.{two-calls}
use Rattle.twice.proofs.improve_twice.Goals as goal

pub returns : goal.returns
returns c = two-calls _ _ _ _ _ _ _ _ _ _ _ _ _ _ _ c.requires.0 c.requires.1 c.wisharek_improve.ensures c.wisharek_improve-2.ensures
