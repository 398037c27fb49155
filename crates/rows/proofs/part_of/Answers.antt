-- `part_of` meets its contract: the bytes that `get` finds, or none. Assumes nothing.
use Rattle.rows.proofs.Stretches.{part-got}
use Rattle.rows.proofs.part_of.Goals as goal

pub returns : goal.returns
returns c = part-got _ _ _ _ _ c.get.ensures.lookup c.unwrap_or_default.ensures
