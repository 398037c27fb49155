-- `surplus_of` meets its contract: both counts are small, so the difference fits. Assumes nothing.
use Rattle.weights.proofs.Signed.{surplus-fits, surplus-read}
use Rattle.weights.proofs.surplus_of.Goals as goal

pub overflow_sub-result : goal.overflow_sub-result
overflow_sub-result c = rw (c.from.ensures, c.from-2.ensures) (surplus-fits _ _ c.requires.0 c.requires.1)

pub returns : goal.returns
returns c = rw (c.from.ensures, c.from-2.ensures) (surplus-read _ _ c.requires.0 c.requires.1)
