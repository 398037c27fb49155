-- `met` meets its contract. Assumes nothing.
use mathlib.Core.Path.{refl}
use Rattle.walks.proofs.met.Goals as goal

pub returns : goal.returns
returns c = rw (c.at.ensures, c.at-2.ensures) refl
