-- `no_members` meets its contract. Assumes nothing.
use mathlib.Core.Path.{refl}
use Rattle.report.specs.Start.{empty_set}
use Rattle.report.proofs.no_members.Goals as goal

pub returns : goal.returns
unfolding empty_set
returns c = refl
