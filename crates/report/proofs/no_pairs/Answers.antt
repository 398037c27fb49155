-- `no_pairs` meets its contract. Assumes nothing.
use mathlib.Core.Path.{refl}
use Rattle.report.specs.Start.{unpaired_start}
use Rattle.report.proofs.no_pairs.Goals as goal

pub returns : goal.returns
unfolding unpaired_start
returns c = refl
