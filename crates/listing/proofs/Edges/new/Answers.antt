-- No pairs: the table holds none alone. Assumes nothing.
use mathlib.Core.Path.{refl}
use native.Mathlib.Omega.{arith}
use Rattle.listing.proofs.Padded.{none-padded}
use Rattle.listing.proofs.Edges.new.Goals as goal

pub invariant_of-result : goal.invariant_of-result
invariant_of-result c = (omega arith, refl, none-padded)
