-- `is_paired` meets its contract. Assumes nothing.
use mathlib.Core.Path.{ap}
use Prim.Native.Nat.{ℕ}
use lib.Dec.{ltb}
use Rattle.limits.specs.Limits.{routes}
use Rattle.mates.proofs.is_paired.Goals as goal

pub returns : goal.returns
returns c = ap (λ (m : ℕ). ltb m routes) c.partner_of.ensures
