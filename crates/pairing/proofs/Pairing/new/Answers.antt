-- `new` meets its contract: nobody has a partner, so the count is 0. Assumes nothing.
use Rattle.limits.specs.Limits.{routes, none}
use mathlib.Core.Path.{refl}
use lib.ListN.{get_or-replicate}
use Rattle.mates.specs.Partners.{fresh}
use Rattle.mates.proofs.Sound.{fresh-count}
use Rattle.pairing.proofs.Pairing.new.Goals as goal

pub returns : goal.returns
unfolding fresh
returns c = record { whole = rw fresh-count refl; every = λ i l. get_or-replicate routes i none 0 l; nobody = refl }
