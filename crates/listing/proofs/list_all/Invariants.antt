use mathlib.Core.Path.{◌≡◌}
use mathlib.Core.List.{map}
use Rattle.mates.specs.Partners.{is_lower, rising}
use Rattle.listing.specs.Listing.{edge_of}
use Rattle.listing.proofs.list_all.Given as goal

abbrev pub invariant-loop-lower : goal.invariant-loop-lower
invariant-loop-lower l = l.edges ≡ map (edge_of l.t) (rising l.lower (is_lower l.t))
