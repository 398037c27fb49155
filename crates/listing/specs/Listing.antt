-- The pairs of a table of partners, by lower id, rising.
use Rattle.std.specs.Prelude.{ℕ, ◌-◌, ◌/◌, List, ◌++◌, length, map, replicate}
use Rattle.limits.specs.Limits.{routes, none}
use Rattle.mates.specs.Partners.{mate_of, lowers}
use Rattle.listing.specs.declared.Edge.{Edge}

-- an id and its partner
abbrev pub edge_of : List ℕ → ℕ → Edge
edge_of ps i = record { lower = i; upper = mate_of ps i }

-- the pairs by lower id, rising
unfoldable pub edges_in : List ℕ → List Edge
edges_in ps = map (edge_of ps) (lowers ps)

-- what stands where there is no pair
abbrev pub nobody : Edge
nobody = record { lower = none; upper = none }

-- pairs in a table with room for all, the rest of which holds none
unfoldable pub padded : List Edge → List Edge
padded es = es ++ replicate (routes / 2 - length es) nobody
