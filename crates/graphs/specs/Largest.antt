-- The largest size of a pairing. Assumes nothing.
use Rattle.std.specs.Prelude.{◌≡◌, ℕ, ◌≤◌}
use Rattle.graphs.specs.Graph.{Graph}
use Rattle.graphs.specs.Pairing.{Pairing, pairs}

-- some pairing of the graph has m pairs, and none has more
pub record Largest (g : Graph) (m : ℕ) : Type 0 where
  pub mate : ℕ → ℕ
  pub pairing : Pairing g mate
  pub reached : pairs g mate ≡ m
  pub most : (other : ℕ → ℕ) → Pairing g other → pairs g other ≤ m
