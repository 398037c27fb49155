-- A pairing: for each route its partner, or a number that is no route. Assumes nothing.
use Rattle.std.specs.Prelude.{◌≡◌, Bool, true, not, ◌&&◌, ℕ, ◌-◌, ◌<◌, ltb}
use Rattle.graphs.specs.Count.{count}
use Rattle.graphs.specs.Graph.{Graph, joined}

-- v has a partner
abbrev pub paired : Graph → (ℕ → ℕ) → ℕ → Bool
paired g mate v = ltb (mate v) g.order

-- each partner is a neighbour, and names the route back
pub record Pairing (g : Graph) (mate : ℕ → ℕ) : Type 0 where
  pub edge : (v : ℕ) → v < g.order → mate v < g.order → joined g v (mate v) ≡ true
  pub back : (v : ℕ) → v < g.order → mate v < g.order → mate (mate v) ≡ v

-- how many routes have no partner
unfoldable pub unpaired : Graph → (ℕ → ℕ) → ℕ
unpaired g mate = count g.order (λ v. not (paired g mate v))

-- the size, the number of pairs: each is counted at its lower route
unfoldable pub pairs : Graph → (ℕ → ℕ) → ℕ
pairs g mate = count g.order (λ v. paired g mate v && ltb v (mate v))

-- the sessions that the pairing leaves: the order less the size
unfoldable pub sessions : Graph → (ℕ → ℕ) → ℕ
sessions g mate = g.order - pairs g mate
