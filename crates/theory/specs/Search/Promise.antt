-- What a search promises, for a simple graph and a pairing of it. Shown in `proofs/Search/Searched.antt` and `Improved.antt`. Assumes nothing.
use Rattle.std.specs.Prelude.{◌≡◌, ◌↔◌, ◌⊎◌, List, ℕ, suc, ◌+◌, ◌-◌, ◌≤◌, ◌<◌, min, pos, length, get_or}
use Rattle.limits.specs.Limits.{none}
use Rattle.graphs.specs.Graph.{Graph, in_set}
use Rattle.graphs.specs.Surplus.{surplus}
use Rattle.graphs.specs.Pairing.{Pairing, unpaired, pairs}
use Rattle.graphs.specs.Largest.{Largest}
use Rattle.theory.specs.Search.Tables.{groups}
use Rattle.theory.specs.Search.Searched.{Outcome, stuck}

-- v's partner by a list of partners; past its end, none
abbrev pub mate_of : List ℕ → ℕ → ℕ
mate_of p v = get_or p v none

-- the list has a cell for each route, and is a pairing of the graph
pub record Valid (g : Graph) (p : List ℕ) : Type 0 where
  pub long : g.order ≤ length p
  pub pairing : Pairing g (mate_of p)

-- a route has a partner or none, and past the routes there is none
pub record Tidy (g : Graph) (p : List ℕ) : Type 0 where
  pub partners : (v : ℕ) → v < g.order → (mate_of p v ≡ none) ⊎ (mate_of p v < g.order)
  pub past : (v : ℕ) → g.order ≤ v → mate_of p v ≡ none

-- the tables have room for the routes, and none is the number of no group, so of no route
pub record Fits (room : ℕ) (g : Graph) : Type 0 where
  pub routes : g.order ≤ room
  pub small : groups room ≤ none

-- what a search finds from p: a pairing q with exactly one pair more, in which every route paired before is paired
pub record Gained (g : Graph) (p q : List ℕ) : Type 0 where
  pub valid : Valid g q
  pub size : length q ≡ length p
  pub one_more : pairs g (mate_of q) ≡ suc (pairs g (mate_of p))
  pub keeps : (v : ℕ) → v < g.order → mate_of p v < g.order → mate_of q v < g.order

-- what a search that is stuck at p shows by its witness a: a mark for each route, 1 or 0; the marked routes meet the bound; so p has the largest size
pub record Shown (g : Graph) (p a : List ℕ) : Type 0 where
  pub size : length a ≡ g.order
  pub marks : (v : ℕ) → get_or a v 0 ≤ 1
  pub tight : surplus g (in_set a) ≡ pos (unpaired g (mate_of p))
  pub largest : Largest g (pairs g (mate_of p))

-- what at most b searches from p leave, where m is the largest size: q the pairing, o the last search, which is always made
pub record Promise (g : Graph) (p : List ℕ) (b m : ℕ) (q : List ℕ) (o : Outcome) : Type 0 where
  -- the pairing left is a pairing of the graph, as long as the one before
  pub valid : Valid g q
  pub as_long : length q ≡ length p
  -- its size is s + min(b, m - s), where s was the size before
  pub size : pairs g (mate_of q) ≡ pairs g (mate_of p) + min b (m - pairs g (mate_of p))
  -- every route paired before is paired
  pub keeps : (v : ℕ) → v < g.order → mate_of p v < g.order → mate_of q v < g.order
  -- finished exactly when the size left is the largest
  pub finished : ((a : List ℕ) × (o ≡ stuck a)) ↔ (pairs g (mate_of q) ≡ m)
  -- and then the witness meets the bound
  pub witness : (a : List ℕ) → o ≡ stuck a → Shown g q a
