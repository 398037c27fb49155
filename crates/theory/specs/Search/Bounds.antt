-- How far a search goes, and where its tables stand at any time of it. Shown in `proofs/Search/Counters.antt`. Assumes nothing.
use Rattle.std.specs.Prelude.{◌≡◌, cond, List, ℕ, ◌-◌, ◌≤◌, ◌<◌, ltb, length, take}
use Rattle.limits.specs.Limits.{none}
use Rattle.graphs.specs.Graph.{Graph}
use Rattle.theory.specs.Search.Tables.{groups, cell, inner, Tables}
use Rattle.theory.specs.Search.Look.{scan_row, run}
use Rattle.theory.specs.Search.Searched.{begun, ended}

-- how many rings a search contracts: each makes one group, and nothing else does
unfoldable pub contractions : ℕ → Graph → List ℕ → ℕ
contractions room g p = (ended room g p).ids - g.order

-- the route whose row is scanned at turn k of a search, or none
unfoldable pub scanned : ℕ → Graph → List ℕ → ℕ → ℕ
scanned room g p k =
    let s = run room g k (begun room g p) in
    let v = cell room s.line.queue k in
    cond (ltb k s.line.tail) v none

-- the tables after k rows of a search and the first j entries of the next one
unfoldable pub partway : ℕ → Graph → List ℕ → ℕ → ℕ → Tables
partway room g p k j =
    let s = run room g k (begun room g p) in
    let v = cell room s.line.queue k in
    let r = scan_row room s v (take j (g.row v)) in
    cond (ltb k s.line.tail) r s

-- the counters are short of their end: none has been stopped there
pub record Short (room : ℕ) (s : Tables) : Type 0 where
  pub tail : s.line.tail < groups room
  pub ids : s.ids < groups room
  pub ranks : (d : ℕ) → d < groups room → cell (groups room) s.rank d < groups room
  pub halves : (d : ℕ) → d < groups room → cell (groups room) s.half d < groups room

-- the tables have their cells, what they hold as a route is a route, and what they hold as a group is one of the groups so far. So a read by a number that
-- was read stays inside; but for `admit`, which asks the label of each group of a ring, and of a ring within it finds none
pub record Inside (g : Graph) (room : ℕ) (s : Tables) : Type 0 where
  -- a table of routes has a cell for each route, a table of groups one for each group
  pub routes : g.order ≤ room
  pub groups-fit : s.ids ≤ groups room
  pub route-tables : (length s.mate ≡ room) × (length s.parent ≡ room) × (length s.top ≡ room) × (length s.line.label ≡ room) × (length s.line.queue ≡ room)
  pub group-tables : (length s.root ≡ groups room) × (length s.base ≡ groups room) × (length s.rank ≡ groups room) × (length s.half ≡ groups room)
  pub ring-tables : (length s.rings.up ≡ groups room) × (length s.rings.next ≡ groups room) × (length s.rings.out ≡ groups room) × (length s.rings.into ≡ groups room)
  -- the queue has routes
  pub queued : (j : ℕ) → j < s.line.tail → cell room s.line.queue j < g.order
  -- a route has a partner (its own number where it has none), a group, and that group a base
  pub mates : (v : ℕ) → v < g.order → cell room s.mate v < g.order
  pub tops : (v : ℕ) → v < g.order → cell room s.top v < s.ids
  pub bases : (v : ℕ) → v < g.order → cell (groups room) s.base (cell room s.top v) < g.order
  -- an inner route has a parent
  pub parents : (v : ℕ) → v < g.order → cell room s.line.label v ≡ inner → cell room s.parent v < g.order
  -- a group that has gone into a ring has a next one, and the edge to it has two routes
  pub nexts : (c : ℕ) → c < s.ids → cell (groups room) s.rings.up c < s.ids → cell (groups room) s.rings.next c < s.ids
  pub outs : (c : ℕ) → c < s.ids → cell (groups room) s.rings.up c < s.ids → cell (groups room) s.rings.out c < g.order
  pub intos : (c : ℕ) → c < s.ids → cell (groups room) s.rings.up c < s.ids → cell (groups room) s.rings.into c < g.order
