-- The invariant of a search: what holds of the tables after each step. Assumes nothing.
use mathlib.Core.Path.{◌≡◌, refl, sym, ◌∙◌}
use mathlib.Core.Bool.{true, false}
use Prim.Native.Nat.{ℕ, ◌+◌, ◌-◌, ◌≤◌, ◌<◌}
use native.Mathlib.Omega.{arith}
use lib.ListN.{length}
use Rattle.graphs.specs.Graph.{Graph, Simple, joined}
use Rattle.theory.specs.Search.Tables.{groups, cell, Rings, Tables}
use Rattle.theory.specs.Search.Promise.{Fits}
use Rattle.graphs.proofs.Count.{clash}
use Rattle.trees.proofs.Forest.Applied.{partner}
use Rattle.trees.proofs.Forest.Shape.{Forest}
use Rattle.trees.proofs.Forest.State.{State}
use Rattle.theory.proofs.Search.Cells.{cell-any}
use Rattle.theory.proofs.Search.Line.{label_of, reached, Queued, Onward, onward-none, onward_then}

-- ---- the edges of a simple graph

abbrev pub Adj : Graph → ℕ → ℕ → Type 0
Adj g x y = (x < g.order) × (joined g x y ≡ true)

pub swap : {g : Graph} → Simple g → (x y : ℕ) → Adj g x y → Adj g y x
swap S x y e = (S.below x y e.0 e.1, S.both_ways x y e.0 e.1)

pub bounded : {g : Graph} → Simple g → (x y : ℕ) → Adj g x y → (x < g.order) × (y < g.order)
bounded S x y e = (e.0, S.below x y e.0 e.1)

pub loopless : {g : Graph} → Simple g → (x : ℕ) → Adj g x x → ⊥
loopless {g} S x e = clash (joined g x x) e.1 (S.no_loop x e.0)

-- ---- the invariant

pub record RingsSized (room : ℕ) (r : Rings) : Type 0 where
  pub up : length r.up ≡ groups room
  pub next : length r.next ≡ groups room
  pub out : length r.out ≡ groups room
  pub into : length r.into ≡ groups room

-- a table of routes has `room` cells, a table of groups twice as many; `Queued` says it of the labels and the queue
pub record Sized (room : ℕ) (s : Tables) : Type 0 where
  pub mate : length s.mate ≡ room
  pub parent : length s.parent ≡ room
  pub top : length s.top ≡ room
  pub root : length s.root ≡ groups room
  pub base : length s.base ≡ groups room
  pub rank : length s.rank ≡ groups room
  pub half : length s.half ≡ groups room
  pub rings : RingsSized room s.rings

pub record Ready (g : Graph) (room : ℕ) (s : Tables) : Type 0 where
  -- the tables are those of the graph, and have their cells
  pub fits : Fits room g
  pub order : s.order ≡ g.order
  pub sized : Sized room s
  -- labels and queue agree
  pub line : Queued g.order room s.line
  -- the rings that the tables hold are groups, and the groups are a forest
  pub state : State (Adj g) g.order (partner s.mate) s.ids (groups room)
      (cell (groups room) s.rings.up) (cell (groups room) s.rings.next) (cell (groups room) s.rings.out) (cell (groups room) s.rings.into) (cell (groups room) s.half)
      (cell room s.top) (cell (groups room) s.base) (cell room s.parent) (cell (groups room) s.rank) (cell (groups room) s.root) (label_of s.line.label)
  -- a step to a partner reaches two routes and queues one; a ring queues one at least, and makes one group
  pub few : s.ids + s.ids + reached g.order s.line.label ≤ g.order + g.order + (s.line.tail + s.line.tail - 1)
  -- no group is deeper than twice the outer routes less one
  pub ranks : (d : ℕ) → d < groups room → cell (groups room) s.rank d ≤ s.line.tail + s.line.tail - 2
  -- a ring has no more than half as many groups as its two walks are deep
  pub halves : (d : ℕ) → d < groups room → cell (groups room) s.half d ≤ s.line.tail + s.line.tail - 2

-- what a step keeps
pub record Later (room : ℕ) (s s' : Tables) : Type 0 where
  -- routes of one group stay together
  pub together : (a b : ℕ) → cell room s.top a ≡ cell room s.top b → cell room s'.top a ≡ cell room s'.top b
  pub onward : Onward room s.line s'.line
  -- the partners are as they were
  pub mates : s'.mate ≡ s.mate
  -- an edge once found stays found
  pub unhit : s'.hit ≡ false → s.hit ≡ false

pub later-none : {room : ℕ} (s : Tables) → Later room s s
later-none s = record { together = λ a b e. e; onward = onward-none s.line; mates = refl; unhit = λ h. h }

pub later-then : {room : ℕ} {a b c : Tables} → Later room a b → Later room b c → Later room a c
later-then p q = record {
  together = λ x y e. q.together x y (p.together x y e);
  onward = onward_then p.onward q.onward;
  mates = q.mates ∙ p.mates;
  unhit = λ h. p.unhit (q.unhit h);
}

module _ {g : Graph} {room : ℕ} {s : Tables} (R : Ready g room s) where
  abbrev pub forest : Forest (Adj g) g.order (partner s.mate) s.ids R.state.stored.S (cell room s.top) (cell (groups room) s.base) (cell room s.parent)
      (cell (groups room) s.rank) (cell (groups room) s.root) (label_of s.line.label)
  forest = R.state.forest

  -- the partner of a route, by the table
  pub mate-is : (y : ℕ) → y < g.order → partner s.mate y ≡ cell room s.mate y
  mate-is y i = sym (cell-any room s.mate y y (omega (arith, R.fits.routes)) R.sized.mate)

  -- a route's group is one of the tables
  pub top_in : (y : ℕ) → y < g.order → cell room s.top y < groups room
  top_in y i = omega (arith, forest.used y i, R.state.room)

  -- a base's partner is a route
  pub partner-in : (y : ℕ) → y < g.order → cell room s.mate y < g.order
  partner-in y i = omega (arith, mate-is y i, forest.inside y i)
