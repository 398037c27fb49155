-- What the search does at an entry, at a row, and at all the rows of the queue. Assumes nothing.
use Rattle.std.specs.Prelude.{true, cond, List, [], ◌∷◌, ℕ, zero, suc, eqb, ltb}
use Rattle.graphs.specs.Graph.{Graph}
use Rattle.theory.specs.Search.Tables.{groups, cell, unreached, inner, Tables}
use Rattle.theory.specs.Search.Grow.{grow}
use Rattle.theory.specs.Search.Rings.{contract}

-- the edge (v, w) between two trees is found
unfoldable pub strike : Tables → ℕ → ℕ → Tables
strike s v w = record {
  order = s.order;
  mate = s.mate;
  parent = s.parent;
  top = s.top;
  root = s.root;
  base = s.base;
  rank = s.rank;
  half = s.half;
  line = s.line;
  rings = s.rings;
  ids = s.ids;
  hit = true;
  one = v;
  two = w;
}

-- w is outer, of another group than v: a ring, where it is in v's tree, and else an edge between two trees
unfoldable pub touch : ℕ → Tables → ℕ → ℕ → Tables
touch room s v w =
    let g = cell room s.top v in
    let h = cell room s.top w in
    let c = contract room s v w in
    let f = strike s v w in
    cond (eqb (cell (groups room) s.root g) (cell (groups room) s.root h)) c f

-- an entry w of row v: nothing once an edge is found, nor within v's group, nor where w is inner
unfoldable pub look : ℕ → Tables → ℕ → ℕ → Tables
look room s v w =
    let l = cell room s.line.label w in
    let t = touch room s v w in
    let g = grow room s v w in
    let a = cond (eqb l unreached) g t in
    let b = cond (eqb l inner) s a in
    let c = cond (eqb (cell room s.top w) (cell room s.top v)) s b in
    cond s.hit s c

-- the entries of row v, in order
unfoldable pub scan_row : ℕ → Tables → ℕ → List ℕ → Tables
scan_row room s v [] = s
scan_row room s v (w ∷ ws) = scan_row room (look room s v w) v ws

-- the row of the k-th route of the queue, where there is one
unfoldable pub turn : ℕ → Graph → ℕ → Tables → Tables
turn room g k s =
    let v = cell room s.line.queue k in
    let r = scan_row room s v (g.row v) in
    cond (ltb k s.line.tail) r s

-- the rows of the first k of the queue, in order of entry
unfoldable pub run : ℕ → Graph → ℕ → Tables → Tables
run room g zero s = s
run room g (suc k) s = turn room g k (run room g k s)
