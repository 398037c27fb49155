-- One search from a pairing: either a pairing with one pair more, or a set of routes that shows that there is none. And at most b searches, each from
-- what the one before has left. Assumes nothing.
use Rattle.std.specs.Prelude.{cond, List, map, ℕ, zero, suc, eqb, ltb, take, replicate}
use Rattle.limits.specs.Limits.{none}
use Rattle.graphs.specs.Graph.{Graph}
use Rattle.theory.specs.Search.Tables.{cell, store, inner, Tables}
use Rattle.theory.specs.Search.Start.{start}
use Rattle.theory.specs.Search.Look.{run}
use Rattle.theory.specs.Search.Expose.{augmented}

-- v's partner by the list p of n partners; its own number where it has none
unfoldable pub own_or : ℕ → ℕ → List ℕ → ℕ → ℕ
own_or room n p v = let w = cell room p v in cond (ltb v n) (cond (ltb w n) w v) v

-- so for the first k routes
unfoldable pub inward : ℕ → ℕ → List ℕ → ℕ → List ℕ → List ℕ
inward room n p zero m = m
inward room n p (suc k) m = store room (inward room n p k m) k (own_or room n p k)

-- v's partner; none where it is its own
unfoldable pub none_or : ℕ → List ℕ → ℕ → ℕ
none_or room m v = let w = cell room m v in cond (eqb w v) none w

-- so for the first k routes
unfoldable pub outward : ℕ → List ℕ → ℕ → List ℕ → List ℕ
outward room m zero p = p
outward room m (suc k) p = store room (outward room m k p) k (none_or room m k)

-- 1 for an inner route. Where nothing is found, the three labels are the three groups of the yard (Gallai and Edmonds; not shown here): the inner routes are the
-- scarce ones, the outer routes compete for them, and the routes not reached are paired among themselves
abbrev pub mark : ℕ → ℕ
mark l = cond (eqb l inner) 1 0

-- the tables that a search begins with
unfoldable pub begun : ℕ → Graph → List ℕ → Tables
begun room g p = start room g.order (inward room g.order p room (replicate room none))

-- the tables that it ends with
unfoldable pub ended : ℕ → Graph → List ℕ → Tables
ended room g p = run room g g.order (begun room g p)

-- the new partners, or the witness: a mark for each route
pub data Outcome : Type 0 where
  found : List ℕ → Outcome
  stuck : List ℕ → Outcome

-- one search
unfoldable pub searched_in : ℕ → Graph → List ℕ → Outcome
searched_in room g p =
    let s = ended room g p in
    let f = found (outward room (augmented room s) g.order p) in
    let t = stuck (map mark (take g.order s.line.label)) in
    cond s.hit f t

-- the partners after a search
abbrev pub after : Outcome → List ℕ → List ℕ
after (found q) p = q
after (stuck a) p = p

-- at most b searches
unfoldable pub improved_in : ℕ → Graph → List ℕ → ℕ → List ℕ
improved_in room g p zero = p
improved_in room g p (suc b) = let q = improved_in room g p b in after (searched_in room g q) q
