-- The parts (connected components) of a graph without the routes of a set: a table that holds, for each route, the least route of its part.
-- Each route starts as a part of its own; each entry of each row, in the rows' order, then joins two parts. Assumes nothing.
use Rattle.std.specs.Prelude.{◌≡◌, Bool, true, false, cond, ◌||◌, List, [], ◌∷◌, map, ℕ, zero, suc, ◌<◌, min, eqb, get_or}
use Rattle.graphs.specs.Graph.{Graph, joined}

-- s, s + 1, .. : n numbers
unfoldable pub run : ℕ → ℕ → List ℕ
run s zero = []
run s (suc n) = s ∷ run (suc s) n

-- the parts named a and b become one, under the lesser of the two names
unfoldable pub merge : ℕ → ℕ → ℕ → ℕ
merge a b x = cond (eqb x a || eqb x b) (min a b) x

-- the parts of v and w become one
unfoldable pub join : List ℕ → ℕ → ℕ → List ℕ
join c v w = map (merge (get_or c v 0) (get_or c w 0)) c

-- an entry w of row v: it joins their parts, unless one of the two is in the set
unfoldable pub link : (ℕ → Bool) → List ℕ → ℕ → ℕ → List ℕ
link A c v w = let j = join c v w in cond (A v || A w) c j

-- the entries of row v
unfoldable pub link_row : (ℕ → Bool) → List ℕ → ℕ → List ℕ → List ℕ
link_row A c v [] = c
link_row A c v (w ∷ ws) = link_row A (link A c v w) v ws

-- the first k rows
unfoldable pub link_rows : Graph → (ℕ → Bool) → ℕ → List ℕ
link_rows g A zero = run 0 g.order
link_rows g A (suc k) = link_row A (link_rows g A k) k (g.row k)

-- the table of all parts
unfoldable pub parts : Graph → (ℕ → Bool) → List ℕ
parts g A = link_rows g A g.order

-- the least route of v's part
abbrev pub root : Graph → (ℕ → Bool) → ℕ → ℕ
root g A v = get_or (parts g A) v 0

-- what a part is: routes between which one can walk from neighbour to neighbour outside the set
pub data Walk (g : Graph) (A : ℕ → Bool) : ℕ → ℕ → Type 0 where
  stay : {v : ℕ} → Walk g A v v
  step : {u v w : ℕ} → Walk g A u v → v < g.order → joined g v w ≡ true → A v ≡ false → A w ≡ false → Walk g A u w
