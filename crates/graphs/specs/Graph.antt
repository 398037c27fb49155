-- A graph as its rows: the neighbours of each route. Assumes nothing.
use Rattle.std.specs.Prelude.{◌≡◌, Bool, true, false, not, ◌&&◌, ◌||◌, List, [], ◌∷◌, ℕ, ◌<◌, eqb, ltb, length, get_or}
use Rattle.graphs.specs.Count.{count, total}

-- x stands in the list
unfoldable pub has : List ℕ → ℕ → Bool
has [] x = false
has (y ∷ ys) x = eqb x y || has ys x

-- no entry stands again later in the list
unfoldable pub distinct : List ℕ → Bool
distinct [] = true
distinct (x ∷ xs) = not (has xs x) && distinct xs

-- the routes are the numbers below the order; a row holds the neighbours of a route
pub record Graph : Type 0 where
  pub order : ℕ
  pub row : ℕ → List ℕ

-- w stands in the row of v: the two may stand together
abbrev pub joined : Graph → ℕ → ℕ → Bool
joined g v w = has (g.row v) w

-- neighbours are routes, being joined goes both ways, and no route is joined to itself
pub record Simple (g : Graph) : Type 0 where
  pub below : (v w : ℕ) → v < g.order → joined g v w ≡ true → w < g.order
  pub both_ways : (v w : ℕ) → v < g.order → joined g v w ≡ true → joined g w v ≡ true
  pub no_loop : (v : ℕ) → v < g.order → joined g v v ≡ false

-- how many pairs of routes are joined: each is counted at its lower route
unfoldable pub edges : Graph → ℕ
edges g = total g.order (λ v. count g.order (λ w. joined g v w && ltb v w))

-- how many entries the rows have
unfoldable pub entries : Graph → ℕ
entries g = total g.order (λ v. length (g.row v))

-- a set of routes as its marks: 1 in it, 0 outside
abbrev pub in_set : List ℕ → ℕ → Bool
in_set s v = eqb (get_or s v 0) 1
