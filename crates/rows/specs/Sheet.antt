-- The sheet: n; then the contents, n + 1 starts; then the entries, row after row. And what it means, a graph.
use Rattle.std.specs.Prelude.{ℕ, ◌+◌, ◌*◌, ◌-◌, ◌≤◌, ◌<◌, ◌≡◌, cond, List, [], length, get_or, take, drop, ltb, leb}
use Rattle.limits.specs.Limits.{none}
use Rattle.graphs.specs.Graph.{Graph}
use Rattle.words.specs.Words.{word, numbers}

-- n, the number of routes
abbrev pub order : List ℕ → ℕ
order s = word s 0

-- start k, the entry number at which row k begins
abbrev pub start : List ℕ → ℕ → ℕ
start s k = word s (k + 1)

-- E, the entry total
abbrev pub total : List ℕ → ℕ
total s = start s (order s)

-- entry number e
abbrev pub entry : List ℕ → ℕ → ℕ
entry s e = word s (order s + 2 + e)

-- where the bytes of entry number e begin
abbrev pub slot : List ℕ → ℕ → ℕ
slot s e = 8 + 4 * order s + 4 * e

-- the bytes from a on and before e; none where there are no such bytes
unfoldable pub part : List ℕ → ℕ → ℕ → List ℕ
part s a e = cond (leb a e) (cond (leb e (length s)) (take (e - a) (drop a s)) []) []

-- the stretch of the sheet that holds row k; none where there is no row k
unfoldable pub stretch : List ℕ → ℕ → List ℕ
stretch s k = cond (ltb k (order s)) (part s (slot s (start s k)) (slot s (start s (k + 1)))) []

-- the graph that the bytes mean: the neighbours of each route, in the caller's order
abbrev pub graph_of : List ℕ → Graph
graph_of s = record { order = order s; row = λ v. numbers (stretch s v) }

-- the neighbour that stands at place i of row v
abbrev pub named : Graph → ℕ → ℕ → ℕ
named g v i = get_or (g.row v) i none

-- the contents are all there, start 0 is 0, no start falls, and the length is 8 + 4n + 4E
pub record Shaped (s : List ℕ) : Type 0 where
  pub whole : 8 + 4 * order s ≤ length s
  pub from_zero : start s 0 ≡ 0
  pub rises : (k : ℕ) → k < order s → start s k ≤ start s (k + 1)
  pub long : length s ≡ 8 + 4 * order s + 4 * total s
