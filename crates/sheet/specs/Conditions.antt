-- When each reply is given, in words: document 01's table. proofs/Given.antt shows that `reply_of` answers r exactly where `Because s r`.
use Rattle.std.specs.Prelude.{ℕ, suc, ◌≤◌, ◌<◌, ◌≡◌, true, false, List, length, drop, Ok, Err}
use Rattle.limits.specs.Limits.{routes}
use Rattle.graphs.specs.Graph.{Graph, has, joined}
use Rattle.rows.specs.Sheet.{Shaped, order, graph_of, named}
use Rattle.replies.specs.Reply.{Reply}
use Rattle.replies.specs.declared.Refusal.TheVariants.{Short, TooMany, Contents, UnknownId, DuplicateEdge, MissingEdge, Loop}

-- refusals 1 to 3 are not given
pub record Readable (s : List ℕ) : Type 0 where
  pub eight : 8 ≤ length s
  pub few : order s ≤ routes
  pub shape : Shaped s

-- none of 4, 5 and 6 holds of entry i of row v: it is a route, it does not stand again later in the row, and its own row has v
pub record Clear (g : Graph) (v i : ℕ) : Type 0 where
  pub known : named g v i < g.order
  pub once : has (drop (suc i) (g.row v)) (named g v i) ≡ false
  pub back : joined g (named g v i) v ≡ true

-- every entry is clear
abbrev pub AllClear : Graph → Type 0
AllClear g = (v i : ℕ) → v < g.order → i < length (g.row v) → Clear g v i

-- entry i of row v is one, and every entry before it, row by row, is clear
pub record Reached (g : Graph) (v i : ℕ) : Type 0 where
  pub row-there : v < g.order
  pub place-there : i < length (g.row v)
  pub rows_before : (u j : ℕ) → u < v → j < length (g.row u) → Clear g u j
  pub places-before : (j : ℕ) → j < i → Clear g v j

-- no route is its own neighbour
abbrev pub NoLoop : Graph → Type 0
NoLoop g = (v : ℕ) → v < g.order → joined g v v ≡ false

-- why the bytes s are answered r: its condition holds, and that of no check before it
abbrev pub Because : List ℕ → Reply → Type 0
Because s (Ok _) = Readable s × AllClear (graph_of s) × NoLoop (graph_of s)
Because s (Err Short) = length s < 8
Because s (Err (TooMany n)) = (8 ≤ length s) × (routes < order s) × (n ≡ order s)
Because s (Err Contents) = (8 ≤ length s) × (order s ≤ routes) × (Shaped s → ⊥)
Because s (Err (UnknownId w)) = Readable s × (v : ℕ) × (i : ℕ) × Reached (graph_of s) v i × (named (graph_of s) v i ≡ w) × (order s ≤ w)
Because s (Err (DuplicateEdge v w)) =
    Readable s × (i : ℕ) × Reached (graph_of s) v i × (named (graph_of s) v i ≡ w) × (w < order s) × (has (drop (suc i) ((graph_of s).row v)) w ≡ true)
Because s (Err (MissingEdge w v)) =
    Readable s × (i : ℕ) × Reached (graph_of s) v i × (named (graph_of s) v i ≡ w) × (w < order s)
    × (has (drop (suc i) ((graph_of s).row v)) w ≡ false)
    × (joined (graph_of s) w v ≡ false)
Because s (Err (Loop v)) =
    Readable s × AllClear (graph_of s) × (v < order s) × (joined (graph_of s) v v ≡ true)
    × ((u : ℕ) → u < v → joined (graph_of s) u u ≡ false)
