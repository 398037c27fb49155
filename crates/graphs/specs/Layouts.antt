-- The layouts of document 01 that are marked P: for each its rows, its set, and the surplus that the document says. Assumes nothing.
use Rattle.std.specs.Prelude.{List, [], ◌∷◌, ℕ, ℤ, pos, negsuc, length, get_or}
use Rattle.graphs.specs.Graph.{Graph, has}
use Rattle.graphs.specs.Surplus.{surplus}

-- rows, the routes of a set, and the surplus that the document says
pub record Layout : Type 0 where
  pub rows : List (List ℕ)
  pub set : List ℕ
  pub says : ℤ

abbrev pub layout : List (List ℕ) → List ℕ → ℤ → Layout
layout r s z = record { rows = r; set = s; says = z }

-- the graph that has these rows
abbrev pub graph_of : List (List ℕ) → Graph
graph_of rs = record { order = length rs; row = λ v. get_or rs v [] }

-- the surplus that the definition gives
unfoldable pub surplus_of : Layout → ℤ
surplus_of l = surplus (graph_of l.rows) (has l.set)

abbrev pub one_route : List (List ℕ)
one_route = [] ∷ []

abbrev pub two_joined : List (List ℕ)
two_joined = (1 ∷ []) ∷ (0 ∷ []) ∷ []

abbrev pub triangle : List (List ℕ)
triangle = (1 ∷ 2 ∷ []) ∷ (0 ∷ 2 ∷ []) ∷ (0 ∷ 1 ∷ []) ∷ []

abbrev pub path_of_three : List (List ℕ)
path_of_three = (1 ∷ []) ∷ (0 ∷ 2 ∷ []) ∷ (1 ∷ []) ∷ []

-- 0 joined to 1, 2, 3
abbrev pub claw : List (List ℕ)
claw = (1 ∷ 2 ∷ 3 ∷ []) ∷ (0 ∷ []) ∷ (0 ∷ []) ∷ (0 ∷ []) ∷ []

abbrev pub five_cycle : List (List ℕ)
five_cycle = (1 ∷ 4 ∷ []) ∷ (0 ∷ 2 ∷ []) ∷ (1 ∷ 3 ∷ []) ∷ (2 ∷ 4 ∷ []) ∷ (3 ∷ 0 ∷ []) ∷ []

abbrev pub two_triangles : List (List ℕ)
two_triangles = (1 ∷ 2 ∷ []) ∷ (0 ∷ 2 ∷ []) ∷ (0 ∷ 1 ∷ []) ∷ (4 ∷ 5 ∷ []) ∷ (3 ∷ 5 ∷ []) ∷ (3 ∷ 4 ∷ []) ∷ []

-- the ten routes on which the Rust goes wrong
abbrev pub ten_routes : List (List ℕ)
ten_routes = (1 ∷ []) ∷ (0 ∷ 2 ∷ []) ∷ (1 ∷ 3 ∷ 6 ∷ []) ∷ (2 ∷ 4 ∷ 7 ∷ []) ∷ (3 ∷ 5 ∷ []) ∷ (4 ∷ 6 ∷ []) ∷ (2 ∷ 5 ∷ 7 ∷ []) ∷ (3 ∷ 6 ∷ 8 ∷ []) ∷ (7 ∷ 9 ∷ []) ∷ (8 ∷ []) ∷ []

-- in the document's order. `negsuc 0` is -1, `negsuc 1` is -2
unfoldable pub layouts : List Layout
layouts =
    layout [] [] (pos 0)
    ∷ layout one_route [] (pos 1)
    ∷ layout two_joined [] (pos 0)
    ∷ layout two_joined (0 ∷ 1 ∷ []) (negsuc 1)
    ∷ layout triangle [] (pos 1)
    ∷ layout triangle (0 ∷ []) (negsuc 0)
    ∷ layout path_of_three (1 ∷ []) (pos 1)
    ∷ layout claw [] (pos 0)
    ∷ layout claw (0 ∷ []) (pos 2)
    ∷ layout five_cycle [] (pos 1)
    ∷ layout two_triangles [] (pos 2)
    ∷ layout ten_routes [] (pos 0)
    ∷ []
