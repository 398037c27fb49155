-- What is counted of a set of routes, and the names of the parts that are left without it.
use Rattle.std.specs.Prelude.{ℕ, ◌≡◌, Bool, cond}
use Rattle.limits.specs.Limits.{none}
use Rattle.graphs.specs.Count.{count}
use Rattle.graphs.specs.Graph.{Graph}
use Rattle.graphs.specs.Parts.{root}
use Rattle.graphs.specs.Surplus.{odd_parts}

-- odd is the number of odd parts that are left without the set, and size how many routes are in it
pub record Weighs (g : Graph) (A : ℕ → Bool) (odd size : ℕ) : Type 0 where
  pub parts : odd ≡ odd_parts g A
  pub members : size ≡ count g.order A

-- for each route the least route of its part when the routes of A are taken away; none for a route of A
abbrev pub part_name : Graph → (ℕ → Bool) → ℕ → ℕ
part_name g A v = cond (A v) none (root g A v)
