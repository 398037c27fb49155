-- The number of edges.
use Rattle.std.specs.Prelude.{ℕ, ◌/◌, ◌≡◌, List}
use Rattle.graphs.specs.Graph.{edges}
use Rattle.rows.specs.Sheet.{total, graph_of}
use Rattle.sheet.specs.Reply.{reply_of}
use Rattle.limits.specs.Answer.{accepted}

-- k is half the entry total of any bytes, and of an accepted sheet the number of edges
pub record Size (s : List ℕ) (k : ℕ) : Type 0 where
  pub half : k ≡ total s / 2
  pub of-edges : reply_of s ≡ accepted → k ≡ edges (graph_of s)
