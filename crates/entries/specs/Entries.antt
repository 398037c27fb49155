-- The reply to the entries of a sheet: document 01's refusals 4 to 7, in the order in which they are tried.
use Rattle.std.specs.Prelude.{ℕ, suc, cond, length, get_or, drop, ltb, Err}
use Rattle.limits.specs.Limits.{none}
use Rattle.graphs.specs.Graph.{Graph, has, joined}
use Rattle.limits.specs.Answer.{accepted}
use Rattle.replies.specs.Reply.{Reply, first_of}
use Rattle.replies.specs.declared.Refusal.TheVariants.{UnknownId, DuplicateEdge, MissingEdge, Loop}

-- 4, 5 and 6, tried for entry i of row v: not below n; the same again later in the row; its own row lacks v
unfoldable pub entry_reply : Graph → ℕ → ℕ → Reply
entry_reply g v i =
    let w = get_or (g.row v) i none in
    cond (ltb w g.order)
    (cond (has (drop (suc i) (g.row v)) w) (Err (DuplicateEdge v w)) (cond (joined g w v) accepted (Err (MissingEdge w v))))
    (Err (UnknownId w))

-- the entries of row v in turn
unfoldable pub row_reply : Graph → ℕ → Reply
row_reply g v = first_of (length (g.row v)) (entry_reply g v)

-- row by row
unfoldable pub rows_reply : Graph → Reply
rows_reply g = first_of g.order (row_reply g)

-- 7: the lowest route that is its own neighbour
unfoldable pub loop_reply : Graph → Reply
loop_reply g = first_of g.order (λ v. cond (joined g v v) (Err (Loop v)) accepted)
