-- The reply to a sheet: document 01's refusals 1 to 7, in the order in which they are tried; 4 to 7 are those of the crate entries.
use Rattle.std.specs.Prelude.{ℕ, ◌+◌, ◌*◌, Bool, cond, ◌&&◌, List, length, eqb, ltb, leb, Err}
use Rattle.limits.specs.Limits.{routes}
use Rattle.graphs.specs.Count.{all}
use Rattle.rows.specs.Sheet.{order, start, total, graph_of}
use Rattle.limits.specs.Answer.{first}
use Rattle.replies.specs.Reply.{Reply}
use Rattle.replies.specs.declared.Refusal.TheVariants.{Short, TooMany, Contents}
use Rattle.entries.specs.Entries.{rows_reply, loop_reply}

-- 3 is not given: the contents are not cut short, start 0 is 0, no start falls, and the length is 8 + 4n + 4E
unfoldable pub shaped : List ℕ → Bool
shaped s =
    leb (8 + 4 * order s) (length s)
    && eqb (start s 0) 0
    && all (order s) (λ k. leb (start s k) (start s (k + 1)))
    && eqb (length s) (8 + 4 * order s + 4 * total s)

-- the reply to any bytes
unfoldable pub reply_of : List ℕ → Reply
reply_of s =
    cond (ltb (length s) 8) (Err Short)
    (cond (ltb routes (order s)) (Err (TooMany (order s)))
    (cond (shaped s) (first (rows_reply (graph_of s)) (loop_reply (graph_of s))) (Err Contents)))
