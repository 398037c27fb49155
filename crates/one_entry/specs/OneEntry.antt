-- How the reader works, and nothing that has to be believed: the checks of an entry by the two tables.
use Rattle.std.specs.Prelude.{ℕ, cond, List, ltb, Err}
use Rattle.limits.specs.Answer.{accepted}
use Rattle.replies.specs.Reply.{Reply}
use Rattle.replies.specs.declared.Refusal.TheVariants.{UnknownId, DuplicateEdge, MissingEdge}
use Rattle.marks.specs.Marks.{marked}
use Rattle.places.specs.Places.{kept}

-- 4, 5 and 6 for the entry w at place i of row v, by the tables; n is the order
unfoldable pub quick_entry : List ℕ → List ℕ → ℕ → ℕ → ℕ → ℕ → Reply
quick_entry marks last n v w i =
    cond (ltb w n)
    (cond (ltb i (kept last w)) (Err (DuplicateEdge v w)) (cond (marked marks w v) accepted (Err (MissingEdge w v))))
    (Err (UnknownId w))
