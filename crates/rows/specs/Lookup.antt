-- What is answered about a row.
use Rattle.std.specs.Prelude.{ℕ, ◌+◌, cond, List, length, get_or, eqb, ltb, Option, Some, None, Result, Ok, Err}
use Rattle.limits.specs.Limits.{none}
use Rattle.graphs.specs.Count.{least}
use Rattle.rows.specs.Sheet.{order, start, slot}
use Rattle.rows.specs.declared.Stretch.{Stretch}
use Rattle.rows.specs.declared.UnknownId.{UnknownId}

-- the first place of x in the row; the row's length where it does not stand there
unfoldable pub place : List ℕ → ℕ → ℕ
place row x = least (length row) (λ i. eqb (get_or row i none) x)

-- the first place of x in the row, where it stands there
unfoldable pub place_in : List ℕ → ℕ → Option ℕ
place_in row x = cond (ltb (place row x) (length row)) (Some (place row x)) None

-- v is no route
abbrev pub unknown : ℕ → UnknownId
unknown v = record { id = v }

-- where the bytes of row v begin and end, or that there is no route v
unfoldable pub neighbors_of : List ℕ → ℕ → Result Stretch UnknownId
neighbors_of s v =
    cond (ltb v (order s))
    (Ok (record { from = slot s (start s v); to = slot s (start s (v + 1)) }))
    (Err (unknown v))
