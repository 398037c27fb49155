-- A list of numbers as operations, one after the other: the code, how many ids there are, and the ids.
use Rattle.std.specs.Prelude.{ℕ, zero, suc, ◌+◌, cond, List, [], ◌∷◌, length, get_or, take, drop, ltb}
use Rattle.limits.specs.Limits.{none}

-- one operation: which one, and its ids
pub record Operation : Type 0 where
  pub code : ℕ
  pub ids : List ℕ

-- where an operation at a place ends that has so many ids, at most at the end of the list
unfoldable pub end_of : ℕ → ℕ → ℕ → ℕ
end_of len at m = cond (ltb (at + 2 + m) len) (at + 2 + m) len

-- the ids of the operation at a place: as many as it says, or as are there
unfoldable pub ids_at : List ℕ → ℕ → List ℕ
ids_at ops at = take (get_or ops (at + 1) none) (drop (at + 2) ops)

-- the operation at a place
abbrev pub operation_at : List ℕ → ℕ → Operation
operation_at ops at = record { code = get_or ops at none; ids = ids_at ops at }

-- the operations from a place on, at most so many
unfoldable pub operations_from : ℕ → ℕ → List ℕ → List Operation
operations_from zero at ops = []
operations_from (suc f) at ops =
    cond (ltb at (length ops)) (operation_at ops at ∷ operations_from f (end_of (length ops) at (get_or ops (at + 1) none)) ops) []

-- all operations of a list; each takes a number at least, so that there are no more of them than numbers
unfoldable pub operations : List ℕ → List Operation
operations ops = operations_from (length ops) 0 ops
