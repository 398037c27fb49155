-- The choice: what a call of improve leaves, as functions of the bytes that it was lent. Nothing is left open. Assumes nothing.
use Rattle.std.specs.Prelude.{ℕ, ◌-◌, cond, List, get_or, is_err}
use Rattle.limits.specs.Limits.{routes, none}
use Rattle.theory.specs.Search.Searched.{Outcome, found, stuck, searched_in, improved_in}
use Rattle.words.specs.Words.{bytes_to}
use Rattle.rows.specs.Sheet.{order, graph_of}
use Rattle.witness.specs.Verdict.{improve_verdict}
use Rattle.buffers.specs.Held.{partners_of, size_of, sessions_of}

-- the partners after at most b searches
unfoldable pub improved : List ℕ → List ℕ → ℕ → List ℕ
improved s pairing b = improved_in routes (graph_of s) (partners_of pairing) b

-- the last search, which is always made
unfoldable pub last : List ℕ → List ℕ → ℕ → Outcome
last s pairing b = searched_in routes (graph_of s) (improved s pairing b)

-- 1 where it finds nothing
abbrev pub finished_by : Outcome → ℕ
finished_by (found q) = 0
finished_by (stuck a) = 1

-- its witness where it finds nothing, else what was lent
abbrev pub witness_by : Outcome → List ℕ → List ℕ
witness_by (found q) witness = witness
witness_by (stuck a) witness = a

-- x, or y where the call is refused
abbrev pub or_refused : {A : Type 0} → List ℕ → List ℕ → List ℕ → A → A → A
or_refused s pairing witness x y = cond (is_err (improve_verdict s pairing witness)) y x

-- the bytes of the pairing after a call, and those of the witness
unfoldable pub pairing_after : List ℕ → List ℕ → List ℕ → ℕ → List ℕ
pairing_after s pairing witness b = or_refused s pairing witness (bytes_to (λ v. get_or (improved s pairing b) v none) (order s)) pairing

unfoldable pub witness_after : List ℕ → List ℕ → List ℕ → ℕ → List ℕ
witness_after s pairing witness b = or_refused s pairing witness (witness_by (last s pairing b) witness) witness

-- the four numbers of the answer
unfoldable pub added_of : List ℕ → List ℕ → List ℕ → ℕ → ℕ
added_of s pairing witness b = or_refused s pairing witness (size_of s (pairing_after s pairing witness b) - size_of s pairing) 0

unfoldable pub size_after : List ℕ → List ℕ → List ℕ → ℕ → ℕ
size_after s pairing witness b = or_refused s pairing witness (size_of s (pairing_after s pairing witness b)) 0

unfoldable pub finished_of : List ℕ → List ℕ → List ℕ → ℕ → ℕ
finished_of s pairing witness b = or_refused s pairing witness (finished_by (last s pairing b)) 0

unfoldable pub sessions_after : List ℕ → List ℕ → List ℕ → ℕ → ℕ
sessions_after s pairing witness b = or_refused s pairing witness (sessions_of s (pairing_after s pairing witness b)) 0
