-- How the reader works, and nothing that has to be believed: the marks of all rows; and the checks of the rows by this table and by that of the last
-- places.
use Rattle.std.specs.Prelude.{ℕ, zero, suc, cond, List, length, get_or, Err}
use Rattle.limits.specs.Limits.{none}
use Rattle.graphs.specs.Graph.{Graph}
use Rattle.words.specs.Words.{over}
use Rattle.limits.specs.Answer.{accepted}
use Rattle.replies.specs.Reply.{Reply, first_of}
use Rattle.replies.specs.declared.Refusal.TheVariants.{Loop}
use Rattle.marks.specs.Marks.{marked, mark}
use Rattle.places.specs.Places.{last_places, unkept}
use Rattle.one_entry.specs.OneEntry.{quick_entry}

-- every entry of row v marked
unfoldable pub mark_row : List ℕ → ℕ → List ℕ → List ℕ
mark_row t v ws = over (λ i w u. mark u v w) t 0 ws

-- every entry of the first k rows marked
unfoldable pub mark_rows : Graph → ℕ → List ℕ → List ℕ
mark_rows g zero t = t
mark_rows g (suc k) t = mark_row (mark_rows g k t) k (g.row k)

-- the entries of row v in turn
unfoldable pub quick_row : List ℕ → List ℕ → ℕ → ℕ → List ℕ → Reply
quick_row marks last n v ws = first_of (length ws) (λ i. quick_entry marks last n v (get_or ws i none) i)

-- row by row
unfoldable pub quick_rows : List ℕ → Graph → Reply
quick_rows marks g = first_of g.order (λ v. quick_row marks (last_places unkept (g.row v)) g.order v (g.row v))

-- 7, by the marks; n is the order
unfoldable pub quick_loop : List ℕ → ℕ → Reply
quick_loop marks n = first_of n (λ v. cond (marked marks v v) (Err (Loop v)) accepted)
