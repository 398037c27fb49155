-- What the lent bytes of a pairing hold: its partners as a table, its size, and the sessions that it leaves. Assumes nothing.
use Rattle.std.specs.Prelude.{ℕ, List, map}
use Rattle.limits.specs.Limits.{routes}
use Rattle.graphs.specs.Parts.{run}
use Rattle.graphs.specs.Pairing.{pairs, sessions}
use Rattle.words.specs.Words.{word}
use Rattle.rows.specs.Sheet.{graph_of}
use Rattle.causes.specs.Given.{mate_of}

-- the partners that the bytes hold, as the table of a search: past the last, none
unfoldable pub partners_of : List ℕ → List ℕ
partners_of pairing = map (word pairing) (run 0 routes)

-- the size of a pairing, read from its bytes
unfoldable pub size_of : List ℕ → List ℕ → ℕ
size_of s pairing = pairs (graph_of s) (mate_of pairing)

-- the sessions that it leaves
unfoldable pub sessions_of : List ℕ → List ℕ → ℕ
sessions_of s pairing = sessions (graph_of s) (mate_of pairing)
