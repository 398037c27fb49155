-- What the bytes of a pairing and of a witness mean.
use Rattle.std.specs.Prelude.{ℕ, Bool, List}
use Rattle.graphs.specs.Graph.{in_set}
use Rattle.words.specs.Words.{word}

-- the partner of a route, or none
abbrev pub mate_of : List ℕ → ℕ → ℕ
mate_of pairing v = word pairing v

-- the routes whose byte is 1
abbrev pub set_of : List ℕ → ℕ → Bool
set_of witness v = in_set witness v
