-- Two tests of the code, as the definitions have them. Assumes nothing.
use Prim.Native.Nat.{ℕ}
use mathlib.Core.Path.{◌≡◌}
use mathlib.Core.Bool.{not}
use mathlib.Core.List.{List}
use lib.Dec.{ltb, leb}
use borrow.Author.Tests.{le-leb, lt-leb, ltb-true, ltb-false}
use Rattle.std.specs.Prelude.{Option, is_some}
use Rattle.graphs.specs.Graph.{joined}
use Rattle.graphs.proofs.Count.{cases}
use Rattle.words.specs.Words.{numbers}
use Rattle.rows.specs.Sheet.{stretch, graph_of}
use Rattle.rows.specs.Lookup.{place_in}
use Rattle.rows.proofs.Stretches.{place_in-joined}

-- a neighbour, by its place in the row
pub neighbour : (s row : List ℕ) (v w : ℕ) (at : Option ℕ) → row ≡ stretch s v → at ≡ place_in (numbers row) w → joined (graph_of s) v w ≡ is_some at
neighbour = place_in-joined

-- none, as a test of the code
pub at_least : (n x m y : ℕ) → n ≡ m → x ≡ y → leb n x ≡ not (ltb y m)
at_least n x m y e f = rw (← e, ← f) (cases (ltb x n) (λ t. rw (t, lt-leb n x (ltb-true x n t))) (λ t. rw (t, le-leb n x (ltb-false x n t))))
