-- The theorems at the ten routes and at the claw: their conditions can be met. Assumes nothing.
use mathlib.Core.Path.{refl}
use mathlib.Core.List.{List, [], ◌∷◌}
use Prim.Native.Nat.{ℕ}
use native.Mathlib.Omega.{arith}
use Rattle.limits.specs.Limits.{none}
use Rattle.graphs.specs.Count.{all}
use Rattle.graphs.specs.Graph.{Simple, has}
use Rattle.graphs.specs.Layouts.{graph_of, claw, ten_routes}
use Rattle.graphs.specs.Largest.{Largest}
use Rattle.theory.specs.Search.Promise.{mate_of, Valid, Fits, Gained, Shown}
use Rattle.graphs.proofs.Tests.{simple_test, simple, pairing_test, pairing, all_in}
use Rattle.theory.proofs.Search.Searched.{search-found, search-stuck}
use Rattle.theory.proofs.Search.Improved.{largest-some}
use Rattle.theory.proofs.Search.Runs.{ten-found, claw-stuck}

abbrev start : List ℕ
start = none ∷ 2 ∷ 1 ∷ 4 ∷ 3 ∷ 6 ∷ 5 ∷ 8 ∷ 7 ∷ none ∷ []

ten-simple : Simple (graph_of ten_routes)
unfolding simple_test all all_in has
ten-simple = simple (graph_of ten_routes) refl

ten-fits : Fits 10 (graph_of ten_routes)
ten-fits = record { routes = omega arith; small = omega arith }

ten-valid : Valid (graph_of ten_routes) start
unfolding pairing_test all has
ten-valid = record { long = omega arith; pairing = pairing (graph_of ten_routes) (mate_of start) refl }

-- from four pairs to five
ten-gained : Gained (graph_of ten_routes) start (1 ∷ 0 ∷ 6 ∷ 7 ∷ 5 ∷ 4 ∷ 2 ∷ 3 ∷ 9 ∷ 8 ∷ [])
ten-gained = search-found ten-simple ten-fits ten-valid (1 ∷ 0 ∷ 6 ∷ 7 ∷ 5 ∷ 4 ∷ 2 ∷ 3 ∷ 9 ∷ 8 ∷ []) ten-found

ten-largest : (m : ℕ) × Largest (graph_of ten_routes) m
ten-largest = largest-some ten-simple (omega arith)

claw-simple : Simple (graph_of claw)
unfolding simple_test all all_in has
claw-simple = simple (graph_of claw) refl

claw-fits : Fits 4 (graph_of claw)
claw-fits = record { routes = omega arith; small = omega arith }

claw-valid : Valid (graph_of claw) (1 ∷ 0 ∷ none ∷ none ∷ [])
unfolding pairing_test all has
claw-valid = record { long = omega arith; pairing = pairing (graph_of claw) (mate_of (1 ∷ 0 ∷ none ∷ none ∷ [])) refl }

-- 0 with 1 is the most that the claw allows
claw-shown : Shown (graph_of claw) (1 ∷ 0 ∷ none ∷ none ∷ []) (1 ∷ 0 ∷ 0 ∷ 0 ∷ [])
claw-shown = search-stuck claw-simple claw-fits claw-valid (1 ∷ 0 ∷ 0 ∷ 0 ∷ []) claw-stuck
