-- The claw with a pairing, a set and a plan: none of the records is empty. Assumes nothing.
use mathlib.Core.Path.{◌≡◌, refl}
use mathlib.Core.Bool.{true}
use mathlib.Core.List.{List, [], ◌∷◌}
use Prim.Native.Nat.{ℕ, ◌≤◌, ◌<◌}
use lib.IntN.{pos}
use lib.ListN.{length, get_or}
use Rattle.graphs.specs.Count.{count, all, total}
use Rattle.graphs.specs.Graph.{Graph, Simple, has, distinct, in_set, edges, entries}
use Rattle.graphs.specs.Parts.{parts, link_rows, link_row, link, join, merge, run}
use Rattle.graphs.specs.Surplus.{surplus, odd_parts}
use Rattle.graphs.specs.Layouts.{graph_of, claw}
use Rattle.graphs.specs.Pairing.{Pairing, unpaired, pairs, sessions}
use Rattle.graphs.specs.Largest.{Largest}
use Rattle.graphs.specs.Plan.{Session, alone, both, may_hold, may_hold_all, stands_in, stands, Plan}
use Rattle.graphs.proofs.Count.{all-at}
use Rattle.graphs.proofs.Tests.{simple, simple_test, all_in, pairing, pairing_test}
use Rattle.graphs.proofs.Largest.{largest-tight}
use Rattle.graphs.proofs.Plan.{no-fewer-sessions}

-- 0 joined to 1, 2, 3
abbrev sample : Graph
sample = graph_of claw

-- 0 with 1; the others have 4, which is no route
abbrev mates : ℕ → ℕ
mates v = get_or (1 ∷ 0 ∷ 4 ∷ 4 ∷ []) v 4

-- the set {0}: without it three parts of one route are left
abbrev marks : List ℕ
marks = 1 ∷ 0 ∷ 0 ∷ 0 ∷ []

-- 0 with 1, then 2, then 3
abbrev three : List Session
three = both 0 1 ∷ alone 2 ∷ alone 3 ∷ []

sample-simple : Simple sample
unfolding simple_test all all_in has
sample-simple = simple sample refl

sample-pairing : Pairing sample mates
unfolding pairing_test all has
sample-pairing = pairing sample mates refl

-- 2 routes are unpaired, and the surplus is 2
sample-tight : surplus sample (in_set marks) ≡ pos (unpaired sample mates)
unfolding surplus odd_parts unpaired count has parts link_rows link_row link join merge run
sample-tight = refl

sample-largest : Largest sample 1
unfolding pairs count
sample-largest = largest-tight sample sample-simple mates sample-pairing (in_set marks) sample-tight

sample-plan : Plan sample three
unfolding may_hold_all may_hold stands stands_in all has
sample-plan = record { held = refl; every = all-at 4 (stands three) refl }

-- and there is no shorter one
sample-fewest : {ss : List Session} → Plan sample ss → 3 ≤ length ss
unfolding sessions pairs count
sample-fewest p = no-fewer-sessions sample sample-simple mates sample-pairing (in_set marks) sample-tight p

-- its rows are distinct: six entries, three joined pairs
sample-distinct : (v : ℕ) → v < 4 → distinct (sample.row v) ≡ true
unfolding all distinct has
sample-distinct = all-at 4 (λ v. distinct (sample.row v)) refl

sample-entries : entries sample ≡ 6
unfolding entries total
sample-entries = refl

sample-edges : edges sample ≡ 3
unfolding edges total count has
sample-edges = refl
