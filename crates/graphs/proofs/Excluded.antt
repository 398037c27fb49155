-- What the definitions shut out, each by one small case: rows that are not simple, pairs and sessions that are not allowed, a plan without some route,
-- and a size that a pairing passes. Assumes nothing.
use mathlib.Core.Path.{◌≡◌, refl, sym}
use mathlib.Core.Bool.{true, false}
use mathlib.Core.List.{[], ◌∷◌}
use Prim.Native.Nat.{ℕ, zero, suc, ◌-◌, ◌<◌}
use native.Mathlib.Omega.{arith}
use lib.ListN.{get_or}
use Rattle.graphs.specs.Count.{count}
use Rattle.graphs.specs.Graph.{Graph, Simple, joined, has}
use Rattle.graphs.specs.Layouts.{graph_of, two_joined, claw}
use Rattle.graphs.specs.Pairing.{Pairing, pairs}
use Rattle.graphs.specs.Largest.{Largest}
use Rattle.graphs.specs.Plan.{alone, both, may_hold, stands_in, stands, Plan}

abbrev clawed : Graph
clawed = graph_of claw

-- a test that both passes and fails
never : true ≡ false → ⊥
never z = let o : ◌≡◌ {A = ℕ} 0 1 = cc in omega arith

-- one route that is its own neighbour
pub no-loops : Simple (graph_of ((0 ∷ []) ∷ [])) → ⊥
unfolding has
no-loops s = never (s.no_loop 0 (omega arith))

-- two routes of which one names the other
pub no-one-way : Simple (graph_of ((1 ∷ []) ∷ [] ∷ [])) → ⊥
unfolding has
no-one-way s = never (sym (s.both_ways 0 1 (omega arith) refl))

-- one route with a neighbour that is no route
pub no-stranger : Simple (graph_of ((1 ∷ []) ∷ [])) → ⊥
unfolding has
no-stranger s = omega (arith, s.below 0 1 (omega arith) refl)

-- 1 and 2 of the claw are not joined: they are no pair, and no session
pub no-such-pair : Pairing clawed (λ v. get_or (4 ∷ 2 ∷ 1 ∷ []) v 4) → ⊥
unfolding has
no-such-pair p = never (sym (p.edge 1 (omega arith) (omega arith)))

pub no-such-session : may_hold clawed (both 1 2) ≡ false
unfolding may_hold has
no-such-session = refl

-- 2 names 0, and 0 names 1
pub no-shared-partner : Pairing clawed (λ v. get_or (1 ∷ 0 ∷ 0 ∷ []) v 4) → ⊥
no-shared-partner p = omega (arith, p.back 2 (omega arith) (omega arith))

-- 4 is no route of the claw
pub no-such-route : may_hold clawed (alone 4) ≡ false
unfolding may_hold
no-such-route = refl

-- 3 does not stand
pub no-route-missing : Plan clawed (both 0 1 ∷ alone 2 ∷ []) → ⊥
unfolding stands stands_in
no-route-missing p = never (sym (p.every 3 (omega arith)))

-- two joined routes are a pair, so no pair is not the largest size
two-paired : Pairing (graph_of two_joined) (λ v. 1 - v)
unfolding has
two-paired = record { edge = edge; back = λ v l k. omega arith }
  where
    edge : (v : ℕ) → v < 2 → 1 - v < 2 → joined (graph_of two_joined) v (1 - v) ≡ true
    edge zero l k = refl
    edge (suc zero) l k = refl
    edge (suc (suc v)) l k = absurd (omega arith)

pub not-largest : Largest (graph_of two_joined) 0 → ⊥
unfolding pairs count
not-largest m = omega (arith, m.most (λ v. 1 - v) two-paired)
