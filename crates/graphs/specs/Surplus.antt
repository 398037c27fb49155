-- The surplus of a set of routes: the parts with an odd number of routes that are left without it, less its size. Assumes nothing.
use Rattle.std.specs.Prelude.{Bool, ◌&&◌, List, ℕ, ◌%◌, eqb, ℤ, get_or}
use Rattle.std.proofs.Math.IntN.{sub_ℕ}
use Rattle.graphs.specs.Count.{count, but}
use Rattle.graphs.specs.Graph.{Graph}
use Rattle.graphs.specs.Parts.{parts}

abbrev pub is_odd : ℕ → Bool
is_odd k = eqb (k % 2) 1

-- v is outside the set A, and the least route of its part, by the table c, is r
abbrev pub in_part : List ℕ → (ℕ → Bool) → ℕ → ℕ → Bool
in_part c A r v = but (eqb (get_or c v 0) r) (A v)

-- r is the least route of a part that has an odd number of routes
abbrev pub odd_root : ℕ → List ℕ → (ℕ → Bool) → ℕ → Bool
odd_root n c A r = in_part c A r r && is_odd (count n (in_part c A r))

-- how many parts have an odd number of routes: each is counted at its least route
unfoldable pub odd_parts : Graph → (ℕ → Bool) → ℕ
odd_parts g A = let c = parts g A in count g.order (odd_root g.order c A)

-- a signed number: it may be below zero
unfoldable pub surplus : Graph → (ℕ → Bool) → ℤ
surplus g A = sub_ℕ (odd_parts g A) (count g.order A)
